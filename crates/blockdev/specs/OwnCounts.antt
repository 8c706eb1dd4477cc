-- The view of a layer that counts its own faults and lies in addition to those of the device below
-- it.
use Rattle.std.proofs.Common.{◌≡◌, ℕ, ◌+◌, ◌<◌, ◌≤◌, Bool, false, Err, ap, ◌∙◌, inl, inr, arith}
use Rattle.std.proofs.lemmas.Bool.{cases_lt, or_parts}
use Rattle.std.specs.Prelude.{◌⊎◌, ◌||◌, Result, min}
use Rattle.bio.specs.declared.outcome.DevError.{DevError}
use Rattle.bio.specs.Content.{Patch}
use Rattle.blockdev.specs.View.{IsLawful, View, last_count}
use Rattle.blockdev.specs.Law.{DeviceFrame, HasCause, NoLie}

-- the sum of two counts, at most the maximum count
abbrev pub sum_of : ℕ → ℕ → ℕ
sum_of a b = min (a + b) last_count

-- a count plus one, at most the maximum count
abbrev pub one_more : ℕ → ℕ
one_more count = sum_of count 1

-- the view of a layer over a device with the view `v`: the layer's own `faults` and `lies` are
-- added to the counts. The layer can lie if it drops calls (`drops`) or the device can lie.
abbrev pub counted : View → ℕ → ℕ → Bool → View
counted v faults lies drops = record {
  size = v.size;
  origin = v.origin;
  content = v.content;
  crash = v.crash;
  clock = v.clock;
  since = v.since;
  faults = sum_of v.faults faults;
  lies = sum_of v.lies lies;
  can_lie = v.can_lie || drops;
}

-- If the lower device's view is lawful, so is the layer's.
pub lawful_counted : (v : View) (faults lies : ℕ) (drops : Bool) → IsLawful v
    → IsLawful (counted v faults lies drops)
lawful_counted v faults lies drops lawful = record {
  some_sectors = lawful.some_sectors;
  few_sectors = lawful.few_sectors;
  current = lawful.current;
  nested = lawful.nested;
  only_now = lawful.only_now;
  whole = lawful.whole;
  faults = omega arith;
  lies = omega arith;
}

-- Suppose that the layer's own counts don't decrease, and that its own lies stay unless it drops
-- calls. If the lower device satisfies the frame of a call, so does the layer.
pub goes_counted : (patch : Patch) (v w : View) (faults more_faults lies more_lies : ℕ)
    (drops later : Bool) → faults ≤ more_faults → lies ≤ more_lies
    → later ≡ drops → (drops ≡ false → more_lies ≡ lies)
    → DeviceFrame patch v w → DeviceFrame patch (counted v faults lies drops)
    (counted w more_faults more_lies later)
goes_counted patch v w faults more_faults lies more_lies drops later h k stays honest goes =
    record {
      size = goes.size;
      origin = goes.origin;
      content = goes.content;
      crash = goes.crash;
      clock = goes.clock;
      gains = goes.gains;
      keeps = goes.keeps;
      faults = let low = goes.faults in omega arith;
      lies = let low = goes.lies in omega arith;
      can_lie =
          ap (λ (below : Bool). below || later) goes.can_lie
          ∙ ap (λ (own : Bool). v.can_lie || own) stays;
      honest = λ none.
          let same = honest (or_parts v.can_lie drops none).1 in
          let below = goes.honest (or_parts v.can_lie drops none).0 in
          omega arith;
    }

-- If a layer counts one more lie of its own, `NoLie` doesn't hold.
pub own_lie : (v : View) (faults lies : ℕ) (drops later : Bool) → lies ≤ last_count
    → NoLie (counted v faults lies drops) (counted v faults (one_more lies) later) → ⊥
own_lie v faults lies drops later h told =
    let same = told.same in
    let below = told.counted in
    omega arith

-- If a result of the lower device has its cause (`HasCause`), so has the same result of the layer.
pub cause_counted : (now : ℕ) (v w : View) (result : Result ℕ DevError)
    (faults more_faults lies more_lies : ℕ) (drops later : Bool) → faults ≤ more_faults
    → HasCause now v w result
    → HasCause now (counted v faults lies drops) (counted w more_faults more_lies later) result
cause_counted now v w result faults more_faults lies more_lies drops later h cause = record {
  failed = λ is. elim (cause.failed is) [
    | inl grew ↦ more grew
    | inr full ↦ inr (omega arith)
  ];
  ends = cause.ends;
}
  where
    more : v.faults < w.faults
        → (sum_of v.faults faults < sum_of w.faults more_faults)
        ⊎ (sum_of w.faults more_faults ≡ last_count)
    more grew = elim (cases_lt (sum_of v.faults faults) (sum_of w.faults more_faults)) [
      | inl less ↦ inl less
      | inr same ↦ inr (omega arith)
    ]

-- If a layer counts one more fault of its own, each error that it returns has its cause.
pub own_cause : (now : ℕ) (v : View) (faults lies : ℕ) (drops later : Bool) (error : DevError)
    → HasCause now (counted v faults lies drops) (counted v (one_more faults) lies later)
    (Err error)
own_cause now v faults lies drops later error = record {
  failed = λ is. elim (cases_lt (sum_of v.faults faults) (sum_of v.faults (one_more faults))) [
    | inl less ↦ inl less
    | inr same ↦ inr (omega arith)
  ];
  ends = λ end is. let never : ⊥ = cc in absurd never;
}
