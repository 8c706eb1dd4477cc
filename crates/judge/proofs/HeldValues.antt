-- How the judge makes the lists of an account: by the last index that passes a test, and by the
-- values that the image has.
use Rattle.std.proofs.Common.{false, not, ◌&&◌, ◌||◌, Option, Some, None, inr, arith, ◌≡◌, ℕ, zero}
use Rattle.std.proofs.Common.{◌+◌, ◌-◌, ◌*◌, ◌/◌, suc, ◌<◌, ◌≤◌, Bool, true, replicate, List, take}
use Rattle.std.proofs.Common.{drop, length, set, refl, ap, sym, ◌∙◌, inl}
use Rattle.std.specs.Prelude.{◌⊎◌, slice_get, nat_lt, nat_le, if◌then◌else◌}
use Rattle.std.proofs.lemmas.Bool.{and_parts, lt-ltb, ltb-true, le-leb, leb-true, cases_lt}
use Rattle.std.proofs.lemmas.List.{get_or-set_other, drop-replicate, take-replicate, length-set}
use Rattle.std.proofs.lemmas.List.{get_or-set_same}
use Rattle.std.specs.Str.{bytes_eq}
use Rattle.bio.specs.Content.{Content, over, sector_of}
use Rattle.bio.specs.ContentLaws.{over-after, over-before, over-in}
use Rattle.bio.specs.declared.event.CoreEvent.{CoreEvent}
use Rattle.bio.specs.Events.{end_of, is_before, is_below, is_flush_submit}
use Rattle.bio.specs.PlaceLaws.{any_below-ext, any_below-none, bool_cases, last_or_below, or_second}
use Rattle.bio.specs.Places.{any_below}
use Rattle.bio.specs.Possible.{covers_at, ended_ok, is_durable, is_flushed, is_kept, is_replaced}
use Rattle.bio.specs.RequestLaws.{uncovered_value}
use Rattle.judge.specs.Accounts.{is_held_from, is_value, last_below, place_at}
use Rattle.judge.specs.inside.{AreCovered, AreFit, AreHeld, AreLastKept, has_value_of}
use Rattle.judge.specs.inside.{is_below_last, is_sure_flush}

later_too : (end : Option ℕ) (m n : ℕ) → m ≤ n → is_below end m ≡ true → is_below end n ≡ true
later_too None m n h below = below
later_too (Some end) m n h below = let less = ltb-true end m below in lt-ltb end n (omega arith)

-- the last place that passes is enough to decide whether any place after the end passes
pub any_after-last : (test : ℕ → Bool) (end : Option ℕ) (n : ℕ)
    → any_below (λ place. test place && is_below end place) n
    ≡ is_below_last end (last_below test n)
any_after-last test end zero = refl
any_after-last test end (suc n) = elim (bool_cases (test n)) [
  | inl here ↦
      ap (λ b. any_below (λ place. test place && is_below end place) n
      || (b && is_below end n)) here
      ∙ joined (bool_cases (is_below end n))
      ∙ sym (grind (arith, here))
  | inr other ↦
      ap (λ b. any_below (λ place. test place && is_below end place) n
      || (b && is_below end n)) other
      ∙ or_false (any_below (λ place. test place && is_below end place) n)
      ∙ any_after-last test end n
      ∙ sym (grind (arith, other))
]
  where
    or_false : (a : Bool) → (a || false) ≡ a
    or_false true = refl
    or_false false = refl

    joined : (is_below end n ≡ true) ⊎ (is_below end n ≡ false)
        → (any_below (λ place. test place && is_below end place) n || is_below end n)
        ≡ is_below end n
    joined (inl yes_below) = grind (arith, or_second)
    joined (inr not_below) =
        ap (λ b. any_below (λ place. test place && is_below end place) n || b) not_below
        ∙ or_false (any_below (λ place. test place && is_below end place) n)
        ∙ any_below-none (λ place. test place && is_below end place) n
        (λ k h. none k h (bool_cases (is_below end k)))
        ∙ sym not_below
      where
        and_false : (a : Bool) → (a && false) ≡ false
        and_false true = refl
        and_false false = refl

        none : (k : ℕ) → k < n → (is_below end k ≡ true) ⊎ (is_below end k ≡ false)
            → (test k && is_below end k) ≡ false
        none k h (inl below) = grind (arith, later_too)
        none k h (inr above) = grind (arith, and_false)

pub flushed_last : (events : List CoreEvent) (id : ℕ)
    → is_flushed events id ≡ is_below_last (end_of events id)
    (last_below (is_sure_flush events) (length events))
flushed_last events id =
    any_below-ext
    (λ flush. is_flush_submit (slice_get events flush)
    && (ended_ok events flush && is_before events id flush))
    (λ flush. is_sure_flush events flush && is_below (end_of events id) flush)
    (length events)
    (λ k h. joined (is_flush_submit (slice_get events k)) (ended_ok events k)
    (is_before events id k))
    ∙ any_after-last (is_sure_flush events) (end_of events id) (length events)
  where
    joined : (a b c : Bool) → (a && (b && c)) ≡ ((a && b) && c)
    joined true b c = refl
    joined false b c = refl

pub replaced_last : (events : List CoreEvent) (sector id : ℕ)
    → is_replaced events sector id
    ≡ is_below_last (end_of events id) (last_below (is_kept events sector) (length events))
replaced_last events sector id =
    any_after-last (is_kept events sector) (end_of events id) (length events)

pub last_kept_durable : (events : List CoreEvent) (event : CoreEvent) (sectors place : ℕ)
    (old new : List (Option ℕ))
    → slice_get events place ≡ Some event → is_durable events place ≡ true → length new ≡ length old
    → ((sector : ℕ) → sector < length old → covers_at sector (Some event) ≡ true
    → place_at new sector ≡ Some place)
    → ((sector : ℕ) → sector < length old → covers_at sector (Some event) ≡ false
    → place_at new sector ≡ place_at old sector)
    → AreLastKept events sectors place old → AreLastKept events sectors (suc place) new
last_kept_durable events event sectors place old new is durable size covered other before = record {
  size = size ∙ before.size;
  each = λ sector h. by_test sector h (bool_cases (covers_at sector (Some event)));
}
  where
    kept : (sector : ℕ) (b : Bool) → covers_at sector (Some event) ≡ b
        → is_kept events sector place ≡ b
    kept sector b covers = grind arith

    by_test : (sector : ℕ) → sector < sectors
        → (covers_at sector (Some event) ≡ true) ⊎ (covers_at sector (Some event) ≡ false)
        → place_at new sector ≡ last_below (is_kept events sector) (suc place)
    by_test sector h (inl covers) = grind arith
    by_test sector h (inr passes) = grind arith

pub last_kept_other : (events : List CoreEvent) (sectors place : ℕ) (last : List (Option ℕ))
    → is_durable events place ≡ false → AreLastKept events sectors place last
    → AreLastKept events sectors (suc place) last
last_kept_other events sectors place last durable before = grind arith

pub covered_in : (event : Option CoreEvent) (sectors from to sector : ℕ)
    → AreCovered event sectors from to → sector < sectors
    → covers_at sector event ≡ true → (from ≤ sector) × (sector < to)
covered_in event sectors from to sector are within covers =
    grind (arith, and_parts, leb-true, ltb-true)

pub covered_out : (event : Option CoreEvent) (sectors from to sector : ℕ)
    → AreCovered event sectors from to → sector < sectors
    → covers_at sector event ≡ false → (sector < from) ⊎ (to ≤ sector)
covered_out event sectors from to sector are within covers =
    by_test (bool_cases (nat_le from sector)) (bool_cases (nat_lt sector to))
  where
    by_test : (nat_le from sector ≡ true) ⊎ (nat_le from sector ≡ false)
        → (nat_lt sector to ≡ true) ⊎ (nat_lt sector to ≡ false)
        → (sector < from) ⊎ (to ≤ sector)
    by_test (inr low) high = grind (arith, cases_lt, le-leb)
    by_test (inl low) (inr high) = grind (arith, cases_lt, lt-ltb)
    by_test (inl low) (inl high) = grind arith

pub fit_here : (event : Option CoreEvent) (end : Option ℕ) (last : List (Option ℕ)) (now : Content)
    (place from sector : ℕ) (old held : List (Option ℕ))
    → sector < length held → has_value_of event end last now sector ≡ true
    → from ≤ sector → AreFit event end last now place from sector old held
    → AreFit event end last now place from (suc sector) old (set held sector (Some place))
fit_here event end last now place from sector old held within fits low before =
    grind (arith, length-set, last_or_below, get_or-set_same, get_or-set_other)

pub fit_not : (event : Option CoreEvent) (end : Option ℕ) (last : List (Option ℕ)) (now : Content)
    (place from sector : ℕ) (old held : List (Option ℕ))
    → has_value_of event end last now sector ≡ false
    → from ≤ sector → AreFit event end last now place from sector old held
    → AreFit event end last now place from (suc sector) old held
fit_not event end last now place from sector old held fails low before =
    grind (arith, last_or_below)

-- sectors outside the event's range have no value of it, so a walk over the range is enough
pub fit_all : (event : Option CoreEvent) (end : Option ℕ) (last : List (Option ℕ)) (now : Content)
    (place from to : ℕ) (old new : List (Option ℕ))
    → AreCovered event (length old) from to → AreFit event end last now place from to old new
    → (sector : ℕ) → sector < length old
    → place_at new sector ≡ (if has_value_of event end last now sector then Some place else place_at old
    sector)
fit_all event end last now place from to old new covered fit sector within =
    elim (bool_cases (covers_at sector event)) [
      | inl covers ↦
          grind (arith, covered_in, length)
      | inr passes ↦
          grind (arith, covered_out, length, not, uncovered_value)
    ]
  where
    and_false : (a : Bool) → (a && false) ≡ false
    and_false true = refl
    and_false false = refl

pub held_next : (events : List CoreEvent) (event : CoreEvent) (now : Content) (sectors place : ℕ)
    (end : Option ℕ) (last : List (Option ℕ)) (old new : List (Option ℕ))
    → slice_get events place ≡ Some event → end ≡ end_of events place
    → AreLastKept events sectors (length events) last
    → length new ≡ length old
    → ((sector : ℕ) → sector < length old
    → place_at new sector ≡ (if has_value_of
    (Some event) end last now sector then Some place else place_at old sector))
    → AreHeld events now sectors place old → AreHeld events now sectors (suc place) new
held_next events event now sectors place end last old new is ends kept size fit before = record {
  size = size ∙ before.size;
  each = λ sector within.
      let long = before.size in
      fit sector (omega arith)
      ∙ ap (λ (o : Option ℕ). if has_value_of (Some event) end last now sector then Some place else o)
      (before.each sector within)
      ∙ ap (λ b. if b then Some place else last_below (is_held_from events now sector) place)
      (same sector within);
}
  where
    same : (sector : ℕ) → sector < sectors
        → has_value_of (Some event) end last now sector ≡ is_held_from events now sector place
    same sector within =
        grind (arith, replaced_last)

pub part_is_sector : (image : List ℕ) (sector : ℕ)
    → take (sector * 512 + 512 - sector * 512) (drop (sector * 512) image) ≡ sector_of image sector
part_is_sector image sector = grind arith

pub no_value : (first count sector : ℕ) (part : ℕ → List ℕ) (value : List ℕ)
    → (sector < first) ⊎ (first + count ≤ sector)
    → false ≡ is_value (over first count part sector) value
no_value first count sector part value outside = grind (arith, over-before, over-after)

pub some_value : (first count sector place : ℕ) (part : ℕ → List ℕ) (value bytes : List ℕ)
    → sector ≡ first + place → place < count
    → bytes ≡ part place → bytes_eq bytes value ≡ is_value (over first count part sector) value
some_value first count sector place part value bytes is within same = grind (arith, over-in)

pub zero_sector : (count sector : ℕ) → sector < count / 512
    → sector_of (replicate count 0) sector ≡ replicate 512 0
zero_sector count sector within =
    ap (take 512) (drop-replicate (512 * sector) count 0)
    ∙ take-replicate 512 (count - 512 * sector) 0 (omega (arith, within))
