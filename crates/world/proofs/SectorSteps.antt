-- The effect of one request's steps on the machine, sector by sector.
use Rattle.std.proofs.Common.{◌≡◌, ℕ, zero, suc, ◌+◌, ◌<◌, ◌≤◌, ◌==◌, Bool, true, false, ◌&&◌, Some}
use Rattle.std.proofs.Common.{List, [], ◌∷◌, ◌++◌, refl, ap, sym, ◌∙◌, inl, inr, arith}
use Rattle.std.proofs.lemmas.Bool.{and_parts, cases_lt, le-leb, le-ltb, leb-true, lt-ltb, ltb-true}
use Rattle.std.proofs.lemmas.Bool.Decides.{eqb_tells}
use Rattle.std.specs.Prelude.{◌⊎◌, nat_le, nat_lt, slice_get, if◌then◌else◌}
use Rattle.bio.specs.Places.{collect}
use Rattle.bio.specs.PlaceLaws.{bool_cases}
use Rattle.bio.specs.declared.request.Bio.{Bio}
use Rattle.bio.specs.declared.event.CoreEvent.{CoreEvent}
use Rattle.bio.specs.declared.event.CoreEvent.TheVariants as core_events
use Rattle.bio.specs.Possible.{covers_at}
use Rattle.bio.specs.RequestLaws.{covers-within}
use Rattle.bio.specs.Requests.{covers, first_sector, is_tracked, sector_count}
use Rattle.world.specs.declared.step.Step.{Step}
use Rattle.world.specs.Machine.{Machine, machine_after, has_step, is_among, is_pending, is_run, taken}
use Rattle.world.specs.Machine.{with_sector}
use Rattle.world.specs.inside.{by_sector, touch}
use Rattle.world.proofs.Calls.{among_more, clash, with_here}
use Rattle.bio.specs.PlaceLaws.{or_cases}
use Rattle.std.proofs.lemmas.Bool.{eqb-true}

-- `steps` is a run from `old` to `new`
pub record StepsFrame (events : List CoreEvent) (old : Machine) (steps : List Step)
    (new : Machine) : Type 0 where
  pub runs : is_run events old steps ≡ true
  pub ends : taken old steps ≡ new

run_append : (events : List CoreEvent) (m : Machine) (xs ys : List Step)
    → is_run events m (xs ++ ys) ≡ (is_run events m xs && is_run events (taken m xs) ys)
run_append events m [] ys = refl
run_append events m (step ∷ xs) ys =
    ap (λ b. has_step events m step && b) (run_append events (machine_after m step) xs ys)
    ∙ joined (has_step events m step) (is_run events (machine_after m step) xs)
    (is_run events (taken (machine_after m step) xs) ys)
  where
    joined : (a b c : Bool) → (a && (b && c)) ≡ ((a && b) && c)
    joined true b c = refl
    joined false b c = refl

taken_append : (m : Machine) (xs ys : List Step) → taken m (xs ++ ys) ≡ taken (taken m xs) ys
taken_append m [] ys = refl
taken_append m (step ∷ xs) ys = taken_append (machine_after m step) xs ys

pub go_on : (events : List CoreEvent) (a b c : Machine) (xs ys : List Step)
    → StepsFrame events a xs b → StepsFrame events b ys c → StepsFrame events a (xs ++ ys) c
go_on events a b c xs ys front back = grind (arith, run_append, taken_append)

pub go_none : (events : List CoreEvent) (m : Machine) → StepsFrame events m [] m
go_none events m = record { runs = refl; ends = refl }

pub go_one : (events : List CoreEvent) (m : Machine) (step : Step) → has_step events m step ≡ true
    → StepsFrame events m (step ∷ []) (machine_after m step)
go_one events m step has = grind arith

abbrev pub by_test : Bool → ℕ → List ℕ → List ℕ → List ℕ
by_test test id landed other = if test then id ∷ landed else other

pub by_cases : (P : List ℕ → Type 0) (test : Bool) (id : ℕ) (landed other : List ℕ)
    → (test ≡ true → P (id ∷ landed)) → (test ≡ false → P other)
    → P (by_test test id landed other)
by_cases P true id landed other yes_so not_so = yes_so refl
by_cases P false id landed other yes_so not_so = not_so refl

-- In each sector of `done`, the request `id` has landed if `lands` holds, and the sector was then
-- destaged if `settles` holds too. Nothing else has changed.
pub record Touched (done lands settles : ℕ → Bool) (id : ℕ) (old new : Machine) : Type 0 where
  pub landed : (sector : ℕ)
      → new.landed sector ≡ by_test (done sector && lands sector) id (old.landed sector)
      (old.landed sector)
  pub settled : (sector : ℕ)
      → new.settled sector ≡ by_test (done sector && (lands sector && settles sector)) id
      (old.landed sector) (old.settled sector)
  pub calls : new.calls ≡ old.calls
  pub off : new.off ≡ old.off

with_is : (test : ℕ → Bool) (sector id : ℕ) (landed other : ℕ → List ℕ) (at : ℕ)
    → test sector ≡ true
    → with_sector sector (id ∷ landed sector) other at
    ≡ by_test (at == sector && test at) id (landed at) (other at)
with_is test sector id landed other at holds = grind (arith, eqb_tells)

with_not : (test : ℕ → Bool) (sector id : ℕ) (landed other : ℕ → List ℕ) (at : ℕ)
    → test sector ≡ false
    → other at ≡ by_test (at == sector && test at) id (landed at) (other at)
with_not test sector id landed other at fails = grind (arith, eqb_tells)

touch_one : (events : List CoreEvent) (m : Machine) (lands settles : ℕ → Bool) (id sector : ℕ)
    → m.off ≡ false → is_pending m id ≡ true
    → covers_at sector (slice_get events id) ≡ true
    → (lands sector ≡ true → is_among (m.landed sector) id ≡ false)
    → (new : Machine) × StepsFrame events m (touch (lands sector) (settles sector) id sector) new
    × Touched (λ at. at == sector) lands settles id m new
touch_one events m lands settles id sector on pending covered fresh =
    grind (arith, bool_cases, go_none, with_not, go_one, with_is, with_here, go_on)

touched_both : (first second both lands settles : ℕ → Bool) (id : ℕ) (old mid new : Machine)
    → ((at : ℕ) → first at ≡ true → (second at ≡ false) × (both at ≡ true))
    → ((at : ℕ) → first at ≡ false → both at ≡ second at)
    → Touched first lands settles id old mid → Touched second lands settles id mid new
    → Touched both lands settles id old new
touched_both first second both lands settles id old mid new yes_so not_so a b =
    grind (arith, bool_cases)

abbrev pub is_in : ℕ → ℕ → ℕ → Bool
is_in first count at = nat_le first at && nat_lt at (first + count)

past_range : (first n at : ℕ) → first + n ≤ at → is_in first n at ≡ false
past_range first n at h =
    ap (λ b. nat_le first at && b) (le-ltb at (first + n) h) ∙ and_false (nat_le first at)
  where
    and_false : (a : Bool) → (a && false) ≡ false
    and_false true = refl
    and_false false = refl

in_range : (first n at : ℕ) → first ≤ at → at < first + n → is_in first n at ≡ true
in_range first n at low high = grind (arith, le-leb, lt-ltb)

longer_in : (first n at : ℕ) → is_in first n at ≡ true
    → ((at == first + n) ≡ false) × (is_in first (suc n) at ≡ true)
longer_in first n at within = elim (cases_lt at (first + n)) [
  | inl less ↦ elim (eqb_tells at (first + n)) [
    | inl same ↦ absurd (let is = same.1 in omega arith)
    | inr differ ↦ elim (cases_lt at first) [
      | inl before ↦
          grind (arith, clash)
      | inr from ↦ (differ.0, in_range first (suc n) at from (omega arith))
    ]
  ]
  | inr more ↦ clash (is_in first n at) within (past_range first n at more)
]
  where
    below : (a b : ℕ) → b < a → nat_le a b ≡ false
    below a b less = grind (arith, bool_cases, leb-true)

longer_not : (first n at : ℕ) → is_in first n at ≡ false
    → is_in first (suc n) at ≡ (at == first + n)
longer_not first n at out =
    grind (arith, eqb_tells, in_range, bool_cases, and_parts, leb-true, ltb-true)

touch_range : (events : List CoreEvent) (m : Machine) (lands settles : ℕ → Bool) (id first n : ℕ)
    → m.off ≡ false → is_pending m id ≡ true
    → ((k : ℕ) → k < n → covers_at (first + k) (slice_get events id) ≡ true)
    → ((k : ℕ) → k < n → lands (first + k) ≡ true → is_among (m.landed (first + k)) id ≡ false)
    → (new : Machine) × StepsFrame events m
    (collect (λ k. touch (lands (first + k)) (settles (first + k)) id (first + k)) n) new
    × Touched (is_in first n) lands settles id m new
touch_range events m lands settles id first zero on pending covered fresh = (
  m,
  go_none events m,
  record {
    landed = λ at. sym (grind (arith, none at));
    settled =
        λ at. grind arith;
    calls = refl;
    off = refl;
  },
)
  where
    none : (at : ℕ) → is_in first zero at ≡ false
    none at = grind (arith, bool_cases, and_parts, leb-true, ltb-true)
touch_range events m lands settles id first (suc n) on pending covered fresh =
    let front =
    touch_range events m lands settles id first n on pending
    (λ k h. covered k (omega arith)) (λ k h. fresh k (omega arith)) in
    let mid = front.0 in
    let touched = front.2 in
    let same : mid.landed (first + n) ≡ m.landed (first + n) =
    touched.landed (first + n)
    ∙ ap (λ t. by_test (t && lands (first + n)) id (m.landed (first + n)) (m.landed (first + n)))
    (past_range first n (first + n) (omega arith)) in
    let last = touch_one events mid lands settles id (first + n) (touched.off ∙ on)
    (grind (arith, touched.calls)
    ∙ pending)
    (covered n (omega arith))
    (λ goes. ap (λ ids. is_among ids id) same ∙ fresh n (omega arith) goes) in (
      last.0,
      go_on events m mid last.0
          (collect (λ k. touch (lands (first + k)) (settles (first + k)) id (first + k)) n)
          (touch (lands (first + n)) (settles (first + n)) id (first + n)) front.1 last.1,
      touched_both (is_in first n) (λ at. at == first + n)
          (is_in first (suc n)) lands settles id m mid last.0 (longer_in first n)
          (longer_not first n) touched last.2,
    )

pub touch_all : (events : List CoreEvent) (m : Machine) (lands settles : ℕ → Bool) (id : ℕ)
    (bio : Bio) → slice_get events id ≡ Some (core_events.Submit bio)
    → is_tracked bio ≡ true → m.off ≡ false → is_pending m id ≡ true
    → ((sector : ℕ) → covers bio sector ≡ true → lands sector ≡ true
    → is_among (m.landed sector) id ≡ false)
    → (new : Machine) × StepsFrame events m
    (by_sector (λ sector. touch (lands sector) (settles sector) id sector)
    (Some (core_events.Submit bio))) new
    × Touched (covers bio) lands settles id m new
touch_all events m lands settles id bio is tracked on pending fresh =
    let first = first_sector bio in
    let n = sector_count bio in
    let within : (k : ℕ) → k < n → covers bio (first + k) ≡ true =
    λ k h. covers-within bio (first + k) tracked (omega arith) (omega arith) in
    let range =
    touch_range events m lands settles id first n on pending
    (λ k h. ap (covers_at (first + k)) is ∙ within k h)
    (λ k h. fresh (first + k) (within k h)) in
    let touched = range.2 in
    let same : (at : ℕ) → is_in first n at ≡ covers bio at =
    λ at. sym (grind (arith, tracked)) in (
      range.0,
      range.1,
      record {
        landed =
            λ at. grind arith;
        settled =
            λ at. grind arith;
        calls = touched.calls;
        off = touched.off;
      },
    )

pub more_landed : (done lands settles : ℕ → Bool) (id : ℕ) (old new : Machine) (sector other : ℕ)
    → Touched done lands settles id old new
    → is_among (old.landed sector) other ≡ true → is_among (new.landed sector) other ≡ true
more_landed done lands settles id old new sector other touched among =
    grind (arith, by_cases, among_more)

pub landed_from : (done lands settles : ℕ → Bool) (id : ℕ) (old new : Machine) (sector other : ℕ)
    → Touched done lands settles id old new
    → is_among (new.landed sector) other ≡ true
    → (((done sector && lands sector) ≡ true) × (id ≡ other))
    ⊎ (is_among (old.landed sector) other ≡ true)
landed_from done lands settles id old new sector other touched among =
    grind (arith, by_cases, or_cases, eqb-true)

pub more_settled : (done lands settles : ℕ → Bool) (id : ℕ) (old new : Machine) (sector other : ℕ)
    → Touched done lands settles id old new
    → is_among (old.landed sector) other ≡ true → is_among (old.settled sector) other ≡ true
    → is_among (new.settled sector) other ≡ true
more_settled done lands settles id old new sector other touched landed among =
    grind (arith, by_cases, among_more)

pub lands_there : (done lands settles : ℕ → Bool) (id : ℕ) (old new : Machine) (sector : ℕ)
    → Touched done lands settles id old new
    → done sector ≡ true → lands sector ≡ true → new.landed sector ≡ id ∷ old.landed sector
lands_there done lands settles id old new sector touched is goes = grind arith

pub settles_there : (done lands settles : ℕ → Bool) (id : ℕ) (old new : Machine) (sector : ℕ)
    → Touched done lands settles id old new
    → done sector ≡ true → lands sector ≡ true → settles sector ≡ true
    → new.settled sector ≡ id ∷ old.landed sector
settles_there done lands settles id old new sector touched is goes destages = grind arith
