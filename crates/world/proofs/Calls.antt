-- Laws of a machine's calls (submissions and ends), of their events, and of its lists of requests.
use Rattle.std.proofs.Common.{Some, List, [], ◌∷◌, ◌++◌, refl, ap, sym, ◌∙◌, inl, inr, arith}
use Rattle.std.proofs.Common.{◌≡◌, ℕ, ◌+◌, ◌-◌, zero, suc, ◌<◌, ◌==◌, Bool, true, false, not, ◌&&◌}
use Rattle.std.proofs.Common.{◌||◌, Option}
use Rattle.std.specs.Prelude.{slice_get}
use Rattle.std.proofs.lemmas.Bool.{and_parts, eq-eqb, eqb-true}
use Rattle.std.proofs.lemmas.Bool.Decides.{eqb_tells}
use Rattle.std.proofs.lemmas.List.Folds.{list_all-append, list_any-append}
use Rattle.std.specs.List.{list_all, list_any}
use Rattle.bio.specs.declared.event.CoreEvent.{CoreEvent}
use Rattle.bio.specs.declared.event.CoreEvent.TheVariants as core_events
use Rattle.bio.specs.declared.request.Bio.{Bio}
use Rattle.bio.specs.PlaceLaws.{all_below-each, differ-eqb, last_or_below, or_cases, or_second}
use Rattle.bio.specs.Possible.{covers_at}
use Rattle.bio.specs.RequestLaws.{covers-parts}
use Rattle.bio.specs.Requests.{first_sector, sector_count}
use Rattle.world.specs.declared.step.Step.{Step}
use Rattle.world.specs.declared.step.Step.TheVariants.{End}
use Rattle.world.specs.Machine.{before_submit, event_step, calls_below, each_sector, is_among, is_end}
use Rattle.world.specs.Machine.{is_submit, with_sector}

abbrev pub is_good_end : ℕ → Step → Bool
is_good_end id (End ended ok) = ended == id && ok
is_good_end id _ = false

-- the list, newest first, has a step that passes `late` and an older one that passes `early`
abbrev pub came_before : (Step → Bool) → (Step → Bool) → List Step → Bool
came_before early late [] = false
came_before early late (call ∷ calls) =
    (late call && list_any early calls) || came_before early late calls

pub good_end : (id : ℕ) (step : Step) → is_good_end id step ≡ true → is_end id step ≡ true
good_end id (End ended ok) good = (and_parts (ended == id) ok good).0
good_end id rest good = cc

pub any_weaker : (s t : Step → Bool) → ((step : Step) → s step ≡ true → t step ≡ true)
    → (steps : List Step) → list_any s steps ≡ true → list_any t steps ≡ true
any_weaker s t weaker [] h = cc
any_weaker s t weaker (step ∷ steps) h = elim (or_cases (s step) (list_any s steps) h) [
  | inl here ↦ rw (weaker step here)
  | inr there ↦ or_second (t step) (list_any t steps) (any_weaker s t weaker steps there)
]

pub came_weaker : (s t late : Step → Bool) → ((step : Step) → s step ≡ true → t step ≡ true)
    → (steps : List Step)
    → came_before s late steps ≡ true → came_before t late steps ≡ true
came_weaker s t late weaker [] h = cc
came_weaker s t late weaker (step ∷ steps) h =
    elim (or_cases (late step && list_any s steps) (came_before s late steps) h) [
      | inl here ↦
          grind (arith, and_parts, any_weaker)
      | inr there ↦
          or_second (late step && list_any t steps) (came_before t late steps)
          (came_weaker s t late weaker steps there)
    ]

pub came_early : (early late : Step → Bool) (steps : List Step)
    → came_before early late steps ≡ true → list_any early steps ≡ true
came_early early late [] h = cc
came_early early late (step ∷ steps) h =
    elim (or_cases (late step && list_any early steps) (came_before early late steps) h) [
      | inl here ↦
          grind (arith, or_second, and_parts)
      | inr there ↦
          or_second (early step) (list_any early steps) (came_early early late steps there)
    ]

came_append : (early late : Step → Bool) (front calls : List Step)
    → came_before early late calls ≡ true → came_before early late (front ++ calls) ≡ true
came_append early late [] calls h = h
came_append early late (step ∷ front) calls h =
    grind (arith, came_append early late front calls h, or_second)

pub any_call : (test : Step → Bool) (events : List CoreEvent) (n k : ℕ) (step : Step) → k < n
    → event_step k (slice_get events k) ≡ step ∷ []
    → test step ≡ true → list_any test (calls_below events n) ≡ true
any_call test events zero k step h is passes = absurd (omega arith)
any_call test events (suc n) k step h is passes = elim (last_or_below k n h) [
  | inl same ↦
      grind (arith, list_any-append, false)
  | inr below ↦
      list_any-append test (event_step n (slice_get events n)) (calls_below events n)
      ∙ or_second (list_any test (event_step n (slice_get events n)))
      (list_any test (calls_below events n)) (any_call test events n k step below is passes)
]

pub calls_before : (early late : Step → Bool) (events : List CoreEvent) (n k j : ℕ)
    (first second : Step) → k < j → j < n
    → event_step k (slice_get events k) ≡ first ∷ [] → event_step j (slice_get events j) ≡ second ∷ []
    → early first ≡ true → late second ≡ true → came_before early late (calls_below events n) ≡ true
calls_before early late events zero k j first second order h is_first is_second passes_first
    passes_second = absurd (omega arith)
calls_before early late events (suc n) k j first second order h is_first is_second passes_first
    passes_second = elim (last_or_below j n h) [
      | inl same ↦
          grind (arith, any_call)
      | inr below ↦
          came_append early late (event_step n (slice_get events n)) (calls_below events n)
          (calls_before early late events n k j first second order below is_first
          is_second passes_first
          passes_second)
    ]

call_from : (test : Step → Bool) (events : List CoreEvent) (n : ℕ)
    → list_any test (calls_below events n) ≡ true
    → (k : ℕ) × (k < n) × (list_any test (event_step k (slice_get events k)) ≡ true)
call_from test events zero h = cc
call_from test events (suc n) h =
    elim (or_cases (list_any test (event_step n (slice_get events n)))
    (list_any test (calls_below events n))
    (sym (list_any-append test (event_step n (slice_get events n)) (calls_below events n)) ∙ h)) [
      | inl here ↦ (n, omega arith, here)
      | inr there ↦
          grind (arith, call_from test events n there)
    ]

first_of_two : (a : Bool) → (a || false) ≡ true → a ≡ true
first_of_two true h = refl
first_of_two false h = cc

submit_call : (id k : ℕ) (event : Option CoreEvent)
    → list_any (is_submit id) (event_step k event) ≡ true
    → (bio : Bio) × (k ≡ id) × (event ≡ Some (core_events.Submit bio))
submit_call id k (Some (core_events.Submit bio)) h =
    (bio, eqb-true k id (first_of_two (k == id) h), refl)
submit_call id k other h = cc

end_call : (id k : ℕ) (event : Option CoreEvent) → list_any (is_end id) (event_step k event) ≡ true
    → (ok : Bool) × (event ≡ Some (core_events.Complete id ok))
end_call id k (Some (core_events.Submit bio)) h = cc
end_call id k (Some (core_events.Complete ended ok)) h = (
  ok,
  rw (eqb-true ended id (first_of_two (ended == id) h)),
)
end_call id k other h = cc

pub submit_from : (events : List CoreEvent) (n id : ℕ)
    → list_any (is_submit id) (calls_below events n) ≡ true
    → (bio : Bio) × (id < n) × (slice_get events id ≡ Some (core_events.Submit bio))
submit_from events n id h =
    let found = call_from (is_submit id) events n h in
    let call = submit_call id found.0 (slice_get events found.0) found.2 in
    let same = call.1 in
    let less = found.1 in
    (call.0, omega arith, ap (slice_get events) (sym same) ∙ call.2)

pub end_from : (events : List CoreEvent) (n id : ℕ)
    → list_any (is_end id) (calls_below events n) ≡ true
    → (place : ℕ) × (ok : Bool) × (place < n)
    × (slice_get events place ≡ Some (core_events.Complete id ok))
end_from events n id h = grind (arith, call_from, end_call)

other_submit : (id k : ℕ) (event : Option CoreEvent) (calls : List Step) → (k ≡ id → ⊥)
    → before_submit id (event_step k event ++ calls) ≡ before_submit id calls
other_submit id k (Some (core_events.Submit bio)) calls differ = grind (arith, differ-eqb)
other_submit id k other calls differ = refl

pub before_submit_at : (events : List CoreEvent) (n id : ℕ) (bio : Bio) → id < n
    → slice_get events id ≡ Some (core_events.Submit bio)
    → before_submit id (calls_below events n) ≡ calls_below events id
before_submit_at events zero id bio h is = absurd (omega arith)
before_submit_at events (suc n) id bio h is = elim (last_or_below id n h) [
  | inl same ↦
      rw (← same, is, eq-eqb id id refl)
  | inr below ↦
      other_submit id n (slice_get events n) (calls_below events n) (λ same. omega arith)
      ∙ before_submit_at events n id bio below is
]

pub all_calls : (test : Step → Bool) (events : List CoreEvent) (n : ℕ)
    → ((k : ℕ) → k < n → list_all test (event_step k (slice_get events k)) ≡ true)
    → list_all test (calls_below events n) ≡ true
all_calls test events zero each = refl
all_calls test events (suc n) each =
    grind (arith, all_calls test events n (λ k h. each k (omega arith)), list_all-append)

pub not_true : (b : Bool) → not b ≡ true → b ≡ false
not_true true h = cc
not_true false h = refl

pub clash : {A : Type 0} (b : Bool) → b ≡ true → b ≡ false → A
clash b yes_so not_so = absurd (let contra : true ≡ false = sym yes_so ∙ not_so in cc)

-- For the prover: a case split on whether `other` is the sector that gets the list `ids`
pub with_cases : (P : List ℕ → Type 0) (sector : ℕ) (ids : List ℕ) (old : ℕ → List ℕ) (other : ℕ)
    → (other ≡ sector → P ids) → P (old other) → P (with_sector sector ids old other)
with_cases P sector ids old other here there = grind (arith, eqb_tells)

pub with_here : (sector : ℕ) (ids : List ℕ) (old : ℕ → List ℕ)
    → with_sector sector ids old sector ≡ ids
with_here sector ids old = grind (arith, eq-eqb)

pub among_more : (new id : ℕ) (ids : List ℕ) → is_among ids id ≡ true
    → is_among (new ∷ ids) id ≡ true
among_more new id ids h = or_second (new == id) (is_among ids id) h

pub among_new : (id : ℕ) (ids : List ℕ) → is_among (id ∷ ids) id ≡ true
among_new id ids = grind (arith, eq-eqb)

pub each_covered : (test : ℕ → Bool) (event : Option CoreEvent) (sector : ℕ)
    → each_sector test event ≡ true → covers_at sector event ≡ true
    → test sector ≡ true
each_covered test (Some (core_events.Submit bio)) sector each covered =
    let range = covers-parts bio sector covered in
    let low = range.1 in
    let high = range.2 in
    let place : first_sector bio + (sector - first_sector bio) ≡ sector = omega arith in
    ap test (sym place)
    ∙ all_below-each (λ place. test (first_sector bio + place)) (sector_count bio) each
    (sector - first_sector bio) (omega arith)
each_covered test other sector each covered = cc
