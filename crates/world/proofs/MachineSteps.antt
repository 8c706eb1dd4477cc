-- Each step of a world is a step of the machine that it models, and the steps of a fresh world are
-- a run.
use Rattle.std.proofs.Common.{None, Option, Some, subst, inl, ◌≡◌, ℕ, Bool, zero, suc, ◌*◌, ◌/◌}
use Rattle.std.proofs.Common.{◌<◌, true, not, ◌&&◌, inr, arith, List, [], ◌∷◌, length, replicate}
use Rattle.std.proofs.Common.{get_or, set, refl, ap, sym, ◌∙◌}
use Rattle.std.specs.Prelude.{is_some, slice_get}
use Rattle.std.proofs.lemmas.Bool.{and_parts, cases_lt}
use Rattle.std.proofs.lemmas.Bool.Decides.{eqb_tells}
use Rattle.std.proofs.lemmas.List.{length-replicate, length-set}
use Rattle.std.proofs.lemmas.Option.{slice_get-get_or, slice_get_past}
use Rattle.std.proofs.Math.Path.{fun_ext}
use Rattle.std.specs.List.{list_all}
use Rattle.bio.specs.Content.{Content, put, sector_of}
use Rattle.bio.specs.declared.event.CoreEvent.{CoreEvent}
use Rattle.bio.specs.Events.{is_lawful}
use Rattle.bio.specs.PlaceLaws.{option_cases, slice_get-within}
use Rattle.bio.specs.Possible.{covers_at}
use Rattle.bio.specs.RequestLaws.{covered_value, event_within}
use Rattle.world.proofs.PossibleChoice.{each_within}
use Rattle.world.proofs.RunIsPossible.{IsSoundMachine, keeps, start_sound}
use Rattle.world.proofs.Calls.{among_new, clash}
use Rattle.world.specs.Cells.{AllSteps, CellState, IsFresh, IsSameMachine, IsRun, PutsSector, StepsWorld}
use Rattle.world.specs.Cells.{WorldState, empty_cell, landed_of, left_after, landing, machine_in}
use Rattle.world.specs.Cells.{machine_of, settled_of, settling}
use Rattle.world.specs.declared.step.Step.{Step}
use Rattle.world.specs.declared.step.Step.TheVariants.{Land, Destage, End}
use Rattle.world.specs.inside.{end_settled, is_allowed, succeeds}
use Rattle.world.specs.Machine.{Machine, machine_after, durable, has_step, is_among, is_pending, is_run}
use Rattle.world.specs.Machine.{may_succeed, may_take, newest, settled_if_ended, start, taken}
use Rattle.world.specs.Machine.{values_of_id, with_sector}

get_set_same : {A : Type 0} (xs : List A) (k : ℕ) (x : A) → k < length xs
    → slice_get (set xs k x) k ≡ Some x
get_set_same [] k x h = absurd (omega arith)
get_set_same (y ∷ xs) zero x h = refl
get_set_same (y ∷ xs) (suc k) x h = get_set_same xs k x (omega arith)

get_set_other : {A : Type 0} (xs : List A) (k j : ℕ) (x : A) → (j ≡ k → ⊥)
    → slice_get (set xs k x) j ≡ slice_get xs j
get_set_other [] k j x differ = refl
get_set_other (y ∷ xs) zero zero x differ = absurd (differ refl)
get_set_other (y ∷ xs) (suc k) (suc j) x differ = grind (arith, get_set_other xs k j x)
get_set_other (y ∷ xs) other rest x differ = refl

-- `see` is `landed_of` or `settled_of`
set_seen : (see : Option CellState → List ℕ) (cells : List CellState) (at : ℕ) (cell : CellState)
    (sector : ℕ) → at < length cells
    → see (slice_get (set cells at cell) sector)
    ≡ with_sector at (see (Some cell)) (λ s. see (slice_get cells s)) sector
set_seen see cells at cell sector within = grind (arith, eqb_tells, get_set_same, get_set_other)

set_same : (see : Option CellState → List ℕ) (cells : List CellState) (at : ℕ) (cell : CellState)
    (sector : ℕ) → at < length cells
    → see (Some cell) ≡ see (slice_get cells at)
    → see (slice_get (set cells at cell) sector) ≡ see (slice_get cells sector)
set_same see cells at cell sector within same =
    grind (arith, eqb_tells, get_set_same, get_set_other)

pub land_within : (events : List CoreEvent) (id sector : ℕ) (old : WorldState)
    → is_lawful (length old.image / 512) events ≡ true
    → length old.image ≡ 512 * length old.cells
    → has_step events (machine_of old) (Land id sector) ≡ true → sector < length old.cells
land_within events id sector old lawful size may =
    let m : Machine = machine_of old in
    let parts = and_parts (not old.off) (may_take events m (Land id sector)) may in
    let fresh =
    and_parts (is_pending m id && covers_at sector (slice_get events id))
    (not (is_among (m.landed sector) id)) parts.1 in
    let covered =
    (and_parts (is_pending m id) (covers_at sector (slice_get events id)) fresh.0).1 in
    elim (cases_lt sector (length old.cells)) [
      | inl less ↦ less
      | inr past ↦ elim (option_cases (slice_get events id)) [
        | inl none ↦
            clash (covers_at sector (slice_get events id)) covered (ap (covers_at sector) none)
        | inr some ↦
            clash (covers_at sector (slice_get events id)) covered
            (event_within (slice_get events id) (length old.image / 512) sector
            (each_within (length old.image / 512) events id lawful
            (slice_get-within events id some.0 some.1)) (omega arith))
      ]
    ]

pub destage_within : (events : List CoreEvent) (sector : ℕ) (old : WorldState)
    → has_step events (machine_of old) (Destage sector) ≡ true
    → sector < length old.cells
destage_within events sector old may = grind (arith, cases_lt, and_parts, slice_get_past)

pub land_steps : (events : List CoreEvent) (id at : ℕ) (old new : WorldState)
    → has_step events (machine_of old) (Land id at) ≡ true
    → at < length old.cells → new
    ≡ record old { cells = set old.cells at (landing id (get_or old.cells at empty_cell)) }
    → StepsWorld events (Land id at) old new
land_steps events id at old new may within is =
    let cell : CellState = get_or old.cells at empty_cell in
    let there = slice_get-get_or old.cells at empty_cell within in
    subst (StepsWorld events (Land id at) old) (sym is) (record {
      may = may;
      after = record {
        landed = λ sector.
            grind (arith, set_seen landed_of old.cells at (landing id cell) sector within);
        settled =
            λ sector. set_same settled_of old.cells at (landing id cell) sector within
            (ap settled_of (sym there));
        calls = refl;
        off = refl;
      };
      left = λ sector inside. refl;
      sectors = length-set old.cells at (landing id cell);
      size = refl;
    })

pub destage_steps : (events : List CoreEvent) (at : ℕ) (old new : WorldState)
    → has_step events (machine_of old) (Destage at) ≡ true
    → at < length old.cells → length old.image ≡ 512 * length old.cells
    → new ≡ record old {
      cells = set old.cells at (settling (get_or old.cells at empty_cell));
      image = new.image;
    }
    → PutsSector (values_of_id events
    (newest (landed_of (slice_get old.cells at)))) at old.image new.image
    → StepsWorld events (Destage at) old new
destage_steps events at old new may within size is image =
    let cell : CellState = get_or old.cells at empty_cell in
    let there = slice_get-get_or old.cells at empty_cell within in
    subst (StepsWorld events (Destage at) old) (sym is) (record {
      may = may;
      after = record {
        landed =
            λ sector. set_same landed_of old.cells at (settling cell) sector within
            (ap landed_of (sym there));
        settled = λ sector.
            grind (arith, set_seen settled_of old.cells at (settling cell) sector within);
        calls = refl;
        off = refl;
      };
      left = λ sector inside. image.each sector (omega arith);
      sectors = length-set old.cells at (settling cell);
      size = image.size;
    })

settled_is : (events : List CoreEvent) (cells : List CellState) (calls : List Step) (off : Bool)
    (step : Step)
    → settled_if_ended events (machine_in cells calls off) step ≡ end_settled events cells step
settled_is events cells calls off other = refl

all_settled : (events : List CoreEvent) (cells : List CellState) (calls : List Step) (off : Bool)
    (steps : List Step)
    → list_all (settled_if_ended events (machine_in cells calls off)) steps
    ≡ list_all (end_settled events cells) steps
all_settled events cells calls off [] = refl
all_settled events cells calls off (step ∷ steps) =
    simp (all_settled events cells calls off steps, settled_is)

succeeds_is : (events : List CoreEvent) (cells : List CellState) (calls : List Step) (off : Bool)
    (id : ℕ)
    → may_succeed events (machine_in cells calls off) id
    ≡ succeeds events cells calls id (slice_get events id)
succeeds_is events cells calls off id =
    simp (all_settled)

pub allowed_is : (events : List CoreEvent) (cells : List CellState) (calls : List Step) (off : Bool)
    (step : Step)
    → may_take events (machine_in cells calls off) step ≡ is_allowed events cells calls step
allowed_is events cells calls off (End id ok) = simp (succeeds_is)
allowed_is events cells calls off rest = refl

like : (a b : Machine) → IsSameMachine a b → a ≡ b
like a b same = grind (arith, fun_ext)

-- the newest request has a value for the sector, so the old value there doesn't matter
put_newest : (events : List CoreEvent) (m : Machine) (at : ℕ) (old first : Content)
    → IsSoundMachine events m → is_some (newest (m.landed at)) ≡ true
    → put (values_of_id events (newest (m.landed at))) old at
    ≡ put (values_of_id events (newest (m.landed at))) first at
put_newest events m at old first sound some = of_list (m.landed at) refl
  where
    of_list : (ids : List ℕ) → m.landed at ≡ ids
        → put (values_of_id events (newest (m.landed at))) old at
        ≡ put (values_of_id events (newest (m.landed at))) first at
    of_list [] is = grind arith
    of_list (id ∷ ids) is =
        grind (
          arith,
          among_new id ids,
          covered_value (slice_get events id) at (sound.covers at id
              (grind (arith, is, among_new id ids))),
        )

left_durable : (events : List CoreEvent) (m : Machine) (step : Step) (first old : Content)
    (sector : ℕ) → IsSoundMachine events m → may_take events m step ≡ true
    → old sector ≡ durable events first m sector
    → left_after events m step old sector ≡ durable events first (machine_after m step) sector
left_durable events m (Destage at) first old sector sound may same =
    grind (arith, eqb_tells, put_newest)
left_durable events m other first old sector sound may same = same

runs_on : (events : List CoreEvent) (first : Content) (steps : List Step) (old new : WorldState)
    → IsSoundMachine events (machine_of old)
    → ((sector : ℕ) → sector < length old.cells
    → sector_of old.image sector ≡ durable events first (machine_of old) sector)
    → AllSteps events steps old new
    → (is_run events (machine_of old) steps ≡ true)
    × (taken (machine_of old) steps ≡ machine_of new) × (length new.cells ≡ length old.cells)
    × ((sector : ℕ) → sector < length old.cells
    → sector_of new.image sector ≡ durable events first (machine_of new) sector)
runs_on events first [] old new sound image same = grind arith
runs_on events first (step ∷ steps) old new sound image all =
    let mid = all.0 in
    let took = all.1 in
    let may = (and_parts (not old.off) (may_take events (machine_of old) step) took.may).1 in
    let is : machine_of mid ≡ machine_after (machine_of old) step =
    like (machine_of mid) (machine_after (machine_of old) step) took.after in
    let rest = runs_on events first steps mid new
    (subst (IsSoundMachine events) (sym is) (keeps events (machine_of old) step sound may))
    (λ sector within.
    took.left sector (let size = took.sectors in omega arith)
    ∙ left_durable events (machine_of old) step first (sector_of old.image) sector sound may
    (image sector (let size = took.sectors in omega arith))
    ∙ ap (λ (m : Machine). durable events first m sector) (sym is))
    all.2 in (
      grind (arith, took.may, is, rest.0),
      grind (arith, is, rest.1),
      rest.2 ∙ took.sectors,
      λ sector within. rest.3 sector (let size = took.sectors in omega arith),
    )

empty_seen : (see : Option CellState → List ℕ) (n sector : ℕ) → see None ≡ []
    → see (Some empty_cell) ≡ [] → see (slice_get (replicate n empty_cell) sector) ≡ []
empty_seen see zero sector none empty = none
empty_seen see (suc n) zero none empty = empty
empty_seen see (suc n) (suc sector) none empty = empty_seen see n sector none empty

fresh_start : (first : List ℕ) (world : WorldState) → IsFresh first world → machine_of world ≡ start
fresh_start first world fresh = like (machine_of world) start (record {
  landed =
      λ sector. ap (λ (cells : List CellState). landed_of (slice_get cells sector)) fresh.cells
      ∙ empty_seen landed_of (length first / 512) sector refl refl;
  settled =
      λ sector. ap (λ (cells : List CellState). settled_of (slice_get cells sector)) fresh.cells
      ∙ empty_seen settled_of (length first / 512) sector refl refl;
  calls = fresh.calls;
  off = fresh.off;
})

pub fresh_runs : (events : List CoreEvent) (first : List ℕ) (steps : List Step)
    (old new : WorldState) → IsFresh first old → AllSteps events steps old new
    → IsRun events first steps new
fresh_runs events first steps old new fresh all =
    let is = fresh_start first old fresh in
    let sectors : length old.cells ≡ length first / 512 =
    ap length fresh.cells ∙ length-replicate {A = CellState} (length first / 512) empty_cell in
    let runs =
    runs_on events (sector_of first) steps old new
    (subst (IsSoundMachine events) (sym is) (start_sound events))
    (λ sector within.
    ap (λ (bytes : List ℕ). sector_of bytes sector) fresh.image
    ∙ ap (λ (m : Machine). durable events (sector_of first) m sector) (sym is)) all in
    record {
      runs = rw (← is) runs.0;
      reached = rw (← is) runs.1;
      left = λ sector within.
          grind arith;
    }
