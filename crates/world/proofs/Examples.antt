-- Runs and refused steps by computation: two writes of sector 3, both ended, and a flush after them.
use Rattle.std.proofs.Common.{◌≡◌, ℕ, ◌==◌, Bool, true, false, Some, List, [], ◌∷◌, length, get_or}
use Rattle.std.proofs.Common.{take, replicate, refl, ap, sym, ◌∙◌, subst, inl, inr, arith}
use Rattle.std.proofs.lemmas.Bool.Decides.{eqb_tells}
use Rattle.std.specs.Prelude.{codes, unwrap_or, if◌then◌else◌}
use Rattle.bio.specs.Content as contents
use Rattle.bio.specs.Content.{Content}
use Rattle.bio.specs.declared.event.CoreEvent.{CoreEvent}
use Rattle.bio.specs.declared.event.CoreEvent.TheVariants as core_events
use Rattle.bio.specs.declared.request.Bio.TheVariants.{Write, Flush, Discard}
use Rattle.world.specs.declared.step.Step.{Step}
use Rattle.world.specs.declared.step.Step.TheVariants.{Submit, Land, Destage, End, Power}
use Rattle.refusals.specs.declared.refusal.Refusal.TheVariants as refusals
use Rattle.world.specs.declared.step.StepError.TheVariants as step_errors
use Rattle.world.specs.Cells.{AllSteps, IsFresh, IsRun, StepsWorld, WorldState, empty_cell, put_at}
use Rattle.world.specs.Texts.{end_text, step_refusal}
use Rattle.world.specs.Machine.{Leaves, before_submit, calls_below, durable, has_step}
use Rattle.world.specs.Machine.{newest, start, taken, values_of_id}

-- the writes have the bytes 1 and 2
abbrev list : List CoreEvent
list =
    core_events.Submit (Write 3 (replicate 512 1) false false false) ∷ core_events.Submit
    (Write 3 (replicate 512 2) false false false)
    ∷ core_events.Complete 0 true ∷ core_events.Complete 1 true ∷ core_events.Submit
    Flush ∷ core_events.Complete 4 true ∷ []

-- sector 3 has this byte, and the others are zeroes
abbrev holding : ℕ → Content
holding byte sector = replicate 512 (if sector == 3 then byte else 0)

-- the second write lands first, so the first one's value is the newest when the sector is destaged
abbrev run : List Step
run =
    Submit 0 ∷ Submit 1 ∷ Land 1 3 ∷ Land 0 3 ∷ End 0 true ∷ End 1 true ∷ Submit 4 ∷ Destage 3 ∷ End
    4 true ∷ Power ∷ []

-- the sector that was destaged has the value, and each other one what it had
run-left : (sector : ℕ) → durable list (holding 0) (taken start run) sector ≡ holding 1 sector
unfolding contents.over
run-left sector = elim (eqb_tells sector 3) [
  | inl same ↦
      subst (λ (s : ℕ). durable list (holding 0) (taken start run) s ≡ holding 1 s)
      (sym same.1) here
  | inr other ↦
      ap (λ (b : Bool). unwrap_or (values_of_id list (newest (if b then 0 ∷ 1 ∷ [] else [])) sector)
      (replicate 512 (if b then 0 else 0))) other.0
      ∙ sym (grind (arith, other.0))
]
  where
    here : durable list (holding 0) (taken start run) 3 ≡ holding 1 3
    here = refl

run-leaves : Leaves list (holding 0) run (holding 1)
run-leaves = record { runs = refl; fits = refl; off = refl; left = run-left }

-- a byte is that of its list
byte_is : (a b : ℕ) → replicate 512 a ≡ replicate 512 b → a ≡ b
byte_is a b same = grind (arith, get_or)

-- it leaves nothing else, doesn't fit fewer events, and isn't whole without power
run-other : Leaves list (holding 0) run (holding 2) → ⊥
unfolding contents.over
run-other told = let contra = byte_is 1 2 (sym (run-left 3) ∙ told.left 3) in absurd (omega arith)

run-fewer : Leaves (take 5 list) (holding 0) run (holding 1) → ⊥
run-fewer told = let contra = ap length told.fits in absurd (omega arith)

run-on : Leaves list (holding 0) (take 9 run) (holding 1) → ⊥
run-on told = let contra : false ≡ true = told.off in cc

-- a request lands only while it is pending, and once on each of its sectors
land-late : has_step list (taken start (Submit 0 ∷ End 0 false ∷ [])) (Land 0 3) ≡ false
land-late = refl

land-twice : has_step list (taken start (Submit 0 ∷ Land 0 3 ∷ [])) (Land 0 3) ≡ false
land-twice = refl

-- a request ends with success only after it landed on all its sectors
end-unlanded : has_step list (taken start (Submit 0 ∷ [])) (End 0 true) ≡ false
end-unlanded = refl

-- a write of two sectors lands on both
abbrev wide : List CoreEvent
wide = core_events.Submit (Discard 3 2) ∷ []

end-half : has_step wide (taken start (Submit 0 ∷ Land 0 3 ∷ [])) (End 0 true) ≡ false
end-half = refl

-- with FUA the sector is destaged after it landed there
abbrev fua : List CoreEvent
fua =
    core_events.Submit (Write 3 (replicate 512 1) false true false) ∷ core_events.Submit
    (Write 3 (replicate 512 2) false false false) ∷ []

end-cached : has_step fua (taken start (Submit 0 ∷ Land 0 3 ∷ [])) (End 0 true) ≡ false
end-cached = refl

end-destaged-before : has_step fua
    (taken start (Submit 0 ∷ Submit 1 ∷ Land 1 3 ∷ Destage 3 ∷ Land 0 3 ∷ [])) (End 0 true) ≡ false
end-destaged-before = refl

-- a flush ends with success where what ended so before its submission is settled
abbrev ended : List Step
ended = Submit 0 ∷ Submit 1 ∷ Land 0 3 ∷ End 0 true ∷ Submit 4 ∷ Land 1 3 ∷ End 1 true ∷ []

flush-cached : has_step list (taken start ended) (End 4 true) ≡ false
flush-cached = refl

flush-failed : has_step list (taken start ended) (End 4 false) ≡ true
flush-failed = refl

-- nothing comes after the power is gone
submit-off : has_step list (taken start (Power ∷ [])) (Submit 0) ≡ false
submit-off = refl

-- the calls of the first events, newest first
calls-four : calls_below list 4 ≡ End 1 true ∷ End 0 true ∷ Submit 1 ∷ Submit 0 ∷ []
calls-four = refl

-- what came before a submission
before-flush : before_submit 4 (calls_below list 6)
    ≡ End 1 true ∷ End 0 true ∷ Submit 1 ∷ Submit 0 ∷ []
before-flush = refl

before-none : before_submit 7 (calls_below list 6) ≡ []
before-none = refl

-- what lands later in the cache isn't durable until the sector is destaged again
durable-cached : durable list (holding 0)
    (taken start (Submit 0 ∷ Submit 1 ∷ Land 0 3 ∷ Destage 3 ∷ Land 1 3 ∷ [])) 3 ≡ holding 1 3
unfolding contents.over
durable-cached = refl

durable-nothing : durable list (holding 7) (taken start (Submit 0 ∷ Land 0 3 ∷ [])) 3 ≡ holding 7 3
unfolding contents.over
durable-nothing = refl

-- how steps are shown
text-failed : end_text false ≡ codes "failed"
text-failed = refl

-- a world of one sector that holds sevens, and what isn't one
abbrev fresh : WorldState
fresh = record { cells = empty_cell ∷ []; calls = []; off = false; image = replicate 512 7 }

fresh-world : IsFresh (replicate 512 7) fresh
fresh-world = record { cells = refl; calls = refl; off = refl; image = refl }

fresh-image : IsFresh (replicate 512 7) (record fresh { image = replicate 512 8 }) → ⊥
fresh-image told = let contra = byte_is 8 7 told.image in absurd (omega arith)

-- power goes, and nothing else changes
steps-power : StepsWorld [] Power fresh (record fresh { off = true })
steps-power = grind arith

steps-image : StepsWorld [] Power fresh (record fresh { off = true; image = replicate 512 8 }) → ⊥
steps-image told = let contra = byte_is 8 7 (told.left 0 (omega arith)) in absurd (omega arith)

steps-refused : StepsWorld [] (Submit 0) fresh (record fresh { calls = Submit 0 ∷ [] }) → ⊥
steps-refused told = let contra : false ≡ true = told.may in cc

-- nor is a sector or a byte added, of a world of no sectors
abbrev bare : WorldState
bare = record { cells = []; calls = []; off = false; image = [] }

steps-longer : StepsWorld [] Power bare (record bare { off = true; image = 7 ∷ [] }) → ⊥
steps-longer told = let contra : 1 ≡ 0 = told.size in omega arith

-- no steps leave a world as it was
all-none : AllSteps [] [] fresh fresh
all-none = refl

all-other : AllSteps [] [] fresh (record fresh { off = true }) → ⊥
all-other told = grind arith

-- power goes: a run, after which the image is as it was
run-of-power : IsRun [] [] (Power ∷ []) (record bare { off = true })
run-of-power = record { runs = refl; reached = refl; left = λ sector within. refl }

-- what isn't there isn't submitted in a run, and no run leaves another image than what is durable
run-of-nothing : IsRun [] [] (Submit 0 ∷ []) (record bare { calls = Submit 0 ∷ [] }) → ⊥
run-of-nothing told = let contra : false ≡ true = told.runs in cc

run-of-other : IsRun [] (replicate 512 7) (Power ∷ [])
    (record fresh { off = true; image = replicate 512 8 }) → ⊥
run-of-other told = let contra = byte_is 8 7 (told.left 0 (omega arith)) in absurd (omega arith)

-- no run has gone on where power is there
run-of-none : IsRun [] (replicate 512 7) (Power ∷ []) fresh → ⊥
run-of-none told = grind arith

-- a value is put only in its own sector
put-elsewhere : put_at (λ sector. Some (sector ∷ [])) 3 (λ sector. []) 4 ≡ []
put-elsewhere = refl

-- a step's error is shown as its refusal
refusal-step : step_refusal step_errors.BadStep ≡ refusals.BadStep
refusal-step = refl
