-- How a step is printed.
use Rattle.std.specs.Prelude.{ℕ, Bool, true, false, List, ◌++◌, codes}
use Rattle.std.specs.Fmt.{decimal}
use Rattle.refusals.specs.declared.refusal.Refusal.{Refusal}
use Rattle.refusals.specs.declared.refusal.Refusal.TheVariants as refusals
use Rattle.world.specs.declared.step.Step.{Step}
use Rattle.world.specs.declared.step.Step.TheVariants.{Submit, Land, Destage, End, Power}
use Rattle.world.specs.declared.step.StepError.{StepError}
use Rattle.world.specs.declared.step.StepError.TheVariants as errors

-- the word for how a request ended
abbrev pub end_text : Bool → List ℕ
end_text true = codes "ok"
end_text false = codes "failed"

-- the step's name, then its id, sector and result, as far as it has them, with spaces between
abbrev pub step_text : Step → List ℕ
step_text (Submit id) = codes "submit " ++ decimal id
step_text (Land id sector) = codes "land " ++ decimal id ++ codes " " ++ decimal sector
step_text (Destage sector) = codes "destage " ++ decimal sector
step_text (End id ok) = codes "end " ++ decimal id ++ codes " " ++ end_text ok
step_text Power = codes "power"

-- The refusal that reports an error of a step.

-- the refusal that reports the error
abbrev pub step_refusal : StepError → Refusal
step_refusal errors.BadStep = refusals.BadStep
step_refusal errors.Memory = refusals.Memory
