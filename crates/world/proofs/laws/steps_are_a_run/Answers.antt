use Rattle.world.proofs.MachineSteps.{fresh_runs}
use Rattle.world.proofs.laws.steps_are_a_run.Goals as goal

pub returns : goal.returns
returns c = fresh_runs
