use Rattle.std.proofs.Common.{refl}
use Rattle.script_runner.proofs.running.Running.turn.Goals as goal

pub returns-clause-keeps : goal.returns-clause-keeps
returns-clause-keeps g c =
    record { time = refl; log_time = c.turn-turn.ensures.time; size = refl; count = refl }
