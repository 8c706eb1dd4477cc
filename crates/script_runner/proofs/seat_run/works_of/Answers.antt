use Rattle.std.proofs.Common.{arith, length}
use Rattle.script_runner.proofs.SeatRunSteps.{long_push, players_push}
use Rattle.script_runner.proofs.seat_run.works_of.Goals as goal

pub loop-seat-preserved : goal.loop-seat-preserved
loop-seat-preserved g c = grind (arith, length, players_push, long_push)
