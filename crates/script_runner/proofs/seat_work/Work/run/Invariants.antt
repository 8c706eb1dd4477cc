use Rattle.std.proofs.Common.{take}
use Rattle.script_runner.specs.inside.{DoesLines}
use Rattle.script_runner.proofs.seat_work.Work.run.Given as goal

abbrev pub invariant-loop-place : goal.invariant-loop-place
invariant-loop-place g l = DoesLines (take l.place l.lines) l.fn.self l.self
