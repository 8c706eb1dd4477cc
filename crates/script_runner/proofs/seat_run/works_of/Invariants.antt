use Rattle.std.proofs.Common.{length}
use Rattle.script_runner.specs.inside.{AreNewPlayers}
use Rattle.script_runner.proofs.seat_run.works_of.Given as goal

abbrev pub invariant-loop-seat : goal.invariant-loop-seat
invariant-loop-seat g l =
    (goal.iterator-loop-seat g).can_next l.seat-iterator
    × (goal.iterator-loop-seat g).is_finite l.seat-iterator
    × AreNewPlayers (length l.yielded) l.works.items
