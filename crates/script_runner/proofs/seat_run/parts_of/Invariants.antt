use Rattle.std.proofs.Common.{◌≡◌, map}
use Rattle.script_runner.specs.inside.{PlayerView}
use Rattle.script_runner.specs.SeatRuns.{joined}
use Rattle.script_runner.proofs.seat_run.parts_of.Given as goal

abbrev pub invariant-loop-work : goal.invariant-loop-work
invariant-loop-work g l =
    (goal.iterator-loop-work g).can_next l.work-iterator
    × (goal.iterator-loop-work g).is_finite l.work-iterator
    × (l.seats.items ≡ map (λ (player : PlayerView). player.part) l.yielded)
    × (l.tallies.items ≡ map (λ (player : PlayerView). player.tally) l.yielded)
    × (l.receipts.items ≡ joined (map (λ (player : PlayerView). player.receipts) l.yielded))
