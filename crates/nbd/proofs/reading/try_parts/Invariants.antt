use Rattle.std.proofs.Common.{◌≡◌, ◌≤◌, ◌-◌, length}
use Rattle.nbd.specs.Requests.{OnlyReadsData}
use Rattle.nbd.specs.Serving.{ServerFrame}
use Rattle.nbd.proofs.reading.try_parts.Given as goal

abbrev pub invariant-loop-done : goal.invariant-loop-done
invariant-loop-done g l =
    (l.done ≤ l.range.count) × (length l.buffer ≡ length l.initial.buffer)
    × OnlyReadsData l.initial.server l.server × ServerFrame l.initial.server l.server

abbrev pub decreases-loop-done : goal.decreases-loop-done
decreases-loop-done g l = l.range.count - l.done
