use Rattle.std.proofs.Common.{◌≡◌, ◌≤◌, ◌-◌, length}
use Rattle.std.specs.Io.KnownBytes.{Appends}
use Rattle.bio.specs.Content.{gather}
use Rattle.nbd.specs.Requests.{OnlyReadsData}
use Rattle.nbd.specs.Serving.{ServerFrame}
use Rattle.nbd.proofs.reading.send_parts.Given as goal

abbrev pub invariant-loop-done : goal.invariant-loop-done
invariant-loop-done g l =
    (l.done ≤ l.range.count) × (length l.buffer ≡ length l.initial.buffer)
    × OnlyReadsData l.initial.server l.server × ServerFrame l.initial.server l.server
    × Appends (g.O.Write.contents l.initial.output) (g.O.Write.contents l.output)
    (gather (g.D.BlockDev.shown l.initial.server.disk).content l.range.first l.done)

abbrev pub decreases-loop-done : goal.decreases-loop-done
decreases-loop-done g l = l.range.count - l.done
