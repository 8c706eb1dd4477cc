use Rattle.std.proofs.Common.{◌-◌}
use Rattle.nbd.proofs.Parts.{HasWritten}
use Rattle.nbd.proofs.writing.write_parts.Given as goal

abbrev pub invariant-loop-done : goal.invariant-loop-done
invariant-loop-done g l =
    HasWritten l.now l.fua l.range l.done (g.I.Read.remaining l.initial.input)
    (g.I.Read.remaining l.input) l.initial.server l.server

abbrev pub decreases-loop-done : goal.decreases-loop-done
decreases-loop-done g l = l.range.count - l.done
