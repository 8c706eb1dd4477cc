use Rattle.std.proofs.Common.{◌-◌}
use Rattle.nbd.proofs.Parts.{HasDiscarded}
use Rattle.nbd.proofs.writing.discard_parts.Given as goal

abbrev pub invariant-loop-done : goal.invariant-loop-done
invariant-loop-done g l = HasDiscarded l.now l.range l.done l.initial.server l.server

abbrev pub decreases-loop-done : goal.decreases-loop-done
decreases-loop-done g l = l.range.count - l.done
