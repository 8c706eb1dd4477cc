use Rattle.std.proofs.Common.{length}
use Rattle.layer_table.proofs.StackLayers.{AreUnder}
use Rattle.layer_table.proofs.stack.Stack.layered.Given as goal

abbrev pub invariant-loop-spec : goal.invariant-loop-spec
invariant-loop-spec l = AreUnder l.fn.specs l.rest l.fn.load l.fn.self l.stack

abbrev pub decreases-loop-spec : goal.decreases-loop-spec
decreases-loop-spec l = length l.rest
