use Rattle.lock_state.specs.Comparison.{EachTo}
use Rattle.lock_state.specs.History.{Found}
use Rattle.lock_state.proofs.compare.are_unrecorded.Given as goal

abbrev pub invariant-loop-call : goal.invariant-loop-call
invariant-loop-call l = EachTo (Found l.end l.stop) l.call-index l.unrecorded
