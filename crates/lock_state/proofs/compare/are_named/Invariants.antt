use Rattle.lock_state.specs.Comparison.{EachTo, NamesItem}
use Rattle.lock_state.proofs.compare.are_named.Given as goal

abbrev pub invariant-loop-receipt : goal.invariant-loop-receipt
invariant-loop-receipt g l = EachTo (NamesItem l.placed l.settled) l.receipt-index l.receipts
