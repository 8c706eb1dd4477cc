use Rattle.std.proofs.Common.{◌≡◌, ◌<◌, ℕ, Some, slice_get}
use Rattle.pending.specs.CoreState.{items_of}
use Rattle.lock_state.specs.declared.note.LogItem.{LogItem}
use Rattle.lock_state.specs.Comparison.{listed_item}
use Rattle.lock_state.proofs.queue.QueueState.has_taken.Given as goal

abbrev pub invariant-loop-k : goal.invariant-loop-k
invariant-loop-k g l =
    (k : ℕ) (item : LogItem) → k < l.k → slice_get l.placed k ≡ Some item
    → slice_get (items_of l.self.core) k ≡ Some (listed_item item)
