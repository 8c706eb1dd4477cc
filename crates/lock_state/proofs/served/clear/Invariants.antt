use Rattle.std.proofs.Common.{◌≡◌, ◌<◌, ℕ, List, Some, slice_get, length}
use Rattle.lock_state.specs.declared.served.CallsSeen.{CallsSeen}
use Rattle.lock_state.specs.declared.served.CallsSeen.TheVariants.{Never}
use Rattle.lock_state.proofs.served.clear.Given as goal

-- The first `n` notes are cleared.
pub record Cleared (before notes : List CallsSeen) (n : ℕ) : Type 0 where
  pub size : length notes ≡ length before
  pub none : (k : ℕ) (seen : CallsSeen) → k < n → slice_get notes k ≡ Some seen → seen ≡ Never

abbrev pub invariant-loop-k : goal.invariant-loop-k
invariant-loop-k l = Cleared l.initial.notes l.notes l.k
