use Rattle.std.proofs.Common.{◌≡◌, length}
use Rattle.shared.proofs.waiters.empty_shards.Given as goal

abbrev pub invariant-loop : goal.invariant-loop
invariant-loop g l = length l.shards.items ≡ l.counter
