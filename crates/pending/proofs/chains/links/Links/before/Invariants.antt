use Rattle.std.proofs.Common.{◌≡◌, ℕ, ◌<◌}
use Rattle.pending.specs.inside.Tables.{after}
use Rattle.pending.proofs.chains.links.Links.before.Given as goal

abbrev pub invariant-loop-other : goal.invariant-loop-other
invariant-loop-other l = (k : ℕ) → k < l.other → after l.self.next.items k ≡ l.row → ⊥
