use Rattle.std.proofs.Common.{◌≡◌, ℕ, ◌-◌, ◌<◌, true}
use Rattle.sector_disk.specs.inside.Storage.{is_chain}
use Rattle.sector_disk.proofs.choice.count_candidates.Given as goal

abbrev pub invariant-loop-index : goal.invariant-loop-index
invariant-loop-index l = (count : ℕ) → is_chain l.calls l.synced l.sector count l.newest ≡ true
    → (l.index < count) × (is_chain l.calls l.synced l.sector (count - l.index) l.place ≡ true)
