use Rattle.std.proofs.Common.{◌≡◌, ◌-◌, ◌≤◌, drop, length, replicate}
use Rattle.sector_disk.proofs.filled.without_groups.Given as goal

abbrev pub invariant-loop-end : goal.invariant-loop-end
invariant-loop-end g l =
    (l.end ≤ length l.bytes) × (drop l.end l.bytes ≡ replicate (length l.bytes - l.end) l.fill)

abbrev pub decreases-loop-end : goal.decreases-loop-end
decreases-loop-end g l = l.end
