use Rattle.std.proofs.Common.{◌≡◌, ◌-◌, ◌≤◌, take, length, replicate}
use Rattle.sector_disk.proofs.runs.first_run.Given as goal

abbrev pub invariant-loop-count : goal.invariant-loop-count
invariant-loop-count l =
    (l.count ≤ length l.values) × (take l.count l.values ≡ replicate l.count l.value)

abbrev pub decreases-loop-count : goal.decreases-loop-count
decreases-loop-count l = length l.values - l.count
