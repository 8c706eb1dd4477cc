use Rattle.std.proofs.Common.{◌*◌, ◌≤◌}
use Rattle.sector_disk.proofs.packed.packed_size.Given as goal

abbrev pub invariant-loop-sector : goal.invariant-loop-sector
invariant-loop-sector l = l.size ≤ 512 * l.sector
