use Rattle.std.proofs.Common.{◌≡◌, ◌*◌, ◌++◌, take}
use Rattle.sector_disk.proofs.packed.PackedSectors.append_to.Given as goal

abbrev pub invariant-loop-sector : goal.invariant-loop-sector
invariant-loop-sector l = l.to.items ≡ l.fn.to.items ++ take (512 * l.sector) l.self
