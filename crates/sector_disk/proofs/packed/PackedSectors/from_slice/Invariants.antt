use Rattle.sector_disk.specs.inside.Packed.{IsPackedTo}
use Rattle.sector_disk.proofs.packed.PackedSectors.from_slice.Given as goal

abbrev pub invariant-loop-sector : goal.invariant-loop-sector
invariant-loop-sector l = IsPackedTo l.bytes l.held.items l.bounds.items l.sector
