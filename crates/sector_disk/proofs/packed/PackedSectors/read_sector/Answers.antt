use Rattle.std.proofs.Common.{arith}
use Rattle.sector_disk.proofs.PackedParts.{length-unpacked, sector_there}
use Rattle.sector_disk.proofs.packed.PackedSectors.read_sector.Goals as goal

pub part_at-part-requires-clause-within : goal.part_at-part-requires-clause-within
part_at-part-requires-clause-within c = grind (arith, length-unpacked)

pub returns : goal.returns
returns c = grind (arith, length-unpacked, sector_there)
