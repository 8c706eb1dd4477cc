use Rattle.std.proofs.Common.{arith}
use Rattle.sector_disk.proofs.PackedParts.{length-unpacked}
use Rattle.sector_disk.proofs.packed.PackedSectors.len.Goals as goal

pub returns-clause-count : goal.returns-clause-count
returns-clause-count c = grind (arith, length-unpacked)
