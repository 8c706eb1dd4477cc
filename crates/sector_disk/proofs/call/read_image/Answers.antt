use Rattle.std.proofs.Common.{arith}
use Rattle.sector_disk.proofs.ImageBack.{written-none, written-some}
use Rattle.sector_disk.proofs.call.read_image.Goals as goal
use Rattle.sector_disk.proofs.call.read_image.Goals.{then-sector-first-via-then-sector-first}
use Rattle.sector_disk.proofs.call.read_image.Goals.{then-sector-first-via-else-sector-first+then-sector-first-2}

pub returns-then-sector-first : goal.returns-then-sector-first
returns-then-sector-first c =
    grind (
      arith,
      written-none,
      then-sector-first-via-then-sector-first,
      then-sector-first-via-else-sector-first+then-sector-first-2,
    )

pub returns : goal.returns
returns c = grind (arith, written-some)
