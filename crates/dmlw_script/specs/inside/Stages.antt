-- How much of a script was read, without its body.
use Rattle.std.specs.Prelude.{ℕ, List}
use Rattle.bio.specs.declared.request.SectorSize.{SectorSize}
use Rattle.dmlw_script.specs.Plans.{Disk}

-- `Empty`: nothing was read. `Data`: the line of the data disk was read. `Whole`: the lines of both
-- disks were read, and any layers. `Ended`: also a crash with these picks was read, which ends the
-- script.
pub data Stage : Type 0 where
  Empty : Stage
  Data : Disk → Stage
  Whole : Disk → Disk → SectorSize → Stage
  Ended : Disk → Disk → SectorSize → List ℕ → Stage
