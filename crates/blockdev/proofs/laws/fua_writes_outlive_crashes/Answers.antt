use Rattle.blockdev.specs.JoinLaws.{landed-durable}
use Rattle.blockdev.proofs.laws.fua_writes_outlive_crashes.Goals as goal

pub returns : goal.returns
returns g c before written = landed-durable (g.D.BlockDev.shown before) (g.D.BlockDev.shown written)
