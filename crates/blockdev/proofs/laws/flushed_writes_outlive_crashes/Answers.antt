use Rattle.blockdev.specs.JoinLaws.{landed-flushed}
use Rattle.blockdev.proofs.laws.flushed_writes_outlive_crashes.Goals as goal

pub returns : goal.returns
returns g c before written flushed =
    landed-flushed (g.D.BlockDev.shown before) (g.D.BlockDev.shown written)
    (g.D.BlockDev.shown flushed)
