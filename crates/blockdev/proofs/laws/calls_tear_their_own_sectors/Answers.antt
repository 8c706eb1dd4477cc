use Rattle.blockdev.specs.JoinLaws.{after-torn}
use Rattle.blockdev.proofs.laws.calls_tear_their_own_sectors.Goals as goal

pub returns : goal.returns
returns g c before after patch left goes may =
    after-torn patch (g.D.BlockDev.shown before).crash left (goes.crash left may)
