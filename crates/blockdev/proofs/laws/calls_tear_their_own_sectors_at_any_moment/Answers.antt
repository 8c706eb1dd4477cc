use Rattle.blockdev.specs.JoinLaws.{gained-torn}
use Rattle.blockdev.proofs.laws.calls_tear_their_own_sectors_at_any_moment.Goals as goal

pub returns : goal.returns
returns g c before after patch left =
    gained-torn (g.D.BlockDev.shown before) (g.D.BlockDev.shown after) patch left
    (g.met.D.BlockDev.lawful before)
