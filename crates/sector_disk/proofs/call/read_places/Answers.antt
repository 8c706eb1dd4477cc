use Rattle.std.proofs.Common.{arith}
use Rattle.sector_disk.proofs.ImageBack.{gather-more, length-gather_at}
use Rattle.sector_disk.proofs.call.read_places.Goals as goal

pub loop-index-preserved : goal.loop-index-preserved
loop-index-preserved c = grind (arith, gather-more, length-gather_at)
