use Rattle.std.proofs.Common.{arith}
use Rattle.sector_disk.proofs.ImageBack.{gather-next, length-value_at}
use Rattle.sector_disk.proofs.call.read_part.Goals as goal

pub loop-index-preserved : goal.loop-index-preserved
loop-index-preserved c = grind (arith, length-value_at, gather-next)
