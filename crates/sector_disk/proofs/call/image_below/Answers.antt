use Rattle.std.proofs.Common.{◌*◌, arith}
use Rattle.sector_disk.proofs.ImageBack.{gather-image}
use Rattle.sector_disk.proofs.call.image_below.Goals as goal

pub returns-in-Image : goal.returns-in-Image
returns-in-Image c = λ within.
    gather-image c.args.calls.now c.args.places.now c.in_ok-call.call.now c.in-Image.image
    c.args.first c.args.count (512 * c.args.first) (grind (arith, c.in_ok-call.ensures.value)) (omega arith)
    c.in-Image.is (c.are_first.ensures c.if-not-are_first.false) (omega arith) (omega arith)
