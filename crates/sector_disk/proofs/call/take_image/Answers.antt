use Rattle.std.proofs.Common.{◌∙◌}
use Rattle.sector_disk.proofs.ImageBack.{given}
use Rattle.sector_disk.proofs.call.take_image.Goals as goal

pub returns-in-Write : goal.returns-in-Write
returns-in-Write c =
    c.put_in.ensures
    ∙ given c.args.calls.now c.args.places.now c.args.sectors c.result-item.result c.in-Write.bytes
    _ c.result-item.is c.in-Write.is (c.in_ok-image.ensures ∙ c.replace.ensures.value)
    c.requires.image
