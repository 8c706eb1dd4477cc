use Rattle.std.proofs.Common.{◌/◌, length, arith}
use Rattle.sector_disk.proofs.DeviceLaw.{given_of}
use Rattle.sector_disk.proofs.disk.SectorDisk.bytes.Goals as goal

pub returns : goal.returns
returns c =
    let given = given_of c.args.self.now c.deref.result.now c.deref-2.result.now
    c.read_all.new.image.items (length c.in_ok-image.image.items / 512) c.deref.ensures.value
    c.deref-2.ensures.value (let size = c.in_ok-image.ensures.len in omega arith)
    c.read_all.ensures in
    record { content = given.content; sectors = given.sectors; length = given.length }
