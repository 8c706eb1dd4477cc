use Rattle.std.proofs.Common.{◌/◌, length, refl}
use Rattle.bio.specs.Content.{nothing}
use Rattle.blockdev.specs.JoinLaws.{goes_none}
use Rattle.sector_disk.specs.DiskView.{shown_of}
use Rattle.sector_disk.proofs.DeviceLaw.{read_of}
use Rattle.sector_disk.proofs.disk.device.SectorDiskBlockDev.read.Goals as goal

pub returns-clause-bytes : goal.returns-clause-bytes
returns-clause-bytes c =
    read_of c.args.self.now c.deref.result.now c.deref-2.result.now c.read_places.new.buffer
    c.args.first (length c.args.buffer.now / 512)
    c.deref.ensures.value c.deref-2.ensures.value c.requires.within c.read_places.ensures

pub returns-clause-goes : goal.returns-clause-goes
returns-clause-goes c = goes_none nothing (shown_of c.args.self.now)

pub returns-clause-does : goal.returns-clause-does
returns-clause-does c = (
  refl,
  record { sectors = refl; start = refl; past = refl },
  read_of c.args.self.now c.deref.result.now c.deref-2.result.now c.read_places.new.buffer
      c.args.first (length c.args.buffer.now / 512)
      c.deref.ensures.value c.deref-2.ensures.value c.requires.within c.read_places.ensures,
)
