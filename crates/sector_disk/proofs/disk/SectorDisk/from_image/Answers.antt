use Rattle.std.proofs.lemmas.Result.{IfOk-weaker}
use Rattle.sector_disk.specs.DiskView.{shown_of}
use Rattle.sector_disk.proofs.NewPast.{image_made}
use Rattle.sector_disk.proofs.disk.SectorDisk.from_image.Goals as goal

pub returns : goal.returns
returns c =
    IfOk-weaker c.make.result _ _
    (λ disk begins. image_made c.args.image (shown_of disk) begins) c.make.ensures
