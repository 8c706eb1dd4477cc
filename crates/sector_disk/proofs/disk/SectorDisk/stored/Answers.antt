use Rattle.std.proofs.lemmas.Option.{IfSome_then}
use Rattle.sector_disk.proofs.DeviceLaw.{read_of}
use Rattle.sector_disk.proofs.disk.SectorDisk.stored.Goals as goal

pub returns : goal.returns
returns c =
    IfSome_then c.stored.result c.stored.ensures (λ bytes is.
    read_of c.args.self.now c.deref.result.now c.deref-2.result.now bytes.now c.args.first
    c.args.count c.deref.ensures.value c.deref-2.ensures.value c.requires is)
