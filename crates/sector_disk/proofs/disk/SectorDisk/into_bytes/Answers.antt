use Rattle.std.proofs.Common.{refl}
use Rattle.std.proofs.lemmas.Result.{IfOk-weaker}
use Rattle.sector_disk.proofs.DeviceLaw.{given_of}
use Rattle.sector_disk.proofs.disk.SectorDisk.into_bytes.Goals as goal

pub returns-clause-content : goal.returns-clause-content
returns-clause-content c =
    IfOk-weaker c.give_all.result _ _
    (λ image is. (given_of c.args.self c.args.self.calls.items c.deref.result.now image.items
    c.args.self.sectors refl c.deref.ensures.value refl is).content) c.give_all.ensures

pub returns-clause-sectors : goal.returns-clause-sectors
returns-clause-sectors c =
    IfOk-weaker c.give_all.result _ _
    (λ image is. (given_of c.args.self c.args.self.calls.items c.deref.result.now image.items
    c.args.self.sectors refl c.deref.ensures.value refl is).sectors) c.give_all.ensures

pub returns-clause-length : goal.returns-clause-length
returns-clause-length c =
    IfOk-weaker c.give_all.result _ _
    (λ image is. (given_of c.args.self c.args.self.calls.items c.deref.result.now image.items
    c.args.self.sectors refl c.deref.ensures.value refl is).length) c.give_all.ensures
