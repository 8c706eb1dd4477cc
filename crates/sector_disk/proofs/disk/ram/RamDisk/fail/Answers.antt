use Rattle.std.proofs.Common.{arith, inl, refl}
use Rattle.bio.specs.Content.{nothing}
use Rattle.sector_disk.specs.inside.Storage.{content_at}
use Rattle.sector_disk.proofs.RamLaw.{ram_goes}
use Rattle.sector_disk.proofs.disk.ram.RamDisk.fail.Goals as goal

pub returns-clause-goes : goal.returns-clause-goes
returns-clause-goes c =
    let content = content_at c.args.self.now.calls.items c.args.self.now.newest.items in
    ram_goes nothing c.args.self.now.sectors content content c.args.self.now.faults _ (omega arith)
    (λ sector. inl refl)
