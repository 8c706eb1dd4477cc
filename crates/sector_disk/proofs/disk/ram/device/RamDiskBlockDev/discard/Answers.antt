use Rattle.std.proofs.Common.{refl, rules}
use Rattle.bio.specs.Content.{discards}
use Rattle.sector_disk.specs.RamView.{ram_view}
use Rattle.sector_disk.proofs.RamLaw.{puts_some}
use Rattle.sector_disk.proofs.disk.ram.device.RamDiskBlockDev.discard.Goals as goal

pub returns-in_err-put-clause-does : goal.returns-in_err-put-clause-does
returns-in_err-put-clause-does c =
    puts_some (discards c.args.first c.args.count) c.args.now c.from_residual.result
    (ram_view c.args.self.now) (ram_view c.put.new.self) (search rules)
    c.put.ensures.goes c.put.ensures.faults

pub returns-clause-does : goal.returns-clause-does
returns-clause-does c = (refl, c.in_ok-put.ensures.lands.content, c.put.ensures.faults)
