use Rattle.blockdev.specs.JoinLaws.{goes_none}
use Rattle.bio.specs.Content.{nothing}
use Rattle.sector_disk.specs.RamView.{ram_view}
use Rattle.sector_disk.proofs.disk.ram.device.RamDiskBlockDev.read.Goals as goal

pub returns-clause-goes : goal.returns-clause-goes
returns-clause-goes c = goes_none nothing (ram_view c.args.self.now)
