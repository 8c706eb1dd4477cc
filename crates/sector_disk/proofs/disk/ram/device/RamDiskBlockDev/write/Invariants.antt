use Rattle.std.proofs.Common.{◌-◌, length}
use Rattle.sector_disk.specs.RamView.{ram_view}
use Rattle.sector_disk.proofs.RamLaw.{PartIsWritten}
use Rattle.sector_disk.proofs.disk.ram.device.RamDiskBlockDev.write.Given as goal

abbrev pub invariant-loop-done : goal.invariant-loop-done
invariant-loop-done l = PartIsWritten l.fn.first l.fn.bytes l.done (ram_view l.fn.self) (ram_view l.self)

abbrev pub decreases-loop-done : goal.decreases-loop-done
decreases-loop-done l = length l.bytes - l.done
