use Rattle.std.proofs.Common.{refl}
use Rattle.script_runner.proofs.DiskRun.{asked, stands}
use Rattle.script_runner.proofs.playing.stack_over.Goals as goal

pub layered-requires : goal.layered-requires
layered-requires c =
    asked c.args.disk.now.sectors c.layers.result.now
    (stands c.args.disk.now _ c.layers.ensures refl c.requires.disk)
