use Rattle.std.proofs.Common.{refl}
use Rattle.script_runner.proofs.running.Running.read.Goals as goal

pub returns-clause-keeps : goal.returns-clause-keeps
returns-clause-keeps g c = record {
  time = refl;
  log_time = refl;
  size = c.read_sectors-bytes.ensures.size;
  count = refl;
}
