use Rattle.script_runner.proofs.DiskRun.{bare_log_fails}
use Rattle.script_runner.proofs.laws.bare_logs_fail_only_by_memory.Goals as goal

pub returns : goal.returns
returns c = bare_log_fails c.stacks_do_what_their_layers_do.ensures
