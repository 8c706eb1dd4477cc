use Rattle.dmlw_commands.proofs.CopyOnDisks.{copy_alike, copy_whole}
use Rattle.dmlw_commands.proofs.copy_log.laws.copies_replay_alike.Goals as goal

pub returns-clause-whole : goal.returns-clause-whole
returns-clause-whole c = copy_whole

pub returns-clause-alike : goal.returns-clause-alike
returns-clause-alike c = copy_alike
