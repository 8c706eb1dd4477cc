use Rattle.std.proofs.Common.{[], ◌∷◌, false, refl}
use Rattle.clap.proofs.OnLiterals.{clap_on_literals}
use Rattle.clap.specs.Words.{Text}
use Rattle.dmlw_commands.specs.declared.ending.Ended.{Ended}
use Rattle.dmlw_commands.specs.Ends.{EndsAsCommand, exit_by}
use Rattle.dmlw_commands.specs.Lists.{ShowsStatus, ShowsLog}
use Rattle.dmlw_commands.specs.Seen.{Seen}
use Rattle.dmlw.specs.declared.program.Name.TheVariants as names
use Rattle.dmlw.specs.declared.task.Task.TheVariants as tasks
use Rattle.dmlw.proofs.PlainCommands.{DoesPlain, memory_ends, plain_does, showing_refused}
use Rattle.dmlw.proofs.PlainWords.{same_some}
use Rattle.dmlw.proofs.laws.plain_words_status.Goals as goal

status_ends : (log : Text) (old new : Seen) (ended : Ended)
    → DoesPlain names.Status (log ∷ []) old new ended
    → EndsAsCommand (ShowsLog ShowsStatus log) exit_by false old new ended
status_ends log old new ended (tasks.Status l, is, ends) = rw (same_some log l.now is) ends
status_ends log old new ended (tasks.Show error, is, ends) =
    showing_refused ShowsStatus log old new ended (memory_ends error old new ended is ends)
status_ends log old new ended (task, asks, ends) = absurd asks

pub returns : goal.returns
unfolding clap_on_literals
returns c = λ old new ended program log plain does.
    status_ends log old new ended
    (plain_does names.Status program (log ∷ []) old new ended (plain, tt) refl refl (refl, tt) does)
