use Rattle.std.proofs.Common.{[], ◌∷◌, false, refl}
use Rattle.clap.proofs.OnLiterals.{clap_on_literals}
use Rattle.clap.specs.Words.{Text}
use Rattle.dmlw_commands.specs.declared.ending.Ended.{Ended}
use Rattle.dmlw_commands.specs.Ends.{EndsAsCommand, exit_after}
use Rattle.dmlw_commands.specs.Records.{RecordsScript, of_recorder}
use Rattle.dmlw_commands.specs.Seen.{Seen}
use Rattle.dmlw.specs.declared.program.Name.TheVariants as names
use Rattle.dmlw.specs.declared.task.Task.TheVariants as tasks
use Rattle.dmlw.proofs.PlainCommands.{DoesPlain, memory_ends, plain_does, recording_refused}
use Rattle.dmlw.proofs.PlainWords.{same_some}
use Rattle.dmlw.proofs.laws.plain_words_record.Goals as goal

record_ends : (script log : Text) (old new : Seen) (ended : Ended)
    → DoesPlain names.Record (script ∷ log ∷ []) old new ended
    → EndsAsCommand (RecordsScript of_recorder script log) exit_after false old new ended
record_ends script log old new ended (tasks.Record s l, (is_script, is_log), ends) =
    rw (same_some script s.now is_script, same_some log l.now is_log) ends
record_ends script log old new ended (tasks.Show error, is, ends) =
    recording_refused of_recorder script log old new ended (memory_ends error old new ended is ends)
record_ends script log old new ended (task, asks, ends) = absurd asks

pub returns : goal.returns
unfolding clap_on_literals
returns c = λ old new ended program script log plain_script plain_log does.
    record_ends script log old new ended
    (plain_does names.Record program (script ∷ log ∷ []) old new ended (plain_script, (plain_log, tt))
    refl refl (refl, (refl, tt)) does)
