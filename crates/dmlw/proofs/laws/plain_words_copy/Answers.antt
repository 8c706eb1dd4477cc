use Rattle.std.proofs.Common.{[], ◌∷◌, ℕ, Err, false, inr, refl}
use Rattle.clap.proofs.OnLiterals.{clap_on_literals}
use Rattle.clap.specs.Words.{Text}
use Rattle.dmlw_commands.specs.declared.ending.Ended.{Ended}
use Rattle.refusals.specs.Errors.{memory_error}
use Rattle.dmlw_commands.specs.Ends.{EndsAsCommand, exit_by}
use Rattle.dmlw_commands.specs.LogCopies.{Copies, file}
use Rattle.dmlw_commands.specs.Seen.{Seen}
use Rattle.dmlw.specs.Commands.{IsSectorCount}
use Rattle.dmlw.specs.declared.program.Name.TheVariants as names
use Rattle.dmlw.specs.declared.task.BadWord.TheVariants as bad_words
use Rattle.dmlw.specs.declared.task.Task.TheVariants as tasks
use Rattle.dmlw.proofs.PlainCommands.{DoesPlain, memory_ends, none_made, number_plain, plain_does}
use Rattle.dmlw.proofs.PlainCommands.{same_number}
use Rattle.dmlw.proofs.PlainWords.{same_some}
use Rattle.dmlw.proofs.laws.plain_words_copy.Goals as goal

copy_ends : (log out word : Text) (sectors : ℕ) (old new : Seen) (ended : Ended)
    → IsSectorCount word sectors → DoesPlain names.Copy (log ∷ out ∷ word ∷ []) old new ended
    → EndsAsCommand (Copies log out sectors) exit_by false old new ended
copy_ends log out word sectors old new ended is
    (tasks.Copy files asked, (is_log, is_out, found, is_word, named), ends) =
    rw (
      same_some log files.log.now is_log,
      same_some out files.out.now is_out,
      same_number word found sectors asked is.number named.number is_word,
    ) ends
copy_ends log out word sectors old new ended is
    (tasks.HasBadWord bad_words.Sectors found, (is_word, none), ends) =
    absurd (none sectors (rw (← same_some word found.now is_word) is))
copy_ends log out word sectors old new ended is (tasks.Show error, no_memory, ends) =
    let told = memory_ends error old new ended no_memory ends in record {
      done = Err memory_error;
      did = none_made _ log out old new ended
          (λ kept. (file memory_error (inr refl) (λ log_holds. refl), kept)) told;
      tells = told.tells;
    }
copy_ends log out word sectors old new ended is (task, asks, ends) = absurd asks

pub returns : goal.returns
unfolding clap_on_literals
returns c = λ old new ended program log out word sectors plain_log plain_out is does.
    copy_ends log out word sectors old new ended is
    (plain_does names.Copy program (log ∷ out ∷ word ∷ []) old new ended
    (plain_log, (plain_out, (number_plain word sectors is.number, tt))) refl refl
    (refl, (refl, (refl, tt))) does)
