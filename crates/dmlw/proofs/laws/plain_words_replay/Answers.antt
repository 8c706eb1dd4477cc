use Rattle.std.proofs.Common.{[], ◌∷◌, ◌≡◌, Err, ap, false, inr, refl, true}
use Rattle.clap.proofs.OnLiterals.{clap_on_literals}
use Rattle.clap.specs.Words.{Text}
use Rattle.dmlw_commands.specs.declared.ending.Ended.{Ended}
use Rattle.refusals.specs.Errors.{memory_error}
use Rattle.replay.specs.declared.replaying.Upto.{Upto}
use Rattle.replay.specs.declared.replaying.Upto.TheVariants as uptos
use Rattle.dmlw_commands.specs.Replays.{IsWhat, file}
use Rattle.dmlw_commands.specs.Seen.{Seen}
use Rattle.dmlw.specs.CommandLine.{is_positional}
use Rattle.dmlw.specs.Commands.{EndsReplayingUpTo}
use Rattle.dmlw.specs.declared.program.Name.TheVariants as names
use Rattle.dmlw.specs.declared.task.BadWord.TheVariants as bad_words
use Rattle.dmlw.specs.declared.task.Task.TheVariants as tasks
use Rattle.dmlw.proofs.PlainCommands.{DoesPlain, memory_ends, none_made, plain_does}
use Rattle.dmlw.proofs.PlainWords.{same_some}
use Rattle.dmlw.proofs.laws.plain_words_replay.Goals as goal

replay_ends : (log first out what : Text) (upto : Upto) (old new : Seen) (ended : Ended)
    → IsWhat what upto → DoesPlain names.Replay (log ∷ first ∷ out ∷ what ∷ []) old new ended
    → EndsReplayingUpTo what log first out false old new ended
replay_ends log first out what upto old new ended is
    (tasks.Replay files given, (is_log, is_first, is_out, word, is_word, means), ends) = (
      given,
      rw (same_some what word is_word) means,
      rw (
        same_some log files.log.now is_log,
        same_some first files.first.now is_first,
        same_some out files.out.now is_out,
      ) ends,
    )
replay_ends log first out what upto old new ended is
    (tasks.HasBadWord bad_words.What word, (is_word, none), ends) =
    absurd (none upto (rw (← same_some what word.now is_word) is))
replay_ends log first out what upto old new ended is (tasks.Show error, no_memory, ends) =
    let told = memory_ends error old new ended no_memory ends in (
      upto,
      is,
      record {
        done = Err memory_error;
        did = none_made _ log out old new ended
            (λ kept. (file memory_error (inr refl) (λ log_holds first_holds. refl), kept)) told;
        tells = told.tells;
      },
    )
replay_ends log first out what upto old new ended is (task, asks, ends) = absurd asks

what_plain : (what : Text) (upto : Upto) → IsWhat what upto → is_positional what ≡ true
what_plain what (uptos.Count n) (digits, is, number) = ap is_positional is
what_plain what (uptos.Mark text) is = ap is_positional is
what_plain what uptos.Flush is = ap is_positional is

pub returns : goal.returns
unfolding clap_on_literals
returns c = λ old new ended program log first out what upto plain_log plain_first plain_out is does.
    replay_ends log first out what upto old new ended is
    (plain_does names.Replay program (log ∷ first ∷ out ∷ what ∷ []) old new ended
    (plain_log, (plain_first, (plain_out, (what_plain what upto is, tt)))) refl refl
    (refl, (refl, (refl, (refl, tt)))) does)
