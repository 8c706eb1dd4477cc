use Rattle.std.proofs.Common.{[], ◌∷◌, ℕ, false, refl}
use Rattle.clap.proofs.OnLiterals.{clap_on_literals}
use Rattle.clap.specs.Words.{Text}
use Rattle.dmlw_commands.specs.declared.ending.Ended.{Ended}
use Rattle.refusals.specs.Words.{IsNumber}
use Rattle.dmlw_commands.specs.Ends.{EndsAsCommand}
use Rattle.dmlw_commands.specs.Judgements.{AnswersOf, exit_answered, finding_meaning}
use Rattle.dmlw_commands.specs.Seen.{Seen}
use Rattle.dmlw.specs.declared.program.Name.TheVariants as names
use Rattle.dmlw.specs.declared.task.BadWord.TheVariants as bad_words
use Rattle.dmlw.specs.declared.task.Task.TheVariants as tasks
use Rattle.dmlw.proofs.PlainCommands.{DoesPlain, answer_refused, memory_ends, number_named}
use Rattle.dmlw.proofs.PlainCommands.{number_plain, plain_does, same_number}
use Rattle.dmlw.proofs.PlainWords.{same_some}
use Rattle.dmlw.proofs.laws.plain_words_path.Goals as goal

path_ends : (script m image : Text) (moment : ℕ) (old new : Seen) (ended : Ended)
    → IsNumber m moment → DoesPlain names.Path (script ∷ m ∷ image ∷ []) old new ended
    → EndsAsCommand (AnswersOf finding_meaning script moment image) (exit_answered finding_meaning) false
    old new ended
path_ends script m image moment old new ended number
    (tasks.Path s n i, (is_script, is_image, word, is_word, named), ends) =
    rw (
      same_some script s.now is_script,
      same_some image i.now is_image,
      same_number m word moment n number named is_word,
    ) ends
path_ends script m image moment old new ended number
    (tasks.HasBadWord bad_words.Moment word, (is_word, none), ends) =
    absurd (number_named m word.now moment number is_word none)
path_ends script m image moment old new ended number (tasks.Show error, is, ends) =
    answer_refused finding_meaning script moment image old new ended
    (memory_ends error old new ended is ends)
path_ends script m image moment old new ended number (task, asks, ends) = absurd asks

pub returns : goal.returns
unfolding clap_on_literals
returns c = λ old new ended program script m image moment plain_script number plain_image does.
    path_ends script m image moment old new ended number
    (plain_does names.Path program (script ∷ m ∷ image ∷ []) old new ended
    (plain_script, (number_plain m moment number, (plain_image, tt))) refl refl
    (refl, (refl, (refl, tt))) does)
