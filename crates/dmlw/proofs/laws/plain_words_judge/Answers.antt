use Rattle.std.proofs.Common.{[], ◌∷◌, ℕ, false, refl}
use Rattle.clap.proofs.OnLiterals.{clap_on_literals}
use Rattle.clap.specs.Words.{Text}
use Rattle.dmlw_commands.specs.declared.ending.Ended.{Ended}
use Rattle.refusals.specs.Words.{IsNumber}
use Rattle.dmlw_commands.specs.Ends.{EndsAsCommand}
use Rattle.dmlw_commands.specs.Judgements.{AnswersOf, exit_answered, verdict_meaning}
use Rattle.dmlw_commands.specs.Seen.{Seen}
use Rattle.dmlw.specs.declared.program.Name.TheVariants as names
use Rattle.dmlw.specs.declared.task.BadWord.TheVariants as bad_words
use Rattle.dmlw.specs.declared.task.Task.TheVariants as tasks
use Rattle.dmlw.proofs.PlainCommands.{DoesPlain, answer_refused, memory_ends, number_named}
use Rattle.dmlw.proofs.PlainCommands.{number_plain, plain_does, same_number}
use Rattle.dmlw.proofs.PlainWords.{same_some}
use Rattle.dmlw.proofs.laws.plain_words_judge.Goals as goal

judge_ends : (script m image : Text) (moment : ℕ) (old new : Seen) (ended : Ended)
    → IsNumber m moment → DoesPlain names.Judge (script ∷ m ∷ image ∷ []) old new ended
    → EndsAsCommand (AnswersOf verdict_meaning script moment image) (exit_answered verdict_meaning) false
    old new ended
judge_ends script m image moment old new ended number
    (tasks.Judge s n i, (is_script, is_image, word, is_word, named), ends) =
    rw (
      same_some script s.now is_script,
      same_some image i.now is_image,
      same_number m word moment n number named is_word,
    ) ends
judge_ends script m image moment old new ended number
    (tasks.HasBadWord bad_words.Moment word, (is_word, none), ends) =
    absurd (number_named m word.now moment number is_word none)
judge_ends script m image moment old new ended number (tasks.Show error, is, ends) =
    answer_refused verdict_meaning script moment image old new ended
    (memory_ends error old new ended is ends)
judge_ends script m image moment old new ended number (task, asks, ends) = absurd asks

pub returns : goal.returns
unfolding clap_on_literals
returns c = λ old new ended program script m image moment plain_script number plain_image does.
    judge_ends script m image moment old new ended number
    (plain_does names.Judge program (script ∷ m ∷ image ∷ []) old new ended
    (plain_script, (number_plain m moment number, (plain_image, tt))) refl refl
    (refl, (refl, (refl, tt))) does)
