use Rattle.std.proofs.Common.{◌∙◌, List, Option, subst, sym, ℕ}
use Rattle.refusals.specs.Errors.{IsFileError}
use Rattle.dmlw_files.specs.Files.{FileHoldsImage, MatchesContents}
use Rattle.dmlw_commands.specs.Judgements.{file}
use Rattle.dmlw_commands.proofs.QuestionEnds.{answered_files, answered_none, failed_file}
use Rattle.dmlw_commands.proofs.judge_image.answering.answer_files.Goals as goal

pub returns-in_err-text-clause-judged : goal.returns-in_err-text-clause-judged
returns-in_err-text-clause-judged g c =
    answered_none _ _ _ c.from_residual.result c.from_residual.ensures.1
    (λ fault is. failed_file _ _ fault c.in_err-text.ensures.readable is)

pub returns-in_err-image-clause-judged : goal.returns-in_err-image-clause-judged
returns-in_err-image-clause-judged g c =
    answered_none _ _ _ c.from_residual-in_err-image.result c.from_residual-in_err-image.ensures.1
    (λ fault is. file fault (subst IsFileError (sym is) c.in_err-image.ensures.fault)
    (λ usable. is ∙ c.in_err-image.ensures.readable (subst FileHoldsImage
    (sym (c.in_ok-text.ensures.kept c.args.asked.image.now)) usable.1)))

pub returns-clause-judged : goal.returns-clause-judged
returns-clause-judged g c =
    let script =
    subst (MatchesContents (g.F.Files.contents c.args.files.now c.args.asked.script.now))
    (sym c.deref.ensures.value) c.in_ok-text.ensures.contents in
    let bytes =
    subst (λ (known : Option (List ℕ)). MatchesContents known c.in_ok-image.image.items)
    (c.in_ok-text.ensures.kept c.args.asked.image.now) c.in_ok-image.ensures.contents in
    let image =
    subst (MatchesContents (g.F.Files.contents c.args.files.now c.args.asked.image.now))
    (sym c.deref-2.ensures.value) bytes in
    answered_files _ _ c.deref.result.now c.deref-2.result.now _ _ c.answer_text.result
    c.print_answer.result script image
    c.answer_text.ensures.verdict c.answer_text.ensures.faults c.print_answer.ensures.printed
    c.print_answer.ensures.faults
