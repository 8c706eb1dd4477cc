use Rattle.std.proofs.Common.{◌∙◌}
use Rattle.dmlw_commands.specs.EndLaws.{ends_told}
use Rattle.dmlw_commands.specs.Judgements.{question_of}
use Rattle.dmlw_commands.proofs.CommandEnds.{reads_end}
use Rattle.dmlw_commands.proofs.QuestionEnds.{answers_kept}
use Rattle.dmlw_commands.proofs.judge_image.answering.ask.Goals as goal

pub returns : goal.returns
returns g c =
    let did = c.answer_files-answered.ensures in
    let more = c.explain_answered-more.ensures in
    let end = c.end_answering.ensures in
    let told =
    ends_told _ c.as_str.result.now _ _ c.end_answering.result
    (λ off. c.as_str.ensures.value ∙ more.silent off) end.exit end.quiet end.told in
    record {
      ends = reads_end _ _ _ _ _ _ _ c.end_answering.result
          (λ files. answers_kept g.A.Answer.meaning (question_of files c.args.asked.script.now
          c.args.asked.moment c.args.asked.image.now)) did.judged end.kept
          (more.unwritten ∙ did.unwritten) (λ name. more.kept name ∙ did.kept name) told;
    }
