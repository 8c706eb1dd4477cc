use Rattle.dmlw_commands.proofs.QuestionEnds.{same_judged, same_verdict}
use Rattle.dmlw_commands.proofs.judge_image.laws.findings_are_verdicts.Goals as goal

pub returns-clause-content : goal.returns-clause-content
returns-clause-content c =
    same_verdict c.verdicts_differ.ensures.one c.possible_is_exact.ensures.possible

pub returns-clause-judged : goal.returns-clause-judged
returns-clause-judged c =
    same_judged c.verdicts_differ.ensures.one c.possible_is_exact.ensures.possible
