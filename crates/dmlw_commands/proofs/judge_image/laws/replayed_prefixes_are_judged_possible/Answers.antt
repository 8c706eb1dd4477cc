use Rattle.dmlw_commands.proofs.QuestionEnds.{asked_yes, begun_yes, judged_yes}
use Rattle.dmlw_commands.proofs.judge_image.laws.replayed_prefixes_are_judged_possible.Goals as goal

pub returns-clause-content : goal.returns-clause-content
returns-clause-content c = begun_yes c.prefixes_are_possible.ensures

pub returns-clause-judged : goal.returns-clause-judged
returns-clause-judged c = judged_yes c.prefixes_are_possible.ensures

pub returns-clause-asked : goal.returns-clause-asked
returns-clause-asked c = asked_yes c.prefixes_are_possible.ensures
