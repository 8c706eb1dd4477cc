use Rattle.script_runner.specs.CallLaws.{on_error}
use Rattle.dmlw_commands.proofs.QuestionEnds.{failed_text}
use Rattle.dmlw_commands.proofs.judge_image.answering.answer_text.Goals as goal

pub returns-in_err-script-clause-faults : goal.returns-in_err-script-clause-faults
returns-in_err-script-clause-faults g c =
    on_error c.from_residual.result c.from_residual.ensures.1
    (λ fault is. failed_text c.args.text.now c.args.image.now c.args.moment
    c.in_err-script.field-0.0 fault c.requires c.in_err-script.ensures.fault
    (λ plan spells. c.in_err-script.ensures.only plan spells) is)
