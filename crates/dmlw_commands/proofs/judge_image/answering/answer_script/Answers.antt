use Rattle.std.proofs.Common.{◌∙◌, IfErr, IfOk, Result, ap, subst, sym}
use Rattle.dmlw_script.specs.Plans.{top_of}
use Rattle.refusals.specs.declared.run_error.RunError.{RunError}
use Rattle.script_runner.specs.CallLaws.{on_error}
use Rattle.script_runner.specs.DiskRun.{IsRehearsed}
use Rattle.dmlw_commands.specs.Judgements.{HasAnswer, HasNoVerdict, question}
use Rattle.dmlw_commands.proofs.QuestionEnds.{failed_run, faulted_by, judged_by}
use Rattle.dmlw_commands.proofs.judge_image.answering.answer_script.Goals as goal

pub returns-in_err-rehearsed-clause-faults : goal.returns-in_err-rehearsed-clause-faults
returns-in_err-rehearsed-clause-faults g c =
    on_error c.from_residual.result c.from_residual.ensures.1
    (λ fault is. failed_run c.args.text.now c.args.image.now c.args.moment c.args.script.now _ fault
    c.requires.whole c.requires.spelled
    c.in_err-rehearsed.ensures.faults is)

pub returns-clause-verdict : goal.returns-clause-verdict
returns-clause-verdict g c =
    let same = c.top_sectors-sectors.ensures ∙ ap top_of c.data.ensures.disk in
    let rehearsed =
    subst (IsRehearsed c.args.script.now)
    (sym c.events.ensures) c.in_ok-rehearsed.ensures.rehearsed in
    let lawful =
    rw (← c.events.ensures) at c.in_ok-rehearsed.ensures.lawful in
    let aligned =
    rw (← c.events.ensures) at c.in_ok-rehearsed.ensures.aligned in
    subst (λ (r : Result g.row.A.Denot RunError). IfOk r
    (HasAnswer g.A.Answer.meaning (question c.args.text.now c.args.image.now c.args.moment)))
    (sym c.answered_by.ensures)
    (judged_by g.A.Answer.meaning c.args.text.now c.args.image.now c.args.moment
    c.top_sectors-sectors.result c.args.script.now c.events.result.now
    c.answer_events-answered.result
    c.requires.whole c.requires.spelled rehearsed lawful aligned same
    c.answer_events-answered.ensures.verdict)

pub returns-clause-faults : goal.returns-clause-faults
returns-clause-faults g c =
    let same = c.top_sectors-sectors.ensures ∙ ap top_of c.data.ensures.disk in
    let rehearsed =
    subst (IsRehearsed c.args.script.now)
    (sym c.events.ensures) c.in_ok-rehearsed.ensures.rehearsed in
    subst (λ (r : Result g.row.A.Denot RunError). IfErr r
    (HasNoVerdict (question c.args.text.now c.args.image.now c.args.moment)))
    (sym c.answered_by.ensures)
    (faulted_by c.args.text.now c.args.image.now c.args.moment c.top_sectors-sectors.result
    c.args.script.now c.events.result.now c.answer_events-answered.result
    c.requires.whole c.requires.spelled rehearsed same c.answer_events-answered.ensures.faults)
