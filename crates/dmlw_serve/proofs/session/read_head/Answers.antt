use Rattle.std.proofs.Common.{◌∙◌, ap, subst, sym, ℕ, List}
use Rattle.refusals.specs.Errors.{IsFileError, refused_by}
use Rattle.dmlw_files.specs.declared.files.FileError.{FileError}
use Rattle.dmlw_files.specs.Files.{MatchesContents, file_refusal}
use Rattle.dmlw_script.specs.Grammar.{IsTextOf}
use Rattle.script_runner.specs.CallLaws.{on_error}
use Rattle.dmlw_serve.specs.Serves.{FailsServing, longer, script, unread_head}
use Rattle.dmlw_serve.proofs.Sessions.{file_told, if_failed}
use Rattle.dmlw_serve.proofs.session.read_head.Goals as goal

pub returns-in_err-text-clause-read : goal.returns-in_err-text-clause-read
returns-in_err-text-clause-read g c = if_failed _ c.from_residual.result c.from_residual.ensures.0

pub returns-in_err-text-clause-faults : goal.returns-in_err-text-clause-faults
returns-in_err-text-clause-faults g c = λ first log.
    on_error c.from_residual.result c.from_residual.ensures.1
    (λ fault is. unread_head fault (subst IsFileError (sym is) (file_told c.in_err-text.field-0.0))
    (λ within. is ∙ ap (λ (error : FileError). refused_by (file_refusal error))
    (c.in_err-text.ensures.readable within)))

pub returns-in_err-script-clause-read : goal.returns-in_err-script-clause-read
returns-in_err-script-clause-read g c =
    if_failed _ c.from_residual-in_err-script.result c.from_residual-in_err-script.ensures.0

pub returns-in_err-script-clause-faults : goal.returns-in_err-script-clause-faults
returns-in_err-script-clause-faults g c = λ first log.
    let contents = g.F.Files.contents c.args.files.now c.args.name.now in
    let is = subst (MatchesContents contents) (sym c.deref.ensures.value) c.in_ok-text.ensures.contents in
    on_error c.from_residual-in_err-script.result c.from_residual-in_err-script.ensures.1
    (λ fault same. subst (FailsServing contents first log) (sym same)
    (script c.deref.result.now c.in_err-script.field-0.0 is c.in_err-script.ensures.fault))

pub returns-in_err-check_head-clause-read : goal.returns-in_err-check_head-clause-read
returns-in_err-check_head-clause-read g c =
    if_failed _ c.from_residual-in_err-check_head.result c.from_residual-in_err-check_head.ensures.0

pub returns-in_err-check_head-clause-faults : goal.returns-in_err-check_head-clause-faults
returns-in_err-check_head-clause-faults g c = λ first log.
    let contents = g.F.Files.contents c.args.files.now c.args.name.now in
    let is = subst (MatchesContents contents) (sym c.deref-2.ensures.value)
    c.in_ok-text.ensures.contents in
    let spelled = subst (λ (text : List ℕ). IsTextOf text c.in_ok-script.script)
    (c.deref.ensures.value ∙ sym c.deref-2.ensures.value) c.in_ok-script.ensures.found in
    let bad = c.in_err-check_head.ensures.longer in
    on_error c.from_residual-in_err-check_head.result c.from_residual-in_err-check_head.ensures.1
    (λ fault same. subst (FailsServing contents first log) (sym (same ∙ bad.1))
    (longer c.deref-2.result.now c.in_ok-script.script bad.0 is spelled bad.2))

pub returns-clause-read : goal.returns-clause-read
returns-clause-read g c = (
  c.deref.result.now,
  subst (MatchesContents (g.F.Files.contents c.args.files.now c.args.name.now))
      (sym c.deref.ensures.value) c.in_ok-text.ensures.contents,
  c.in_ok-script.ensures.found,
  c.in_ok-check_head.ensures.head,
)
