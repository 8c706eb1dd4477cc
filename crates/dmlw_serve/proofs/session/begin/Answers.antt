use Rattle.std.proofs.Common.{◌∙◌, subst, sym}
use Rattle.std.specs.Prelude.{Option, List, ℕ}
use Rattle.std.proofs.lemmas.Result.{IfOk-weaker}
use Rattle.refusals.specs.Errors.{IsFileError}
use Rattle.dmlw_files.specs.Files.{FileHoldsImage, MatchesContents}
use Rattle.script_runner.specs.CallLaws.{on_error}
use Rattle.dmlw_serve.specs.Serves.{FailsServing, same_file, unread_first, unstarted}
use Rattle.dmlw_serve.proofs.Sessions.{if_err, if_failed}
use Rattle.dmlw_serve.proofs.session.begin.Goals as goal

pub returns-in_err-script-clause-begun : goal.returns-in_err-script-clause-begun
returns-in_err-script-clause-begun g c = if_failed _ c.from_residual.result c.from_residual.ensures.0

pub returns-in_err-script-clause-faults : goal.returns-in_err-script-clause-faults
returns-in_err-script-clause-faults g c =
    on_error c.from_residual.result c.from_residual.ensures.1
    (λ fault is. subst (FailsServing _ _ _) (sym is) (c.in_err-script.ensures.faults _ _))

pub returns-in_err-first-clause-begun : goal.returns-in_err-first-clause-begun
returns-in_err-first-clause-begun g c =
    if_failed _ c.from_residual-in_err-first.result c.from_residual-in_err-first.ensures.0

pub returns-in_err-first-clause-faults : goal.returns-in_err-first-clause-faults
returns-in_err-first-clause-faults g c =
    on_error c.from_residual-in_err-first.result c.from_residual-in_err-first.ensures.1
    (λ fault is. unread_first fault (subst IsFileError (sym is) c.in_err-first.ensures.fault)
    (λ holds. is ∙ c.in_err-first.ensures.readable
    (subst FileHoldsImage (sym (c.in_ok-script.ensures.kept c.args.names.first.now)) holds)))

pub returns-in_err-first-clause-kept : goal.returns-in_err-first-clause-kept
returns-in_err-first-clause-kept g c =
    λ name. c.in_err-first.ensures.kept name ∙ c.in_ok-script.ensures.kept name

pub returns-clause-begun : goal.returns-clause-begun
returns-clause-begun g c =
    let read = c.in_ok-script.ensures.read in
    let first = subst (λ (held : Option (List ℕ)). MatchesContents held c.in_ok-first.first)
    (c.in_ok-script.ensures.kept c.args.names.first.now) c.in_ok-first.ensures.contents in
    IfOk-weaker c.start.result _ _
    (λ server begins. (
      read.0,
      c.in_ok-first.first,
      read.1,
      first,
      (c.in_ok-script.script, read.2, read.3, begins),
    )) c.start.ensures.begun

pub returns-clause-faults : goal.returns-clause-faults
returns-clause-faults g c =
    let read = c.in_ok-script.ensures.read in
    let first = subst (λ (held : Option (List ℕ)). MatchesContents held c.in_ok-first.first)
    (c.in_ok-script.ensures.kept c.args.names.first.now) c.in_ok-first.ensures.contents in
    if_err c.start.result c.start.ensures.faults
    (λ fault fails. unstarted read.0 c.in_ok-first.first c.in_ok-script.script fault read.1 first
    read.2 read.3 fails)

pub returns-clause-kept : goal.returns-clause-kept
returns-clause-kept g c =
    λ name. c.in_ok-first.ensures.kept name ∙ c.in_ok-script.ensures.kept name

pub returns-then-is_read-clause-faults : goal.returns-then-is_read-clause-faults
returns-then-is_read-clause-faults g c =
    subst (FailsServing _ _ _) (sym c.from.ensures) (same_file (c.is_read.ensures.held c.if-is_read.true))

pub returns-in_err-first-clause-unwritten : goal.returns-in_err-first-clause-unwritten
returns-in_err-first-clause-unwritten g c =
    c.in_err-first.ensures.unwritten ∙ c.in_ok-script.ensures.unwritten

pub returns-clause-unwritten : goal.returns-clause-unwritten
returns-clause-unwritten g c = c.in_ok-first.ensures.unwritten ∙ c.in_ok-script.ensures.unwritten
