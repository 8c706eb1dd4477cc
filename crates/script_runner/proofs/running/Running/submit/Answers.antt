use Rattle.std.proofs.Common.{arith, length, refl, subst, sym}
use Rattle.std.specs.Prelude.{is_ok}
use Rattle.script_runner.specs.CallLaws.{on_error}
use Rattle.script_runner.specs.Lines.{StopsForFile}
use Rattle.script_runner.proofs.LineSteps.{on_failed}
use Rattle.script_runner.proofs.LawfulRuns.{fits_larger, pushed_fit}
use Rattle.script_runner.proofs.running.Running.submit.Goals as goal

pub ask-request-requires : goal.ask-request-requires
ask-request-requires g c =
    fits_larger _ c.args.submission _ 1048576
    (g.met.D.BlockDev.lawful c.args.self.now.disk).few_sectors c.requires.fits

pub name_of-requires-clause-named : goal.name_of-requires-clause-named
name_of-requires-clause-named g c = omega (arith, c.args.self.now.requests.ok.0)

pub invariant_of-self : goal.invariant_of-self
invariant_of-self g c = record { fits = c.args.self.now.fits }

pub invariant_of-self-2 : goal.invariant_of-self-2
invariant_of-self-2 g c = record {
  fits =
      pushed_fit {l = g.L.BlockDev} _ _ c.args.submission c.ask-request.result
      c.args.self.now.recorder c.ask-request.new.recorder c.args.self.now.requests.items
      c.push.new.self.items (is_ok c.push.result)
      c.requires.fits c.ask-request.ensures.asks c.push.ensures.items c.args.self.now.fits;
}

pub returns-in_err-print_submission-clause-runs : goal.returns-in_err-print_submission-clause-runs
returns-in_err-print_submission-clause-runs g c =
    on_failed _ c.from_residual.result c.from_residual.ensures.0

pub returns-in_err-print_submission-clause-faults :
    goal.returns-in_err-print_submission-clause-faults
returns-in_err-print_submission-clause-faults g c =
    on_error c.from_residual.result c.from_residual.ensures.1
    (λ stop is. subst StopsForFile (sym is) c.in_err-print_submission.ensures.faults)

pub returns-in_err-print_submission-clause-size : goal.returns-in_err-print_submission-clause-size
returns-in_err-print_submission-clause-size g c = refl

pub returns-in_err-print_submission-clause-count : goal.returns-in_err-print_submission-clause-count
returns-in_err-print_submission-clause-count g c =
    on_failed _ c.from_residual.result c.from_residual.ensures.0

pub returns-in_err-push-clause-runs : goal.returns-in_err-push-clause-runs
returns-in_err-push-clause-runs g c =
    on_failed _ c.from_residual-in_err-push.result c.from_residual-in_err-push.ensures.0

pub returns-in_err-push-clause-faults : goal.returns-in_err-push-clause-faults
returns-in_err-push-clause-faults g c = grind (arith, on_error)

pub returns-in_err-push-clause-size : goal.returns-in_err-push-clause-size
returns-in_err-push-clause-size g c = refl

pub returns-in_err-push-clause-count : goal.returns-in_err-push-clause-count
returns-in_err-push-clause-count g c =
    on_failed _ c.from_residual-in_err-push.result c.from_residual-in_err-push.ensures.0

pub returns-clause-runs : goal.returns-clause-runs
returns-clause-runs g c = grind (arith, length)

pub returns-clause-size : goal.returns-clause-size
returns-clause-size g c = refl
