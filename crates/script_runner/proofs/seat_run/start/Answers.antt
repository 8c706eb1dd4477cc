use Rattle.std.proofs.Common.{subst, sym}
use Rattle.refusals.specs.declared.run_error.End.{End}
use Rattle.refusals.specs.declared.run_error.RunError.TheVariants.{LoggingEnded}
use Rattle.script_runner.specs.SeatRuns.{FailsRun, unmade}
use Rattle.script_runner.proofs.seat_run.start.Goals as goal

pub returns-in-Err-clause-faults : goal.returns-in-Err-clause-faults
returns-in-Err-clause-faults g c =
    let refused = c.in-Err.refused in
    subst (λ (end : End). FailsRun c.args.script.now (LoggingEnded end)) (sym c.end_of.ensures)
    (unmade refused.2 (record {
      old = c.args.log;
      new = refused.1;
      blank = c.requires.log;
      failed = c.in-Err.ensures.failed;
      fits = c.in-Err.ensures.fits;
    }))
