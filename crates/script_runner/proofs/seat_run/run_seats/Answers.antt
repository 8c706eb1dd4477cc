use Rattle.std.proofs.Common.{◌∙◌}
use Rattle.script_runner.specs.CallLaws.{on_error}
use Rattle.script_runner.proofs.SeatRunSteps.{fails_memory}
use Rattle.script_runner.proofs.seat_run.run_seats.Goals as goal

pub returns-in_err-device-clause-faults : goal.returns-in_err-device-clause-faults
returns-in_err-device-clause-faults g c =
    on_error c.from_residual.result c.from_residual.ensures.1
    (λ fault is. fails_memory c.args.script.now fault (is ∙ c.in_err-device.ensures.faults))

pub returns-in_err-log-clause-faults : goal.returns-in_err-log-clause-faults
returns-in_err-log-clause-faults g c =
    on_error c.from_residual-in_err-log.result c.from_residual-in_err-log.ensures.1
    (λ fault is. fails_memory c.args.script.now fault (is ∙ c.in_err-log.ensures.faults))

pub returns-in_err-unnamed-clause-faults : goal.returns-in_err-unnamed-clause-faults
returns-in_err-unnamed-clause-faults g c =
    on_error c.from_residual-in_err-unnamed.result c.from_residual-in_err-unnamed.ensures.1
    (λ fault is. fails_memory c.args.script.now fault is)
