use Rattle.dmlw_files.specs.Files.{image_of}
use Rattle.script_runner.specs.CallLaws.{keeps_same, on_error}
use Rattle.dmlw_commands.specs.Records.{of_seats}
use Rattle.dmlw_script.specs.RunFirstFault.{IsRunFaultAt}
use Rattle.dmlw_commands.proofs.CommandEnds.{fails_by_file, fails_run, fails_unread, run_printed}
use Rattle.dmlw_commands.proofs.run.run_text.Goals as goal

pub returns-in_err-script-clause-faults : goal.returns-in_err-script-clause-faults
returns-in_err-script-clause-faults g c = λ contents is.
    let error = c.in_err-script.field-0.0 in
    on_error c.from_residual.result c.from_residual.ensures.1
    (λ fault same. fails_unread of_seats contents _ c.args.text.now error fault
    (IsRunFaultAt c.args.text.now error) (λ line at. at) (λ memory. memory) is
    c.in_err-script.ensures.fault (λ plan spells. c.in_err-script.ensures.only plan spells) same)

pub returns-in_err-ran-clause-faults : goal.returns-in_err-ran-clause-faults
returns-in_err-ran-clause-faults g c = λ contents is.
    on_error c.from_residual-in_err-ran.result c.from_residual-in_err-ran.ensures.1
    (λ fault same. fails_run of_seats contents _ _ c.args.text.now c.in_ok-script.script _ fault
    is c.in_ok-script.ensures.found (c.in_err-ran.ensures.faults, keeps_same _) same)

pub returns-in_err-print_seats-clause-faults : goal.returns-in_err-print_seats-clause-faults
returns-in_err-print_seats-clause-faults g c = λ contents is.
    on_error c.from_residual-in_err-print_seats.result c.from_residual-in_err-print_seats.ensures.1
    (λ fault same. fails_by_file of_seats contents _ _ _ fault
    c.in_err-print_seats.ensures.faults same)

pub returns-in_err-print_end-clause-faults : goal.returns-in_err-print_end-clause-faults
returns-in_err-print_end-clause-faults g c = λ contents is.
    on_error c.from_residual-in_err-print_end.result c.from_residual-in_err-print_end.ensures.1
    (λ fault same. fails_by_file of_seats contents _ _ _ fault
    c.in_err-print_end.ensures.faults same)

pub returns-clause-printed : goal.returns-clause-printed
returns-clause-printed g c = λ contents is.
    let ran = c.in_ok-ran.ran in
    run_printed contents c.args.text.now c.in_ok-script.script _ _ _ _ ran.tallies.items ran.status
    ran.lies (image_of ran.disk) is c.in_ok-script.ensures.found c.in_ok-ran.ensures.ran
    c.as_slice.ensures.value c.in_ok-print_seats.ensures.printed c.in_ok-print_end.ensures.printed
