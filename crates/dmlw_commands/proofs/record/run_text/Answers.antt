use Rattle.dmlw_files.specs.Files.{image_of}
use Rattle.script_runner.specs.CallLaws.{on_error}
use Rattle.dmlw_commands.specs.Records.{of_recorder}
use Rattle.dmlw_script.specs.FirstFault.{IsFaultOf}
use Rattle.dmlw_commands.proofs.CommandEnds.{fails_by_file, fails_run, fails_unread, log_printed}
use Rattle.dmlw_commands.proofs.record.run_text.Goals as goal

pub returns-in_err-script-clause-faults : goal.returns-in_err-script-clause-faults
returns-in_err-script-clause-faults g c = λ contents is.
    let error = c.in_err-script.field-0.0 in
    on_error c.from_residual.result c.from_residual.ensures.1
    (λ fault same. fails_unread of_recorder contents _ c.args.text.now error fault
    (IsFaultOf c.args.text.now error) (λ line at. at) (λ memory. memory) is
    c.in_err-script.ensures.fault (λ plan spells. c.in_err-script.ensures.only plan spells) same)

pub returns-in_err-recorded-clause-faults : goal.returns-in_err-recorded-clause-faults
returns-in_err-recorded-clause-faults g c = λ contents is.
    on_error c.from_residual-in_err-recorded.result c.from_residual-in_err-recorded.ensures.1
    (λ fault same. fails_run of_recorder contents _ _ c.args.text.now c.in_ok-script.script _ fault
    is c.in_ok-script.ensures.found c.in_err-recorded.ensures.faults same)

pub returns-in_err-print_end-clause-faults : goal.returns-in_err-print_end-clause-faults
returns-in_err-print_end-clause-faults g c = λ contents is.
    on_error c.from_residual-in_err-print_end.result c.from_residual-in_err-print_end.ensures.1
    (λ fault same. fails_by_file of_recorder contents _ _ _ fault
    c.in_err-print_end.ensures.faults same)

pub returns-clause-printed : goal.returns-clause-printed
returns-clause-printed g c = λ contents is.
    let recorded = c.in_ok-recorded.recorded in
    log_printed contents c.args.text.now c.in_ok-script.script _ _ _ recorded.status recorded.lies
    (image_of recorded.disk) is c.in_ok-script.ensures.found c.in_ok-recorded.ensures.recorded
    c.in_ok-print_end.ensures.printed
