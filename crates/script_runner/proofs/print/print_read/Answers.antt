use Rattle.std.proofs.Common.{◌≡◌, ◌∙◌, ℕ, ◌*◌, Global, Option, Vec, ap, length, subst, sym}
use Rattle.std.specs.Prelude.{IfSome}
use Rattle.script_runner.specs.CallLaws.{on_error}
use Rattle.script_runner.specs.Lines.{StopsForFile}
use Rattle.script_runner.proofs.LineSteps.{failed_printed, on_failed, output_stops, read_printed}
use Rattle.script_runner.proofs.print.print_read.Goals as goal

pub print_first_bytes-requires : goal.print_first_bytes-requires
print_first_bytes-requires g c =
    ap length c.as_slice.ensures.value
    ∙ subst (λ (b : Option (Vec ℕ Global)). IfSome b
    (λ read. length read.items ≡ c.args.count * 512)) c.in-Some.is c.requires

pub returns-in_err-write-in-Some-clause-output : goal.returns-in_err-write-in-Some-clause-output
returns-in_err-write-in-Some-clause-output g c =
    on_failed _ c.from_residual.result c.from_residual.ensures.0

pub returns-in_err-print_first_bytes-in-Some-clause-output :
    goal.returns-in_err-print_first_bytes-in-Some-clause-output
returns-in_err-print_first_bytes-in-Some-clause-output g c =
    on_failed _ c.from_residual-in_err-print_first_bytes-in-Some.result
    c.from_residual-in_err-print_first_bytes-in-Some.ensures.0

pub returns-in_err-print_first_bytes-in-Some-clause-faults :
    goal.returns-in_err-print_first_bytes-in-Some-clause-faults
returns-in_err-print_first_bytes-in-Some-clause-faults g c =
    on_error c.from_residual-in_err-print_first_bytes-in-Some.result
    c.from_residual-in_err-print_first_bytes-in-Some.ensures.1
    (λ stop is. subst StopsForFile (sym is) c.in_err-print_first_bytes-in-Some.ensures.faults)

pub returns-in_err-writeln-in-Some-clause-output : goal.returns-in_err-writeln-in-Some-clause-output
returns-in_err-writeln-in-Some-clause-output g c =
    on_failed _ c.from_residual-in_err-writeln-in-Some.result
    c.from_residual-in_err-writeln-in-Some.ensures.0

pub returns-in_err-writeln-in-None-clause-output : goal.returns-in_err-writeln-in-None-clause-output
returns-in_err-writeln-in-None-clause-output g c =
    on_failed _ c.from_residual-in_err-writeln-in-None.result
    c.from_residual-in_err-writeln-in-None.ensures.0

pub returns-in_ok-writeln-in-Some-clause-output : goal.returns-in_ok-writeln-in-Some-clause-output
returns-in_ok-writeln-in-Some-clause-output g c =
    read_printed _ c.args.first c.args.count c.args.bytes.now c.in-Some.read _ _ _ _ _ c.in-Some.is
    c.as_slice.ensures.value c.in_ok-write-in-Some.ensures.bytes
    c.in_ok-print_first_bytes-in-Some.ensures.output c.in_ok-writeln-in-Some.ensures.bytes

pub returns-in_ok-writeln-in-None-clause-output : goal.returns-in_ok-writeln-in-None-clause-output
returns-in_ok-writeln-in-None-clause-output g c =
    failed_printed _ c.args.first c.args.count c.args.bytes.now _ _ c.in-None.is
    c.in_ok-writeln-in-None.ensures.bytes

pub returns-in_err-write-in-Some-clause-faults : goal.returns-in_err-write-in-Some-clause-faults
returns-in_err-write-in-Some-clause-faults g c =
    on_error c.from_residual.result c.from_residual.ensures.1
    (λ stop is. subst StopsForFile (sym is) (output_stops _))

pub returns-in_err-writeln-in-Some-clause-faults : goal.returns-in_err-writeln-in-Some-clause-faults
returns-in_err-writeln-in-Some-clause-faults g c =
    on_error c.from_residual-in_err-writeln-in-Some.result
    c.from_residual-in_err-writeln-in-Some.ensures.1
    (λ stop is. subst StopsForFile (sym is) (output_stops _))

pub returns-in_err-writeln-in-None-clause-faults : goal.returns-in_err-writeln-in-None-clause-faults
returns-in_err-writeln-in-None-clause-faults g c =
    on_error c.from_residual-in_err-writeln-in-None.result
    c.from_residual-in_err-writeln-in-None.ensures.1
    (λ stop is. subst StopsForFile (sym is) (output_stops _))
