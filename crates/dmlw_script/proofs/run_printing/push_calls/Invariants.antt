use Rattle.std.proofs.Common.{◌≡◌, ◌++◌, drop}
use Rattle.std.specs.Prelude.{flat_map, map}
use Rattle.dmlw_script.specs.Grammar.{call_line, ended_run_line}
use Rattle.dmlw_script.proofs.run_printing.push_calls.Given as goal

abbrev pub invariant-loop-call : goal.invariant-loop-call
invariant-loop-call l =
    l.out.items ++ flat_map ended_run_line (map call_line (drop l.call-index l.calls))
    ≡ l.fn.out.items ++ flat_map ended_run_line (map call_line l.calls)
