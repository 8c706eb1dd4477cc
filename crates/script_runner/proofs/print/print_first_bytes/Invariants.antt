use Rattle.std.specs.Io.KnownBytes.{Appends}
use Rattle.script_runner.specs.Lines.{printed_bytes}
use Rattle.script_runner.proofs.print.print_first_bytes.Given as goal

abbrev pub invariant-loop-sector : goal.invariant-loop-sector
invariant-loop-sector g l =
    Appends (g.O.Write.contents l.fn.out) (g.O.Write.contents l.out) (printed_bytes l.sector l.bytes)
