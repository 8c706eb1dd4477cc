use Rattle.std.proofs.Common.{take}
use Rattle.std.specs.Io.KnownBytes.{Appends}
use Rattle.dmlw_commands.specs.Records.{seat_lines}
use Rattle.dmlw_commands.proofs.run.print_seats.Given as goal

abbrev pub invariant-loop-number : goal.invariant-loop-number
invariant-loop-number g l =
    Appends (g.O.Write.contents l.fn.out) (g.O.Write.contents l.out)
    (seat_lines 0 (take l.number l.tallies))
