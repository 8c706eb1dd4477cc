use Rattle.std.proofs.Common.{◌+◌, ◌<◌, arith, length}
use Rattle.std.proofs.lemmas.Option.{slice_get-get_or}
use Rattle.dmlw_commands.proofs.CommandEnds.{prints_next}
use Rattle.dmlw_commands.proofs.run.print_seats.Goals as goal

pub loop-number-preserved : goal.loop-number-preserved
loop-number-preserved g c =
    let tallies = c.args.tallies.now in
    let number = c.loop-number.number in
    let within : number < length tallies = omega arith in
    prints_next tallies number (number + 1) _ _ _ _ (omega arith)
    (slice_get-get_or tallies number _ within) c.loop-number.invariant
    c.in_ok-print_seat.ensures.printed
