use Rattle.std.proofs.Common.{◌+◌, ◌-◌, ◌^◌, ◌<◌, arith, length}
use Rattle.bio.specs.PlaceLaws.{slice_get-of_get_or}
use Rattle.script_runner.proofs.Seats.{does_next}
use Rattle.script_runner.proofs.seat_work.Work.run.Goals as goal

pub loop-place-preserved : goal.loop-place-preserved
loop-place-preserved g c =
    let lines = c.calls-lines.result.now in
    let place = c.loop-place.place in
    let within : place < length lines = omega arith in
    let there = slice_get-of_get_or lines place c.index-lines-place.result within c.index-lines-place.is in
    let few : place < 2 ^ 64 - 1 = omega arith in
    does_next lines place (place + 1) c.index-lines-place.result _ _ _
    (omega arith) few there c.loop-place.invariant c.run_line.ensures
