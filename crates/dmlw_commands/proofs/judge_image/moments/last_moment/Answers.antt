use Rattle.std.proofs.Common.{◌∙◌, arith, sym}
use Rattle.dmlw_commands.proofs.QuestionEnds.{none_next, slice_get-of_get_or, stop_is_last}
use Rattle.dmlw_commands.proofs.judge_image.moments.last_moment.Goals as goal

pub returns-then-is_stop-clause-last : goal.returns-then-is_stop-clause-last
returns-then-is_stop-clause-last c =
    let there =
    slice_get-of_get_or c.args.events.now c.loop-place.place c.index-events-place.result
    c.loop-place-test.true c.index-events-place.is in
    stop_is_last c.args.events.now c.loop-place.place c.index-events-place.result
    c.loop-place.invariant there (sym c.is_stop.ensures ∙ c.if-is_stop.true)

pub loop-place-preserved : goal.loop-place-preserved
loop-place-preserved c = grind (arith, slice_get-of_get_or, none_next)
