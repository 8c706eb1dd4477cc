use Rattle.std.proofs.Common.{ℕ, length, ap, sym, ◌∙◌, arith}
use Rattle.std.specs.Prelude.{slice_get}
use Rattle.bio.specs.Events.{is_stop}
use Rattle.bio.specs.PlaceLaws.{none_next, not_none, slice_get-of_get_or}
use Rattle.judge.proofs.lawful.has_no_stop.Goals as goal

pub returns-then-is_stop : goal.returns-then-is_stop
returns-then-is_stop c =
    let events = c.args.events.now in
    let place = c.loop-event.event-index in
    not_none (λ (k : ℕ). is_stop (slice_get events k)) (length events) place c.loop-event-test.true
    (ap is_stop (slice_get-of_get_or events place c.event-item.result c.loop-event-test.true
    c.event-item.is) ∙ (sym c.is_stop.ensures ∙ c.if-is_stop.true))

pub loop-event-preserved : goal.loop-event-preserved
loop-event-preserved c = grind (arith, none_next, slice_get-of_get_or)
