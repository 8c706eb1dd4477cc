use Rattle.std.proofs.Common.{ℕ, length, ap, sym, ◌∙◌, arith}
use Rattle.std.specs.Prelude.{slice_get}
use Rattle.bio.specs.Events.{is_close}
use Rattle.bio.specs.PlaceLaws.{none_next, not_none, slice_get-of_get_or}
use Rattle.judge.proofs.lawful.has_no_close.Goals as goal

pub returns-then-is_close : goal.returns-then-is_close
returns-then-is_close c =
    let events = c.args.events.now in
    let place = c.loop-event.event-index in
    not_none (λ (k : ℕ). is_close (slice_get events k)) (length events) place c.loop-event-test.true
    (ap is_close (slice_get-of_get_or events place c.event-item.result c.loop-event-test.true
    c.event-item.is) ∙ (sym c.is_close.ensures ∙ c.if-is_close.true))

pub loop-event-preserved : goal.loop-event-preserved
loop-event-preserved c = grind (arith, none_next, slice_get-of_get_or)
