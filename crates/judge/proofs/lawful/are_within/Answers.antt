use Rattle.std.proofs.Common.{ℕ, length, ap, sym, ◌∙◌, arith}
use Rattle.std.specs.Prelude.{slice_get}
use Rattle.bio.specs.Events.{is_within}
use Rattle.bio.specs.PlaceLaws.{all_next, not_all, slice_get-of_get_or}
use Rattle.judge.proofs.lawful.are_within.Goals as goal

pub returns-then-not-is_within : goal.returns-then-not-is_within
returns-then-not-is_within c =
    let events = c.args.events.now in
    let place = c.loop-event.event-index in
    not_all (λ (k : ℕ). is_within c.args.sectors (slice_get events k))
    (length events) place c.loop-event-test.true
    (ap (is_within c.args.sectors)
    (slice_get-of_get_or events place c.event-item.result c.loop-event-test.true c.event-item.is)
    ∙ (sym c.is_within.ensures ∙ c.if-not-is_within.true))

pub loop-event-preserved : goal.loop-event-preserved
loop-event-preserved c = grind (arith, all_next, slice_get-of_get_or)
