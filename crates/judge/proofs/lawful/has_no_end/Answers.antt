use Rattle.std.proofs.Common.{ℕ, ◌&&◌, length, ap, sym, ◌∙◌, arith}
use Rattle.std.proofs.lemmas.Bool.{lt-ltb, le-ltb}
use Rattle.std.specs.Prelude.{nat_lt, slice_get}
use Rattle.bio.specs.PlaceLaws.{none_first_below, none_next, not_none, slice_get-of_get_or}
use Rattle.bio.specs.Events.{is_end_of}
use Rattle.judge.proofs.lawful.has_no_end.Goals as goal

pub loop-place-init : goal.loop-place-init
loop-place-init c = grind (arith, none_first_below, le-ltb)

pub returns-then-is_end_of : goal.returns-then-is_end_of
returns-then-is_end_of c =
    let events = c.args.events.now in
    let id = c.args.id in
    let place = c.loop-place.place in
    let low = c.loop-place.auto.place in
    not_none (λ (k : ℕ). nat_lt id k && is_end_of id (slice_get events k))
    (length events) place c.loop-place-test.true
    (grind (arith, lt-ltb id place (omega arith))
    ∙ (ap (is_end_of id) (slice_get-of_get_or events place c.index-events-place.result
    c.loop-place-test.true c.index-events-place.is)
    ∙ (sym c.is_end_of.ensures ∙ c.if-is_end_of.true)))

pub loop-place-preserved : goal.loop-place-preserved
loop-place-preserved c = grind (arith, none_next, lt-ltb, slice_get-of_get_or)
