use Rattle.std.proofs.Common.{ℕ, length, take, ap, sym, ◌∙◌, arith}
use Rattle.std.specs.Prelude.{slice_get}
use Rattle.bio.specs.Events.{can_follow}
use Rattle.bio.specs.PlaceLaws.{all_next, not_all, slice_get-of_get_or}
use Rattle.judge.proofs.lawful.is_well_formed.Goals as goal

pub returns-then-not-can_follow : goal.returns-then-not-can_follow
returns-then-not-can_follow c =
    let events = c.args.events.now in
    let place = c.loop-place.place in
    not_all (λ (k : ℕ). can_follow (take k events) (slice_get events k))
    (length events) place c.loop-place-test.true
    (ap (can_follow (take place events))
    (slice_get-of_get_or events place c.index-events-place.result c.loop-place-test.true
    c.index-events-place.is)
    ∙ (sym c.can_follow.ensures ∙ c.if-not-can_follow.true))

pub loop-place-preserved : goal.loop-place-preserved
loop-place-preserved c = grind (arith, all_next, slice_get-of_get_or)
