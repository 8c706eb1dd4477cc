use Rattle.std.proofs.Common.{◌≡◌, ℕ, suc, ◌+◌, ◌/◌, length, ◌∙◌, subst, arith}
use Rattle.bio.specs.Content.{sector_of}
use Rattle.bio.specs.PlaceLaws.{slice_get-of_get_or}
use Rattle.judge.specs.inside.{AreHeld}
use Rattle.judge.proofs.HeldValues.{held_next}
use Rattle.judge.proofs.held.held_values.Goals as goal

pub loop-place-preserved : goal.loop-place-preserved
loop-place-preserved c =
    let events = c.args.events.now in
    let place = c.loop-place.place in
    let event = c.index-events-place.result in
    let now = sector_of c.args.image.now in
    let sectors = length c.args.image.now / 512 in
    let next : suc place ≡ place + 1 = omega arith in
    let Until = λ (n : ℕ). AreHeld events now sectors n c.hold_values.new.held.items in
    subst Until next
    (held_next events event now sectors place c.end_at.result c.args.last.now
    c.loop-place.held.items c.hold_values.new.held.items
    (slice_get-of_get_or events place event c.loop-place-test.true c.index-events-place.is)
    (c.end_at.ensures ∙ c.requires.ends.each place)
    c.requires.last c.hold_values.ensures.size c.hold_values.ensures.held c.loop-place.invariant)
