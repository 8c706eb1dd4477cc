use Rattle.std.proofs.Common.{◌≡◌, true}
use Rattle.std.specs.Prelude.{slice_get}
use Rattle.bio.specs.Places.{all_below}
use Rattle.bio.specs.Events.{is_within}
use Rattle.judge.proofs.lawful.are_within.Given as goal

abbrev pub invariant-loop-event : goal.invariant-loop-event
invariant-loop-event l =
    all_below (λ place. is_within l.sectors (slice_get l.events place)) l.event-index ≡ true
