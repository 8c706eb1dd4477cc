use Rattle.std.proofs.Common.{◌≡◌, None}
use Rattle.std.specs.Prelude.{slice_get}
use Rattle.bio.specs.Places.{first_below}
use Rattle.bio.specs.Events.{is_close}
use Rattle.judge.proofs.lawful.has_no_close.Given as goal

abbrev pub invariant-loop-event : goal.invariant-loop-event
invariant-loop-event l =
    first_below (λ place. is_close (slice_get l.events place)) l.event-index ≡ None
