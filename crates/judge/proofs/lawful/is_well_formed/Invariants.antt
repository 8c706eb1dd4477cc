use Rattle.std.proofs.Common.{◌≡◌, true, take}
use Rattle.std.specs.Prelude.{slice_get}
use Rattle.bio.specs.Places.{all_below}
use Rattle.bio.specs.Events.{can_follow}
use Rattle.judge.proofs.lawful.is_well_formed.Given as goal

abbrev pub invariant-loop-place : goal.invariant-loop-place
invariant-loop-place l =
    all_below (λ place. can_follow (take place l.events) (slice_get l.events place)) l.place ≡ true
