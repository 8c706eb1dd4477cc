use Rattle.std.proofs.Common.{◌≡◌, true, not}
use Rattle.bio.specs.Places.{all_below}
use Rattle.bio.specs.Events.{is_open_at}
use Rattle.judge.proofs.lawful.none_open.Given as goal

abbrev pub invariant-loop-id : goal.invariant-loop-id
invariant-loop-id l = all_below (λ id. not (is_open_at l.events id)) l.id ≡ true
