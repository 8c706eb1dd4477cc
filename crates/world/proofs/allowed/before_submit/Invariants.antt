use Rattle.world.specs.inside.{IsBefore}
use Rattle.world.proofs.allowed.before_submit.Given as goal

abbrev pub invariant-loop-place : goal.invariant-loop-place
invariant-loop-place l = IsBefore l.calls l.id l.place l.end
