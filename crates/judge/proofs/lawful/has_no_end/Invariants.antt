use Rattle.std.proofs.Common.{◌≡◌, None}
use Rattle.judge.specs.inside.{end_below}
use Rattle.judge.proofs.lawful.has_no_end.Given as goal

abbrev pub invariant-loop-place : goal.invariant-loop-place
invariant-loop-place l = end_below l.events l.id l.place ≡ None
