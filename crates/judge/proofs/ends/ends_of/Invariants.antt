use Rattle.judge.specs.inside.{AreEnds}
use Rattle.judge.proofs.ends.ends_of.Given as goal

abbrev pub invariant-loop-place : goal.invariant-loop-place
invariant-loop-place l = AreEnds l.events l.place l.ends.items
