use Rattle.judge.specs.inside.{AreLastKept}
use Rattle.judge.proofs.kept.last_kept.Given as goal

abbrev pub invariant-loop-place : goal.invariant-loop-place
invariant-loop-place l = AreLastKept l.events l.sectors l.place l.last.items
