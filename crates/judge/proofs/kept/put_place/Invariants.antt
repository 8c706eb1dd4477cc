use Rattle.judge.specs.inside.{ArePut}
use Rattle.judge.proofs.kept.put_place.Given as goal

abbrev pub invariant-loop-sector : goal.invariant-loop-sector
invariant-loop-sector l = ArePut l.from l.sector l.place l.fn.last.items l.last.items
