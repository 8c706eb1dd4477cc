use Rattle.std.proofs.Common.{◌≡◌, ◌++◌, length}
use Rattle.sector_disk.specs.inside.Packed.{unrolled}
use Rattle.sector_disk.proofs.runs.runs_of.Given as goal

abbrev pub invariant-loop-rest : goal.invariant-loop-rest
invariant-loop-rest l = unrolled l.runs.items ++ l.rest ≡ l.values

abbrev pub decreases-loop-rest : goal.decreases-loop-rest
decreases-loop-rest l = length l.rest
