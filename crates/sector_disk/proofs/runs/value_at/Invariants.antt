use Rattle.std.proofs.Common.{◌≡◌, length, slice_get}
use Rattle.sector_disk.specs.inside.Packed.{unrolled}
use Rattle.sector_disk.proofs.runs.value_at.Given as goal

abbrev pub invariant-loop-rest : goal.invariant-loop-rest
invariant-loop-rest l =
    slice_get (unrolled l.rest) l.left ≡ slice_get (unrolled l.runs) l.index

abbrev pub decreases-loop-rest : goal.decreases-loop-rest
decreases-loop-rest l = length l.rest
