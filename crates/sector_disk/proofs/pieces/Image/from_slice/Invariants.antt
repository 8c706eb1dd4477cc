use Rattle.std.proofs.Common.{◌≡◌, ◌⊎◌, ◌++◌, ◌%◌, [], length}
use Rattle.sector_disk.proofs.pieces.Image.from_slice.Given as goal

abbrev pub invariant-loop-rest : goal.invariant-loop-rest
invariant-loop-rest l =
    (l.image ++ l.rest ≡ l.bytes) × ((length l.image % 65536 ≡ 0) ⊎ (l.rest ≡ []))

abbrev pub decreases-loop-rest : goal.decreases-loop-rest
decreases-loop-rest l = length l.rest
