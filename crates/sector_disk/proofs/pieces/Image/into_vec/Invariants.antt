use Rattle.std.proofs.Common.{◌≡◌, ◌++◌, length}
use Rattle.std.specs.Prelude.{reverse}
use Rattle.sector_disk.specs.inside.Pieces.{pieces_bytes}
use Rattle.sector_disk.proofs.pieces.Image.into_vec.Given as goal

abbrev pub invariant-loop-piece : goal.invariant-loop-piece
invariant-loop-piece l =
    l.bytes.items ++ pieces_bytes (reverse l.pieces.items) ≡ pieces_bytes (reverse l.initial.pieces.items)

abbrev pub decreases-loop-piece : goal.decreases-loop-piece
decreases-loop-piece l = length l.pieces.items
