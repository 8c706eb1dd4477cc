use Rattle.std.proofs.Common.{◌≡◌, ◌++◌, drop}
use Rattle.sector_disk.specs.inside.Pieces.{pieces_bytes}
use Rattle.sector_disk.proofs.pieces.Image.to_vec.Given as goal

abbrev pub invariant-loop-piece : goal.invariant-loop-piece
invariant-loop-piece l =
    l.bytes.items ++ pieces_bytes (drop l.piece-index l.piece-items) ≡ pieces_bytes l.piece-items
