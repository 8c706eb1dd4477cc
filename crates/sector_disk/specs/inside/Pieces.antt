-- A list of bytes in pieces of 65,536 bytes; the last piece may have fewer.
use Rattle.std.specs.Prelude.{◌≡◌, ℕ, ◌<◌, ◌≤◌, List, [], ◌∷◌, ◌++◌, ◌+◌, drop, length, take}
use Rattle.sector_disk.specs.declared.piece.StoredPiece.{StoredPiece}
use Rattle.sector_disk.specs.declared.piece.StoredPiece.TheVariants.{Filled, Packed}

-- the bytes of the pieces, one after another
abbrev pub pieces_bytes : List (List ℕ) → List ℕ
pieces_bytes [] = []
pieces_bytes (piece ∷ rest) = piece ++ pieces_bytes rest

-- each piece has 65,536 bytes, except the last, which has at least one and at most 65,536
abbrev pub PiecesAreWhole : List (List ℕ) → Type 0
PiecesAreWhole [] = Unit {0}
PiecesAreWhole (piece ∷ []) = (0 < length piece) × (length piece ≤ 65536)
PiecesAreWhole (piece ∷ (next ∷ rest)) = (length piece ≡ 65536) × PiecesAreWhole (next ∷ rest)

-- the pieces hold an image of `count` bytes
pub record IsHeldIn (pieces : List (List ℕ)) (count : ℕ) : Type 0 where
  pub whole : PiecesAreWhole pieces
  pub counted : count ≡ length (pieces_bytes pieces)

-- the bytes with those of `piece` in place of the 65,536 from byte `from` on
abbrev pub with_piece : ℕ → List ℕ → List ℕ → List ℕ
with_piece from piece bytes = take from bytes ++ (piece ++ drop (from + 65536) bytes)

-- The bytes of a piece, in either of the ways in which it is stored.

-- the bytes that are stored
abbrev pub held_bytes : StoredPiece → List ℕ
held_bytes (Filled bytes) = bytes
held_bytes (Packed bytes) = bytes
