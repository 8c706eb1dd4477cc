-- The definitions of `bio` that only its proofs use: no other crate cites them.
use Rattle.std.specs.Prelude.{ℕ, List, take}
use Rattle.std.specs.Arc.{arc_value}
use Rattle.bio.specs.declared.bytes.Storage.{Storage}
use Rattle.bio.specs.declared.bytes.Storage.TheVariants.{Alone, Shared}

-- The list of bytes that is the value of a `Bytes`, whether it has one owner or is shared.

-- the bytes, however they are stored
abbrev pub stored : Storage → List ℕ
stored (Alone bytes) = bytes.items
stored (Shared bytes length) = take length (arc_value bytes).items
