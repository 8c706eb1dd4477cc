use Rattle.std.proofs.Common.{◌≡◌, ℕ, List, ◌+◌, ◌≤◌, ◌/◌, ◌%◌, ap, arith, drop, length, take, ◌∙◌}
use Rattle.std.proofs.Common.{sym}
use Rattle.std.proofs.lemmas.Bool.{lt-ltb}
use Rattle.std.proofs.lemmas.Option.{get_or_from_slice_get, slice_get_within}
use Rattle.sector_disk.specs.inside.Pieces.{PiecesAreWhole, pieces_bytes}
use Rattle.sector_disk.proofs.PackedParts.{LiesIn, lies_in}
use Rattle.sector_disk.proofs.pieces.read_piece.Goals as goal

there_in : (pieces : List (List ℕ)) (from : ℕ) → from % 512 ≡ 0 → PiecesAreWhole pieces
    → from + 512 ≤ length (pieces_bytes pieces) → LiesIn pieces from (from / 65536) (from % 65536)
there_in pieces from place whole within = grind (arith, lies_in)

pub read_sector-requires-clause-within : goal.read_sector-requires-clause-within
read_sector-requires-clause-within c =
    let there = there_in c.args.pieces.now c.args.from c.requires.place c.requires.whole
    c.requires.within in
    let same : c.in-Some.piece.now ≡ there.piece =
    c.in-Some.ensures.lookup.1 ∙ get_or_from_slice_get
    c.args.pieces.now (c.args.from / 65536) there.piece c.in-Some.piece.now there.is in
    let size = ap length same in
    let enough = there.within in
    omega arith

pub returns-in-Some : goal.returns-in-Some
returns-in-Some c =
    let there = there_in c.args.pieces.now c.args.from c.requires.place c.requires.whole
    c.requires.within in
    let same : c.in-Some.piece.now ≡ there.piece =
    c.in-Some.ensures.lookup.1 ∙ get_or_from_slice_get
    c.args.pieces.now (c.args.from / 65536) there.piece c.in-Some.piece.now there.is in
    c.read_sector.ensures
    ∙ ap (λ (xs : List ℕ). take 512 (drop (c.args.from % 65536) xs)) same
    ∙ sym there.part

pub returns-in_default : goal.returns-in_default
returns-in_default c =
    let there = there_in c.args.pieces.now c.args.from c.requires.place c.requires.whole
    c.requires.within in
    let within = slice_get_within c.args.pieces.now (c.args.from / 65536) there.piece there.is in
    let found = lt-ltb (c.args.from / 65536) (length c.args.pieces.now) within in
    let none = c.in_default.ensures.lookup.0 in
    cc
