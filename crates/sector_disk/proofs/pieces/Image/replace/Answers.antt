use Rattle.std.proofs.Common.{◌≡◌, ◌*◌, ◌/◌, ◌∙◌, ap, arith, length, sym}
use Rattle.sector_disk.specs.inside.Pieces.{pieces_bytes, with_piece}
use Rattle.sector_disk.proofs.Ram.{length_with, replaced}
use Rattle.sector_disk.proofs.pieces.Image.replace.Goals as goal

pub index_mut-requires : goal.index_mut-requires
index_mut-requires c =
    let view : pieces_bytes c.self.inside.pieces.items ≡ c.args.self.now = c.self.view_is in
    let count = ap length view in
    let size = ap length c.in_ok-self-inside.ensures in
    let done = replaced c.self.inside.pieces.items (c.args.from / 65536)
    c.in_ok-self-inside.field-0 c.self.invariant.whole (omega arith) (omega arith) in
    let there = done.there in
    omega (arith, c.self.inside.pieces.ok.0)

pub invariant_of-self : goal.invariant_of-self
invariant_of-self c =
    let pieces = c.self.inside.pieces.items in
    let view : pieces_bytes pieces ≡ c.args.self.now = c.self.view_is in
    let count = ap length view in
    let size = ap length c.in_ok-self-inside.ensures in
    let done = replaced pieces (c.args.from / 65536)
    c.in_ok-self-inside.field-0 c.self.invariant.whole (omega arith) (omega arith) in
    record {
      whole = done.whole;
      counted = c.self.invariant.counted
          ∙ sym (ap length done.bytes ∙ length_with (65536 * (c.args.from / 65536))
          c.in_ok-self-inside.field-0 (pieces_bytes pieces) (omega arith) (omega arith));
    }

pub returns-clause-ok : goal.returns-clause-ok
returns-clause-ok c =
    let pieces = c.self.inside.pieces.items in
    let view : pieces_bytes pieces ≡ c.args.self.now = c.self.view_is in
    let count = ap length view in
    let piece = c.in_ok-self-inside.ensures in
    let size = ap length piece in
    let done = replaced pieces (c.args.from / 65536)
    c.in_ok-self-inside.field-0 c.self.invariant.whole (omega arith) (omega arith) in
    let place : 65536 * (c.args.from / 65536) ≡ c.args.from = omega (arith, c.requires.place) in
    done.bytes
    ∙ ap (λ n. with_piece n c.in_ok-self-inside.field-0 (pieces_bytes pieces)) place
    ∙ ap (λ xs. with_piece c.args.from xs (pieces_bytes pieces)) piece
    ∙ ap (with_piece c.args.from c.args.piece.now) view
