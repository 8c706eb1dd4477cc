use Rattle.std.proofs.Common.{◌≡◌, ap, arith, length, length-append}
use Rattle.sector_disk.specs.inside.Pieces.{pieces_bytes}
use Rattle.sector_disk.proofs.PackedParts.{AreWhole-more, joined-more}
use Rattle.sector_disk.proofs.pieces.Image.push_slice.Goals as goal

pub invariant_of-self-2 : goal.invariant_of-self-2
invariant_of-self-2 c =
    let pieces = c.self.inside.pieces.items in
    let view : pieces_bytes pieces ≡ c.args.self.now = c.self.view_is in
    let old = ap length view in
    let piece = c.in_ok-from_slice.field-0 in
    let count = ap length c.in_ok-from_slice.ensures in
    let all = ap length (joined-more pieces piece) in
    let size = length-append (pieces_bytes pieces) piece in
    rw c.in_ok-push.ensures.items (record {
      whole = AreWhole-more pieces piece c.self.invariant.whole (omega arith) (omega arith)
          (omega arith);
      counted = omega arith;
    })

pub returns-clause-ok : goal.returns-clause-ok
returns-clause-ok c = grind (arith, joined-more)
