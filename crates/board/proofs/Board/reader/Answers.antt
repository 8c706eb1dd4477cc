use Rattle.std.proofs.Common.{sym, ◌∙◌, arith}
use Rattle.board.proofs.Moves.{splits}
use Rattle.board.proofs.Board.reader.Goals as goal

pub split_seat-requires : goal.split_seat-requires
split_seat-requires g c =
    let b = c.args.self.now in
    (c.writer.invariant.0 ∙ sym b.named, omega (arith, b.one_word), splits _ _)
