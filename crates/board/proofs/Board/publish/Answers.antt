use Rattle.std.proofs.Common.{sym, ◌∙◌, arith}
use Rattle.board.specs.Published.{last_of, writer_pass}
use Rattle.board.specs.PublishedLaws.{last_of-push}
use Rattle.board.proofs.Moves.{publishes, published_is}
use Rattle.board.proofs.Board.publish.Goals as goal

pub store-requires : goal.store-requires
store-requires g c =
    let b = c.args.self.now in
    let i = c.writer.invariant in (
      i.0 ∙ sym b.named,
      omega (arith, b.one_word),
      publishes _ _ _ _ _ c.args.status i.1 c.word_of-word.ensures c.requires.fit
          (rw c.writer.view_is c.requires.follows),
    )

pub invariant_of-writer : goal.invariant_of-writer
invariant_of-writer g c = grind (arith, published_is, writer_pass, last_of, last_of-push)
