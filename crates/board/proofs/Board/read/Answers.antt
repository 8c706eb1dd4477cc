use Rattle.std.proofs.Common.{List, sym, ◌∙◌, subst, arith}
use Rattle.bio.specs.declared.outcome.Status.{Status}
use Rattle.board.specs.Published.{last_of, MayFollow}
use Rattle.board.specs.PublishedLaws.{start_follows, last_fits}
use Rattle.board.proofs.Moves.{looks}
use Rattle.board.proofs.Board.read.Goals as goal

pub load-requires : goal.load-requires
load-requires g c =
    let b = c.args.self.now in
    let i = c.mine.invariant in
    (i.0 ∙ sym b.named, omega (arith, b.one_word), looks _ _ _ _ i.1)

pub returns-clause-later : goal.returns-clause-later
returns-clause-later g c =
    let l = c.load.ensures.2 in
    let seen = c.load.new.seat.me.0.seen in
    let is = c.status_of.ensures (last_of seen) (last_fits seen l.1) l.3 in
    subst (MayFollow (last_of c.args.mine.now)) (sym is)
    (subst (λ (old : List Status). MayFollow (last_of old) (last_of seen)) c.mine.view_is
    (start_follows _ seen l.1 l.0))

pub returns-clause-last : goal.returns-clause-last
returns-clause-last g c = grind (arith, last_of, last_fits)
