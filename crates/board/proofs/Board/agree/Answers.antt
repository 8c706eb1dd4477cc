use Rattle.std.proofs.Common.{sym, ap, ◌∙◌, arith}
use Rattle.atomic_table.specs.Table.{Me}
use Rattle.board.specs.declared.rule.BoardPass.{BoardPass}
use Rattle.board.proofs.Moves.{alone, compares, splits, joins}
use Rattle.board.proofs.Board.agree.Goals as goal

pub split_seat-told-requires : goal.split_seat-told-requires
split_seat-told-requires g c =
    let b = c.args.self.now in
    (c.mine.invariant.0 ∙ sym b.named, omega (arith, b.one_word), splits _ _)

pub join_seat-requires : goal.join_seat-requires
join_seat-requires g c =
    let b = c.args.self.now in
    let s = c.split_seat-told.ensures in (
      c.writer.invariant.0 ∙ sym b.named,
      s.3 ∙ c.mine.invariant.0 ∙ sym b.named,
      ap (λ (m : Me (Unit {0}) BoardPass). m.1) s.4,
      omega (arith, b.one_word),
      joins _ _ _ _,
    )

pub load-requires : goal.load-requires
load-requires g c =
    let b = c.args.self.now in
    let i = c.writer.invariant in
    let j = c.join_seat.ensures in (
      j.0 ∙ i.0 ∙ sym b.named,
      omega (arith, b.one_word),
      compares _ _ _ _ (alone c.join_seat.new.seat.me
          (ap (λ (m : Me (Unit {0}) BoardPass). m.1) j.2 ∙ ap (λ (m : Me (Unit {0}) BoardPass). m.1) i.1))
          (ap (λ (m : Me (Unit {0}) BoardPass). m.0.writes) j.2
          ∙ ap (λ (m : Me (Unit {0}) BoardPass). m.0.writes) i.1),
    )
