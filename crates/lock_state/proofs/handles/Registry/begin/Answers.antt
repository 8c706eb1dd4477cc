use Rattle.std.proofs.Common.{sym, ap, ◌∙◌, arith}
use Rattle.lock_state.proofs.HandleMoves.{sets, splits, joins, joined, lent_is}
use Rattle.lock_state.proofs.handles.Registry.begin.Goals as goal

pub split_seat-lent-requires : goal.split_seat-lent-requires
split_seat-lent-requires g c =
    let i = c.self.invariant in
    let m = c.mine.invariant in
    (m.0 ∙ sym i.0, omega arith, splits _ _ (rw m.1))

pub join_seat-requires : goal.join_seat-requires
join_seat-requires g c =
    let i = c.self.invariant in
    let m = c.mine.invariant in
    let s = c.split_seat-lent.ensures in
    let part = lent_is c.mine.inside.pass.me c.split_seat-lent.result.me _ _ m.1 s.4 in (
      i.1 ∙ sym i.0,
      s.3 ∙ m.0 ∙ sym i.0,
      rw s.4,
      omega arith,
      joins _ _ _ _ _ _ _ (ap (λ m. m.0) i.3) (ap (λ m. m.0) part),
    )

pub store-requires : goal.store-requires
store-requires g c =
    let i = c.self.invariant in
    let m = c.mine.invariant in
    let s = c.split_seat-lent.ensures in
    let part = lent_is c.mine.inside.pass.me c.split_seat-lent.result.me _ _ m.1 s.4 in
    let j = c.join_seat.ensures in
    let both =
    joined c.self.inside.pass.me c.join_seat.new.seat.me c.split_seat-lent.result.me _ _ _
    i.3 part j.2 in
    (j.0 ∙ i.1 ∙ sym i.0, omega arith, sets _ _ _ (λ _. c.args.number) _ _ _ _ _ both)

pub split_seat-requires : goal.split_seat-requires
split_seat-requires g c = grind (arith, lent_is, joined, splits)
