use Rattle.std.proofs.Common.{Some, sym, ◌∙◌, arith}
use Rattle.lock_state.proofs.HandleMoves.{enrols, splits, enrolled_is}
use Rattle.lock_state.proofs.handles.Registry.enrol_at.Goals as goal

pub store-requires : goal.store-requires
store-requires g c =
    let i = c.self.invariant in
    (i.1 ∙ sym i.0, omega arith, enrols _ _ _ (λ _. 0) _ _ (Some g.A.Numbered.number) i.3)

pub split_seat-requires : goal.split_seat-requires
split_seat-requires g c =
    let i = c.self.invariant in
    let s = c.store.ensures in
    let both =
    enrolled_is c.self.inside.pass.me c.store.new.seat.me _ (Some g.A.Numbered.number) i.3 s.2 in
    (s.0 ∙ i.1 ∙ sym i.0, omega arith, splits _ _ (rw both))
