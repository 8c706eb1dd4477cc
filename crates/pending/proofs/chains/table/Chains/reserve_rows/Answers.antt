use Rattle.std.proofs.Common.{refl, arith, vec_capacity}
use Rattle.pending.proofs.CallLaws.{room-of, sound-same}
use Rattle.pending.proofs.MarkLaws.{marked-same}
use Rattle.pending.proofs.chains.table.Chains.reserve_rows.Goals as goal

pub invariant_of-self : goal.invariant_of-self
invariant_of-self g c =
    marked-same c.self.inside.links c.reserve_rows.new.self c.self.inside.rows.items
    c.self.inside.rows.items c.self.inside.walk c.self.inside.marks.rows.items
    c.reserve_rows.ensures.next
    (rw c.reserve_rows.ensures.lasts) refl c.self.invariant

pub invariant_of-self-2 : goal.invariant_of-self-2
invariant_of-self-2 g c =
    marked-same c.self.inside.links c.reserve_rows.new.self c.self.inside.rows.items
    c.reserve.new.self.items c.self.inside.walk c.self.inside.marks.rows.items
    c.reserve_rows.ensures.next
    (rw c.reserve_rows.ensures.lasts) c.reserve.ensures.items c.self.invariant

pub returns-in_err-reserve_rows-clause-succeeds : goal.returns-in_err-reserve_rows-clause-succeeds
returns-in_err-reserve_rows-clause-succeeds g c = grind (arith, room-of, vec_capacity)

pub returns-in_err-reserve_rows-clause-full : goal.returns-in_err-reserve_rows-clause-full
returns-in_err-reserve_rows-clause-full g c = grind (arith, room-of, vec_capacity)

pub returns-clause-succeeds : goal.returns-clause-succeeds
returns-clause-succeeds g c = grind (arith, room-of, vec_capacity)

pub returns-clause-full : goal.returns-clause-full
returns-clause-full g c = grind (arith, room-of, vec_capacity)

pub returns-clause-room : goal.returns-clause-room
returns-clause-room g c = grind (arith, sound-same, room-of, vec_capacity)
