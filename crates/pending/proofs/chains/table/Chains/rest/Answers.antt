use Rattle.std.proofs.Common.{Some}
use Rattle.pending.proofs.HoldsLaws.{noted-is-row}
use Rattle.pending.proofs.WalkLaws.{sound-at, walk-last}
use Rattle.pending.proofs.MarkLaws.{rest-marked}
use Rattle.pending.proofs.chains.table.Chains.rest.Goals as goal

pub write-requires : goal.write-requires
write-requires g c =
    let s = sound-at c.self.inside.walk (Some c.in-Some.walk) c.in-Some.is c.self.invariant.sound in
    let at = walk-last c.in-Some.walk s in
    (s.walks.1, noted-is-row s.table.holds c.in-Some.walk.chain c.in-Some.walk.at at)

pub invariant_of-self : goal.invariant_of-self
invariant_of-self g c =
    rest-marked c.self.inside.links c.write.new.self c.self.inside.rows.items c.self.inside.walk
    c.in-Some.walk c.self.inside.marks.rows.items c.self.invariant c.in-Some.is
    c.write.ensures.next c.write.ensures.lasts
