use Rattle.pending.proofs.TableLaws.{table-rest}
use Rattle.pending.proofs.CallLaws.{chain-noted}
use Rattle.pending.proofs.MarkLaws.{walk-marked}
use Rattle.pending.proofs.chains.table.Chains.walk.Goals as goal

pub invariant_of-self : goal.invariant_of-self
invariant_of-self g c =
    let rests = rw (← c.self.view_is) at c.requires.rests in
    let there = rw (← c.self.view_is) at c.requires.chain in
    walk-marked c.self.inside.links c.self.inside.rows.items c.self.inside.walk c.args.chain
    c.last-at.result c.self.inside.marks.rows.items c.self.invariant rests there.0
    (chain-noted (table-rest c.self.invariant.sound rests) c.args.chain there.1) c.last-at.ensures
