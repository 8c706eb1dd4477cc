use Rattle.std.proofs.Common.{refl, arith}
use Rattle.pending.proofs.HoldsLaws.{holds-lengthened, holds-same, loose-is-row}
use Rattle.pending.proofs.chains.rings.put_last.Goals as goal

pub write-requires : goal.write-requires
write-requires c =
    let small = loose-is-row c.args.row c.requires.loose c.requires.holds in
    let kept = c.put_first.ensures.changes in
    let rows = kept.rows in
    let chains = kept.chains in
    let there = c.requires.there in
    (omega arith, omega arith)

pub returns-clause-holds : goal.returns-clause-holds
returns-clause-holds c = λ loose chains h.
    let noted = c.args.links.now.lasts.items in
    let chain = c.args.chain in
    let row = c.args.row in
    let between = c.put_first.new.links.lasts.items in
    let preceding =
    holds-same c.put_first.new.links.next.items c.put_first.new.links.next.items between
    refl c.put_first.ensures.lasts
    (c.put_first.ensures.holds noted loose chains h c.requires.there refl) in
    holds-same c.put_first.new.links.next.items c.write.new.self.next.items
    c.write.new.self.lasts.items c.write.ensures.next c.write.ensures.lasts
    (holds-lengthened c.put_first.new.links.next.items between loose chains chain row
    (let e = h.size in let there = c.requires.there in omega arith) preceding)
