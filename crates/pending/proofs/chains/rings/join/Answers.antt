use Rattle.std.proofs.Common.{sym, ◌∙◌, arith}
use Rattle.pending.proofs.HoldsLaws.{holds-joined, holds-same, last-is-row}
use Rattle.pending.proofs.chains.rings.join.Goals as goal

pub write-requires : goal.write-requires
write-requires c = grind (arith, last-is-row)

pub returns-clause-holds : goal.returns-clause-holds
returns-clause-holds c = λ loose chains h.
    let noted = sym c.last.ensures ∙ c.in-Some.is in
    let lasts = c.put_before.new.links.lasts.items in
    holds-same c.put_before.new.links.next.items c.write.new.self.next.items
    c.write.new.self.lasts.items c.write.ensures.next c.write.ensures.lasts
    (holds-joined h c.args.from c.args.onto c.in-Some.last noted c.requires.onto
    c.put_before.new.links.next.items lasts (c.put_before.ensures.holds loose chains h))
