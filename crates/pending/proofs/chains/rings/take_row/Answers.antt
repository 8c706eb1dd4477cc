use Rattle.std.proofs.Common.{set, Some, refl, ap, sym, ◌∙◌}
use Rattle.pending.proofs.MiddleLaws.{in-chain, last-taken, middle-taken, row-before, row-is-last}
use Rattle.pending.proofs.HoldsLaws.{holds-same}
use Rattle.pending.proofs.chains.rings.take_row.Goals as goal

pub last-requires : goal.last-requires
last-requires c = (in-chain c.requires.has).0

pub before-before-requires : goal.before-before-requires
before-before-requires c = row-before c.requires.has

pub cut-left-requires : goal.cut-left-requires
cut-left-requires c =
    row-is-last c.requires.has c.before-before.result c.before-before.ensures.within
    c.before-before.ensures.leads

pub returns-then-last-row-clause-holds : goal.returns-then-last-row-clause-holds
returns-then-last-row-clause-holds c = λ chains front back h is.
    let chain = c.args.chain in
    let noted = sym c.last.ensures ∙ c.in-Some.is ∙ ap Some c.if-last-row.true in
    holds-same c.cut-left.new.links.next.items c.write.new.self.next.items
    c.write.new.self.lasts.items c.write.ensures.next
    (c.write.ensures.lasts ∙ ap (λ ls. set ls chain c.cut-left.result) c.cut-left.ensures.lasts)
    (last-taken h c.cut-left.new.links.next.items chain c.args.row c.before-before.result
    c.cut-left.result front back noted (in-chain c.requires.has).0 is
    c.before-before.ensures.within c.before-before.ensures.leads c.cut-left.ensures.holds)

pub returns-else-last-row-clause-holds : goal.returns-else-last-row-clause-holds
returns-else-last-row-clause-holds c = λ chains front back h is.
    let noted = sym c.last.ensures ∙ c.in-Some.is in
    holds-same c.cut-left.new.links.next.items c.cut-left.new.links.next.items
    c.cut-left.new.links.lasts.items refl c.cut-left.ensures.lasts
    (middle-taken h c.cut-left.new.links.next.items c.args.chain c.args.row
    c.before-before.result c.in-Some.last c.cut-left.result front back noted
    c.if-last-row.false (in-chain c.requires.has).0 is c.before-before.ensures.within
    c.before-before.ensures.leads c.cut-left.ensures.holds)
