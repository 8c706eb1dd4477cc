use Rattle.std.proofs.Common.{set, Some, refl, ap, sym, ◌∙◌, arith}
use Rattle.pending.specs.inside.Tables.{after}
use Rattle.pending.proofs.HoldsLaws.{holds-cut, holds-emptied, first-is-row, last-is-row}
use Rattle.pending.proofs.HoldsLaws.{holds-same}
use Rattle.pending.proofs.chains.rings.cut.Goals as goal

pub next-first-requires : goal.next-first-requires
next-first-requires c = last-is-row c.requires.holds c.requires.chain c.args.last c.requires.there

pub returns-then-first-last-clause-holds : goal.returns-then-first-last-clause-holds
returns-then-first-last-clause-holds c = λ lasts loose chains chain h there.
    holds-emptied h chain c.args.last there (sym c.next-first.ensures ∙ c.if-first-last.true)

pub next-second-requires : goal.next-second-requires
next-second-requires c = grind (arith, first-is-row)

pub write-requires : goal.write-requires
write-requires c = last-is-row c.requires.holds c.requires.chain c.args.last c.requires.there

pub returns-clause-holds : goal.returns-clause-holds
returns-clause-holds c = λ lasts loose chains chain h there.
    let next = c.args.links.now.next.items in
    let last = c.args.last in
    let second = c.next-second.ensures ∙ rw c.next-first.ensures in
    holds-same (set next last (after next (after next last))) c.write.new.self.next.items
    (set lasts chain (Some last))
    (c.write.ensures.next ∙ ap (set next last) second) refl
    (holds-cut h chain last there (λ e. c.if-first-last.false (c.next-first.ensures ∙ e)))
