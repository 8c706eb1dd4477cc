use Rattle.std.proofs.Common.{ℕ, List, ◌∷◌, Some, refl, ap, sym, ◌∙◌, subst, arith, length-set}
use Rattle.pending.proofs.RingLaws.{some-of}
use Rattle.pending.specs.ChainsView.{shortened}
use Rattle.pending.specs.inside.Tables.{HoldChains}
use Rattle.pending.proofs.HoldsLaws.{last-again, last-is-row, holds-same}
use Rattle.pending.proofs.chains.rings.take_first.Goals as goal

pub next-first-requires : goal.next-first-requires
next-first-requires c = grind (arith, last-is-row)

pub returns-then-is_none-clause-changes : goal.returns-then-is_none-clause-changes
returns-then-is_none-clause-changes c = grind (arith, length-set)

pub returns-else-is_none-clause-holds : goal.returns-else-is_none-clause-holds
returns-else-is_none-clause-holds c = λ loose chains h.
    let there = sym c.last.ensures ∙ c.in_ok-last.was in
    let some = some-of c.cut.result c.in_ok-last.last c.if-is_none.ensures c.cut.ensures.left in
    let noted = c.args.links.now.lasts.items in
    let row = ap (λ r. r ∷ loose) c.next-first.ensures in
    let P : List ℕ → Type 0 =
    λ rows. HoldChains c.cut.new.links.next.items c.cut.new.links.lasts.items rows
    (shortened chains c.args.chain) in
    subst P (sym row) (holds-same c.cut.new.links.next.items c.cut.new.links.next.items
    c.cut.new.links.lasts.items refl
    (c.cut.ensures.lasts ∙ sym
    (grind (arith, some)
    ∙ last-again noted c.args.chain (Some c.in_ok-last.last) there))
    (c.cut.ensures.holds noted loose chains c.args.chain h there))
