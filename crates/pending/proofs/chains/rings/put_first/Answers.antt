use Rattle.std.proofs.Common.{length, set, Some, None, ap, sym, ◌∙◌, arith, length-set}
use Rattle.std.proofs.lemmas.List.{get_or-set_same}
use Rattle.pending.specs.inside.Tables.{after, last_in}
use Rattle.pending.proofs.HoldsLaws.{holds-preceded, holds-begun, holds-same, last-is-row}
use Rattle.pending.proofs.HoldsLaws.{loose-is-row}
use Rattle.pending.proofs.chains.rings.put_first.Goals as goal

pub next-first-requires : goal.next-first-requires
next-first-requires c =
    last-is-row c.requires.holds c.args.chain c.in-Some.last
    (c.requires.same ∙ sym c.last.ensures ∙ c.in-Some.is)

pub write-requires : goal.write-requires
write-requires c = loose-is-row c.args.row c.requires.loose c.requires.holds

pub write-requires-in-Some : goal.write-requires-in-Some
write-requires-in-Some c =
    let small =
    last-is-row c.requires.holds c.args.chain c.in-Some.last
    (c.requires.same ∙ sym c.last.ensures ∙ c.in-Some.is) in
    let e = ap length c.write.ensures.next in
    omega (arith, length-set c.args.links.now.next.items c.args.row c.next-first.result)

pub write-requires-in-None : goal.write-requires-in-None
write-requires-in-None c = loose-is-row c.args.row c.requires.loose c.requires.holds

pub write-requires-in-None-2 : goal.write-requires-in-None-2
write-requires-in-None-2 c =
    let small = loose-is-row c.args.row c.requires.loose c.requires.holds in
    let rows = ap length c.write-in-None.ensures.next in
    let chains = ap length c.write-in-None.ensures.lasts in
    let there = c.requires.there in
    (omega arith, omega (arith, length-set c.args.links.now.next.items c.args.row c.args.row))

pub returns-in-Some-clause-holds : goal.returns-in-Some-clause-holds
returns-in-Some-clause-holds c = λ lasts loose chains h within same.
    let next = c.args.links.now.next.items in
    let chain = c.args.chain in
    let last = c.in-Some.last in
    let row = c.args.row in
    let noted = sym c.last.ensures ∙ c.in-Some.is in
    let first = ap (set next row) c.next-first.ensures in
    holds-same (set (set next row (after next last)) last row) c.write-in-Some.new.self.next.items
    (set lasts chain (last_in c.write-in-Some.new.self.lasts.items chain))
    (grind (arith, c.write-in-Some.ensures.next, c.write.ensures.next ∙ first))
    (ap (set lasts chain) (grind (arith, c.write-in-Some.ensures.lasts ∙ c.write.ensures.lasts)
    ∙ noted))
    (holds-preceded h chain last (same ∙ noted))

pub returns-in-None-clause-holds : goal.returns-in-None-clause-holds
returns-in-None-clause-holds c = λ lasts loose chains h within same.
    let next = c.args.links.now.next.items in
    let noted = c.args.links.now.lasts.items in
    let chain = c.args.chain in
    let row = c.args.row in
    let empty = sym c.last.ensures ∙ c.in-None.is in
    let written =
    c.write-in-None-2.ensures.lasts
    ∙ ap (λ ls. set ls chain (Some row)) c.write-in-None.ensures.lasts in
    holds-same (set next row row) c.write-in-None-2.new.self.next.items
    (set lasts chain (last_in c.write-in-None-2.new.self.lasts.items chain))
    (c.write-in-None-2.ensures.next ∙ c.write-in-None.ensures.next)
    (ap (set lasts chain) (grind (arith, written)
    ∙ get_or-set_same noted chain (Some row) None c.requires.there))
    (holds-begun h chain within (same ∙ empty))
