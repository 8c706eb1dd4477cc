use Rattle.std.proofs.Common.{◌≡◌, ℕ, ◌<◌, Some, None, Option, List, [], length, set, ap, sym, ◌∙◌}
use Rattle.std.proofs.Common.{arith, length-set}
use Rattle.pending.specs.ChainsView.{chain_in}
use Rattle.pending.specs.inside.Tables.{HoldSomeChains, IsLooseRing, after, last_in}
use Rattle.pending.proofs.HoldsLaws.{holds-embraced, holds-fronted, holds-loosened, holds-named}
use Rattle.pending.proofs.HoldsLaws.{holds-same, last-again, last-is-row, ring-at, ring-is-row}
use Rattle.pending.proofs.HoldsLaws.{ring-same}
use Rattle.pending.proofs.chains.rings.put_before.Goals as goal

-- The chain's rows are loose after its last row was forgotten.
loosened : (next new : List ℕ) (lasts noted : List (Option ℕ)) (from onto moved : ℕ)
    → HoldSomeChains next lasts → from < length lasts → onto < length lasts
    → last_in lasts from ≡ Some moved → new ≡ next → noted ≡ set lasts from None
    → IsLooseRing new noted onto moved
loosened next new lasts noted from onto moved kept less there last same left = record {
  rows = chain_in kept.chains from;
  loose = kept.loose;
  chains = set kept.chains from [];
  holds = holds-same next new noted same left (holds-loosened kept.holds from less);
  ring = grind (arith, ring-same, ring-at);
  there = grind (arith, length-set);
}

pub next-first-requires : goal.next-first-requires
next-first-requires c =
    let ring = loosened _ _ _ _ c.args.from c.args.onto c.in-Some.moved c.requires.kept
    c.requires.from c.requires.onto (sym c.last.ensures ∙ c.in-Some.is) c.write.ensures.next
    c.write.ensures.lasts in
    last-is-row ring.holds c.args.onto c.in-Some-last.kept (sym c.last-2.ensures ∙ c.in-Some-last.is)

pub next-second-requires : goal.next-second-requires
next-second-requires c =
    let ring = loosened _ _ _ _ c.args.from c.args.onto c.in-Some.moved c.requires.kept
    c.requires.from c.requires.onto (sym c.last.ensures ∙ c.in-Some.is) c.write.ensures.next
    c.write.ensures.lasts in
    ring-is-row c.in-Some.moved ring.rows ring.loose ring.holds ring.ring

pub write-requires-in-Some-last : goal.write-requires-in-Some-last
write-requires-in-Some-last c =
    let ring = loosened _ _ _ _ c.args.from c.args.onto c.in-Some.moved c.requires.kept
    c.requires.from c.requires.onto (sym c.last.ensures ∙ c.in-Some.is) c.write.ensures.next
    c.write.ensures.lasts in
    last-is-row ring.holds c.args.onto c.in-Some-last.kept (sym c.last-2.ensures ∙ c.in-Some-last.is)

pub write-requires-in-Some-last-2 : goal.write-requires-in-Some-last-2
write-requires-in-Some-last-2 c =
    let ring = loosened _ _ _ _ c.args.from c.args.onto c.in-Some.moved c.requires.kept
    c.requires.from c.requires.onto (sym c.last.ensures ∙ c.in-Some.is) c.write.ensures.next
    c.write.ensures.lasts in
    let within = ring-is-row c.in-Some.moved ring.rows ring.loose ring.holds ring.ring in
    grind (arith, length-set)

pub write-requires-in-None : goal.write-requires-in-None
write-requires-in-None c =
    let ring = loosened _ _ _ _ c.args.from c.args.onto c.in-Some.moved c.requires.kept
    c.requires.from c.requires.onto (sym c.last.ensures ∙ c.in-Some.is) c.write.ensures.next
    c.write.ensures.lasts in
    (ring.there, ring-is-row c.in-Some.moved ring.rows ring.loose ring.holds ring.ring)

pub returns-in-Some-last-clause-holds : goal.returns-in-Some-last-clause-holds
returns-in-Some-last-clause-holds c = λ loose chains h.
    let next = c.args.links.now.next.items in
    let lasts = c.args.links.now.lasts.items in
    let rows = chain_in chains c.args.from in
    let onto = c.args.onto in
    let one = c.in-Some-last.kept in
    let two = c.in-Some.moved in
    let cut = c.write.new.self.next.items in
    let left = c.write.new.self.lasts.items in
    let noted = sym c.last-2.ensures ∙ c.in-Some-last.is in
    let first = ap (set cut one) c.next-second.ensures in
    let second = ap (set (set cut one (after cut two)) two) c.next-first.ensures in
    let both = c.write-in-Some-last-2.ensures in
    holds-fronted h c.args.from onto c.requires.apart c.requires.from
    c.write-in-Some-last-2.new.self.next.items c.write-in-Some-last-2.new.self.lasts.items
    (λ loosened.
    holds-same (set (set cut one (after cut two)) two (after cut one)) _ _
    (both.next ∙ ap (λ n. set n two c.next-first.result) (c.write-in-Some-last.ensures.next ∙ first)
    ∙ second)
    (both.lasts ∙ c.write-in-Some-last.ensures.lasts ∙ sym (last-again left onto (Some one) noted))
    (holds-embraced two rows
    (holds-same next cut left c.write.ensures.next c.write.ensures.lasts loosened)
    (ring-same next cut two rows c.write.ensures.next
    (ring-at h c.args.from two (sym c.last.ensures ∙ c.in-Some.is)))
    onto one noted))

pub returns-in-None-clause-holds : goal.returns-in-None-clause-holds
returns-in-None-clause-holds c = λ loose chains h.
    let next = c.args.links.now.next.items in
    let rows = chain_in chains c.args.from in
    let onto = c.args.onto in
    let two = c.in-Some.moved in
    let cut = c.write.new.self.next.items in
    let left = c.write.new.self.lasts.items in
    holds-fronted h c.args.from onto c.requires.apart c.requires.from
    c.write-in-None.new.self.next.items c.write-in-None.new.self.lasts.items
    (λ loosened.
    holds-same cut _ _ c.write-in-None.ensures.next c.write-in-None.ensures.lasts
    (holds-named two rows
    (holds-same next cut left c.write.ensures.next c.write.ensures.lasts loosened)
    (ring-same next cut two rows c.write.ensures.next
    (ring-at h c.args.from two (sym c.last.ensures ∙ c.in-Some.is)))
    onto (grind (arith, length-set)) (sym c.last-2.ensures ∙ c.in-None.is)))
