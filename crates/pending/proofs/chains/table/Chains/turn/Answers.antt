use Rattle.std.proofs.Common.{map, Some, refl, ap, sym, ◌∙◌}
use Rattle.pending.specs.ChainsView.{turned}
use Rattle.pending.specs.inside.Tables.{seen_chains, seen_lasts, values_of, IsTable}
use Rattle.pending.proofs.HoldsLaws.{last-is-row, none-at}
use Rattle.pending.proofs.RingLaws.{chain-map}
use Rattle.pending.proofs.TableLaws.{seen-of}
use Rattle.pending.proofs.WalkLaws.{nothing-turned, shown-turned, sound-at, walk-last, walked-is}
use Rattle.pending.proofs.WalkLaws.{walked-last, turn-made}
use Rattle.pending.proofs.MarkLaws.{marked-of, marks-kept, turned-counts}
use Rattle.pending.proofs.chains.table.Chains.turn.Given as given
use Rattle.pending.proofs.chains.table.Chains.turn.Goals as goal

pub returns-in_default-at-clause-chains : goal.returns-in_default-at-clause-chains
returns-in_default-at-clause-chains g c = λ chain walked.
    let seen = rw (← c.self.view_is) at walked in
    let last = walked-last c.self.inside.walk c.in-Some.walk chain c.self.invariant.sound
    c.in-Some.is seen in
    let rows = c.self.inside.rows.items in
    let chains = seen_chains c.self.inside.links c.self.inside.walk in
    rw (← c.self.view_is)
    (sym (nothing-turned (map (values_of rows) chains) chain
    (chain-map (values_of rows) chains chain refl
    ∙ ap (values_of rows) (none-at (c.self.invariant.sound).table.holds chain (last.1 ∙ c.in_default-at.is)))))

pub next-first-requires : goal.next-first-requires
next-first-requires g c =
    let s = sound-at c.self.inside.walk (Some c.in-Some.walk) c.in-Some.is c.self.invariant.sound in
    last-is-row s.table.holds c.in-Some.walk.chain c.in-Some-at.at
    (walk-last c.in-Some.walk s ∙ c.in-Some-at.is)

table : (g : given.Over) (c : goal.After-self-1 g)
    → IsTable c.self.inside.links.next.items
    (seen_lasts c.self.inside.links.lasts.items
    (Some (record { chain = c.in-Some.walk.chain; at = Some c.next-first.result })))
    c.self.inside.rows.items
    (turned (seen_chains c.self.inside.links c.self.inside.walk) c.in-Some.walk.chain)
table g c =
    turn-made c.self.inside.links c.self.inside.rows.items c.self.inside.walk c.in-Some.walk
    c.in-Some-at.at c.next-first.result c.self.invariant.sound
    c.in-Some.is c.in-Some-at.is c.next-first.ensures

pub invariant_of-self : goal.invariant_of-self
invariant_of-self g c =
    let s = sound-at c.self.inside.walk (Some c.in-Some.walk) c.in-Some.is c.self.invariant.sound in
    marked-of c.self.inside.links c.self.inside.rows.items _ _ (table g c) s.walks
    (marks-kept c.self.invariant.known
    (λ row. turned-counts (seen_chains c.self.inside.links c.self.inside.walk)
    c.in-Some.walk.chain row))

pub returns-clause-chains : goal.returns-clause-chains
returns-clause-chains g c = λ chain walked.
    let seen = rw (← c.self.view_is) at walked in
    let same = walked-is c.self.inside.walk c.in-Some.walk chain c.in-Some.is seen in
    let last = walked-last c.self.inside.walk c.in-Some.walk chain c.self.invariant.sound
    c.in-Some.is seen in
    let rows = c.self.inside.rows.items in
    let chains = seen_chains c.self.inside.links c.self.inside.walk in
    rw (← c.self.view_is)
    (ap (map (values_of rows)) (seen-of c.self.inside.links rows
    (Some (record { chain = c.in-Some.walk.chain; at = Some c.next-first.result })) _
    (table g c))
    ∙ ap (λ k. map (values_of rows) (turned chains k)) same
    ∙ shown-turned (c.self.invariant.sound).table chain last.0)
