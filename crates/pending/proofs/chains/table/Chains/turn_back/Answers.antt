use Rattle.std.proofs.Common.{length, map, Some, ap, sym, ◌∙◌, arith, length-set, ◌<◌}
use Rattle.pending.specs.ChainsView.{turned}
use Rattle.pending.specs.inside.Tables.{seen_chains, values_of}
use Rattle.pending.proofs.HoldsLaws.{none-at}
use Rattle.pending.proofs.RingLaws.{chain-map}
use Rattle.pending.proofs.TableLaws.{seen-of}
use Rattle.pending.proofs.WalkLaws.{nothing-turned, shown-turned, sound-at, walk-last, walked-is}
use Rattle.pending.proofs.WalkLaws.{walked-last}
use Rattle.pending.proofs.BackLaws.{back-made, back-turned, before-there}
use Rattle.pending.proofs.MarkLaws.{back-counts, marked-of, marks-kept}
use Rattle.pending.proofs.chains.table.Chains.turn_back.Goals as goal

pub returns-in_default-at-clause-chains : goal.returns-in_default-at-clause-chains
returns-in_default-at-clause-chains g c =
    grind (arith, walked-last, nothing-turned, chain-map, none-at)

pub before-before-requires : goal.before-before-requires
before-before-requires g c =
    let s = sound-at c.self.inside.walk (Some c.in-Some.walk) c.in-Some.is c.self.invariant.sound in
    before-there s.table.holds c.in-Some.walk.chain c.in-Some-at.at
    (walk-last c.in-Some.walk s ∙ c.in-Some-at.is)

pub invariant_of-self : goal.invariant_of-self
invariant_of-self g c =
    let s = sound-at c.self.inside.walk (Some c.in-Some.walk) c.in-Some.is c.self.invariant.sound in
    let back =
    back-made c.self.inside.links c.self.inside.rows.items c.self.inside.walk c.in-Some.walk
    c.in-Some-at.at c.before-before.result c.self.invariant.sound c.in-Some.is c.in-Some-at.is
    c.before-before.ensures.within c.before-before.ensures.leads in
    marked-of c.self.inside.links c.self.inside.rows.items _ _ back.2 s.walks
    (marks-kept c.self.invariant.known
    (λ row. back-counts (seen_chains c.self.inside.links c.self.inside.walk) c.in-Some.walk.chain
    row back.0 back.1))

pub returns-clause-chains : goal.returns-clause-chains
returns-clause-chains g c = λ chain walked.
    let seen = rw (← c.self.view_is) at walked in
    let same = walked-is c.self.inside.walk c.in-Some.walk chain c.in-Some.is seen in
    let s = sound-at c.self.inside.walk (Some c.in-Some.walk) c.in-Some.is c.self.invariant.sound in
    let links = c.self.inside.links in
    let rows = c.self.inside.rows.items in
    let chains = seen_chains links c.self.inside.walk in
    let at = c.in-Some.walk.chain in
    let back =
    back-made links rows c.self.inside.walk c.in-Some.walk
    c.in-Some-at.at c.before-before.result c.self.invariant.sound c.in-Some.is c.in-Some-at.is
    c.before-before.ensures.within c.before-before.ensures.leads in
    let within : at < length chains =
    let step = length-set links.lasts.items at c.in-Some.walk.at in
    omega (arith, s.table.holds.size, ap (λ k. length (seen_chains links k)) c.in-Some.is, s.walks.1) in
    rw (← c.self.view_is)
    (ap (map (values_of rows)) (sym (back-turned chains at back.0 within back.1))
    ∙ shown-turned back.2 at s.walks.0
    ∙ ap (λ cs. turned (map (values_of rows) cs) at)
    (sym (seen-of links rows (Some (record { chain = at; at = Some c.before-before.result })) _
    back.2))
    ∙ ap (turned (map (values_of rows) (seen_chains links (Some (record { chain = at; at = Some c.before-before.result }))))) same)
