use Rattle.std.proofs.Common.{◌≡◌, ℕ, List, ◌∷◌, map, ap, sym, ◌∙◌}
use Rattle.pending.specs.ChainsView.{chain_in}
use Rattle.pending.specs.inside.Tables.{seen_chains, values_of}
use Rattle.pending.proofs.HoldsLaws.{last-is-row}
use Rattle.pending.proofs.CallLaws.{on-some, first-row, first-value, row-within}
use Rattle.pending.proofs.WalkLaws.{replaced-table, shown-replaced}
use Rattle.pending.proofs.chains.table.Chains.replace_first.Given as given
use Rattle.pending.proofs.chains.table.Chains.replace_first.Goals as goal

pub next-row-requires : goal.next-row-requires
next-row-requires g c =
    last-is-row (c.self.invariant.sound).table.holds c.args.chain c.in_ok-last.last
    (sym c.seen_last.ensures ∙ c.in_ok-last.was)

pub put_value-requires : goal.put_value-requires
put_value-requires g c =
    let t = (c.self.invariant.sound).table in
    let rest =
    first-row t.holds c.args.chain c.in_ok-last.last c.next-row.result
    (sym c.seen_last.ensures ∙ c.in_ok-last.was) c.next-row.ensures in
    row-within t c.args.chain c.next-row.result rest.0 rest.1

first-rest : (g : given.Over) (c : goal.After-put_value g)
    → (rest : List ℕ) × (chain_in (seen_chains c.self.inside.links c.self.inside.walk) c.args.chain
    ≡ c.next-row.result ∷ rest)
first-rest g c =
    first-row (c.self.invariant.sound).table.holds c.args.chain c.in_ok-last.last c.next-row.result
    (sym c.seen_last.ensures ∙ c.in_ok-last.was) c.next-row.ensures

pub invariant_of-self : goal.invariant_of-self
invariant_of-self g c =
    let rest = first-rest g c in
    rw c.put_value.ensures.put (record {
      sound = record {
        table =
            replaced-table (c.self.invariant.sound).table c.args.chain c.next-row.result rest.0
            c.args.value c.requires.0 rest.1;
        walks = (c.self.invariant.sound).walks;
      };
      known = c.self.invariant.known;
    })

pub returns-clause-replaced : goal.returns-clause-replaced
returns-clause-replaced g c =
    let rest = first-rest g c in
    let value =
    first-value (c.self.invariant.sound).table c.args.chain c.next-row.result rest.0 c.requires.0
    rest.1 in
    rw (← c.self.view_is) (c.put_value.ensures.taken ∙ value.1 ∙ sym value.2)

pub returns-clause-chains : goal.returns-clause-chains
returns-clause-chains g c =
    let rest = first-rest g c in
    let chains = seen_chains c.self.inside.links c.self.inside.walk in
    on-some c.put_value.result _ (rw (← c.self.view_is)
    (ap (λ rs. map (values_of rs) chains) c.put_value.ensures.put
    ∙ shown-replaced (c.self.invariant.sound).table c.args.chain c.next-row.result rest.0 c.args.value
    c.requires.0 rest.1))

pub returns-clause-none : goal.returns-clause-none
returns-clause-none g c = λ none.
    let rest = first-rest g c in
    let value =
    first-value (c.self.invariant.sound).table c.args.chain c.next-row.result rest.0 c.requires.0
    rest.1 in
    let some = c.put_value.ensures.taken ∙ value.1 in
    absurd (let both = sym none ∙ some in cc)
