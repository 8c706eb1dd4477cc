use Rattle.std.proofs.Common.{◌≡◌, ℕ, ◌<◌, List, [], ◌∷◌, length, map, drop, None, refl, ap, sym}
use Rattle.std.proofs.Common.{◌∙◌, arith}
use Rattle.std.proofs.lemmas.List.{length-set}
use Rattle.pending.specs.ChainsView.{chain_in, preceded, shortened}
use Rattle.pending.specs.inside.Tables.{seen_chains, seen_lasts, values_of, walked_in, IsOpen}
use Rattle.pending.specs.inside.Tables.{IsTable}
use Rattle.pending.proofs.TableLaws.{nothing-cut, seen-of, shown-closed, shown-taken}
use Rattle.pending.proofs.TableLaws.{table-rest, table-seen, walk-rest}
use Rattle.pending.proofs.HoldsLaws.{none-at}
use Rattle.pending.proofs.RingLaws.{chain-map}
use Rattle.pending.proofs.CallLaws.{first-row, first-value, free-kept, longer-free, loose-open}
use Rattle.pending.proofs.CallLaws.{on-some, row-within, taken-open, taken-table}
use Rattle.pending.proofs.MarkLaws.{marked-of, marks-removed, taken-counts}
use Rattle.pending.proofs.chains.table.Chains.take_first.Given as given
use Rattle.pending.proofs.chains.table.Chains.take_first.Goals as goal

pub returns-in_err-row-clause-chains : goal.returns-in_err-row-clause-chains
returns-in_err-row-clause-chains g c = grind (arith, table-rest, nothing-cut, chain-map, none-at)

pub take_value-value-requires : goal.take_value-value-requires
take_value-value-requires g c =
    let rests = rw (← c.self.view_is) at c.requires.rests in
    let t = table-rest c.self.invariant.sound rests in
    let first = c.in_ok-row.ensures.first in
    let rest = first-row t.holds c.args.chain first.0 c.in_ok-row.row first.1 first.2 in
    row-within t c.args.chain c.in_ok-row.row rest.0 rest.1

pub put_first-requires : goal.put_first-requires
put_first-requires g c =
    let rests = rw (← c.self.view_is) at c.requires.rests in
    let first = c.in_ok-row.ensures.first in
    let o =
    taken-open c.self.invariant.sound rests c.args.chain first.0 c.in_ok-row.row
    c.requires.chain.0 first.1 first.2 c.take_first.new.links
    c.take_first.ensures.changes
    (λ h. c.in_ok-row.ensures.holds []
    (seen_chains c.self.inside.links c.self.inside.walk) h) in
    loose-open o 0 o.free

rests : (g : given.Over) (c : goal.After-put_first g) → walked_in c.self.inside.walk ≡ None
rests g c = rw (← c.self.view_is) at c.requires.rests

first-rest : (g : given.Over) (c : goal.After-put_first g)
    → (rest : List ℕ) × (chain_in (seen_chains c.self.inside.links c.self.inside.walk) c.args.chain
    ≡ c.in_ok-row.row ∷ rest)
first-rest g c =
    let first = c.in_ok-row.ensures.first in
    first-row (table-rest c.self.invariant.sound
    (rests g c)).holds c.args.chain first.0 c.in_ok-row.row first.1 first.2

taken : (g : given.Over) (c : goal.After-put_first g)
    → IsOpen c.take_first.new.links.next.items c.take_first.new.links.lasts.items
    c.take_value-value.new.rows.items c.in_ok-row.row
    (shortened (seen_chains c.self.inside.links c.self.inside.walk) c.args.chain)
taken g c =
    let first = c.in_ok-row.ensures.first in
    rw c.take_value-value.ensures.left
    (taken-open c.self.invariant.sound
    (rests g c) c.args.chain first.0 c.in_ok-row.row c.requires.chain.0 first.1 first.2
    c.take_first.new.links
    c.take_first.ensures.changes
    (λ h. c.in_ok-row.ensures.holds [] (seen_chains c.self.inside.links c.self.inside.walk) h))

table : (g : given.Over) (c : goal.After-put_first g)
    → IsTable c.put_first.new.links.next.items
    (seen_lasts c.put_first.new.links.lasts.items c.self.inside.walk)
    c.take_value-value.new.rows.items
    (preceded (shortened (seen_chains c.self.inside.links c.self.inside.walk) c.args.chain) 0
    c.in_ok-row.row)
table g c =
    let chains = shortened (seen_chains c.self.inside.links c.self.inside.walk) c.args.chain in
    let mid = c.take_first.new.links in
    let o = taken g c in
    table-seen c.put_first.new.links c.take_value-value.new.rows.items c.self.inside.walk
    (preceded chains 0 c.in_ok-row.row) (rests g c)
    (taken-table o c.put_first.new.links c.put_first.ensures.changes c.put_first.ensures.lasts
    (λ h. c.put_first.ensures.holds mid.lasts.items [] chains h o.free refl))

pub invariant_of-self-2 : goal.invariant_of-self-2
invariant_of-self-2 g c =
    marked-of c.put_first.new.links c.take_value-value.new.rows.items c.self.inside.walk _
    (table g c)
    (walk-rest c.put_first.new.links.lasts.items c.self.inside.walk (rests g c))
    (marks-removed c.in_ok-row.row c.remove.ensures c.self.invariant.known
    (λ r apart. taken-counts (seen_chains c.self.inside.links c.self.inside.walk) c.args.chain
    c.in_ok-row.row r (first-rest g c).0 (first-rest g c).1 apart))

pub returns-clause-taken : goal.returns-clause-taken
returns-clause-taken g c =
    let t = table-rest c.self.invariant.sound (rests g c) in
    let rest = first-rest g c in
    let value = first-value t c.args.chain c.in_ok-row.row rest.0 c.requires.chain.0 rest.1 in
    rw (← c.self.view_is) (c.take_value-value.ensures.taken ∙ value.1 ∙ sym value.2)

pub returns-clause-chains : goal.returns-clause-chains
returns-clause-chains g c =
    let rows = c.self.inside.rows.items in
    let row = c.in_ok-row.row in
    let chains = seen_chains c.self.inside.links c.self.inside.walk in
    let rest = first-rest g c in
    rw (← c.self.view_is)
    (ap (map (values_of c.take_value-value.new.rows.items)) (seen-of c.put_first.new.links c.take_value-value.new.rows.items c.self.inside.walk _
    (table g c))
    ∙ shown-closed (taken g c)
    ∙ ap (λ rs. map (values_of rs) (shortened chains c.args.chain)) c.take_value-value.ensures.left
    ∙ shown-taken (table-rest c.self.invariant.sound
    (rests g c)) c.args.chain row rest.0 c.requires.chain.0 rest.1)

pub returns-clause-spare : goal.returns-clause-spare
returns-clause-spare g c =
    let t = table-rest c.self.invariant.sound (rests g c) in
    let chains = seen_chains c.self.inside.links c.self.inside.walk in
    let cut = shortened chains c.args.chain in
    let o = taken g c in
    let within : 0 < length cut = let size = (o.holds).size in let f = o.free in omega arith in
    let seen =
    ap (λ cs. length (chain_in cs 0))
    (seen-of c.put_first.new.links c.take_value-value.new.rows.items c.self.inside.walk _
    (table g c)) in
    let longer = longer-free cut c.in_ok-row.row within in
    let kept =
    ap length (free-kept chains c.args.chain
    (drop 1 (chain_in chains c.args.chain)) c.requires.chain.0) in
    let sized =
    ap length c.take_value-value.ensures.left
    ∙ length-set c.self.inside.rows.items c.in_ok-row.row None in
    let room = c.take_value-value.ensures.room in
    let first = c.take_first.ensures.changes in
    let second = c.put_first.ensures.changes in
    let links_room = second.row_room ∙ first.row_room in
    let links_long = second.rows ∙ first.rows in
    on-some c.take_value-value.result _ (rw (← c.self.view_is) (omega arith))

pub returns-clause-none : goal.returns-clause-none
returns-clause-none g c = λ none.
    let t = table-rest c.self.invariant.sound (rests g c) in
    let rest = first-rest g c in
    let value = first-value t c.args.chain c.in_ok-row.row rest.0 c.requires.chain.0 rest.1 in
    let some = c.take_value-value.ensures.taken ∙ value.1 in
    absurd (let both = sym none ∙ some in cc)
