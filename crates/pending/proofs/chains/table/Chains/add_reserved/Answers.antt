use Rattle.std.proofs.Common.{◌≡◌, ◌<◌, max, [], ◌∷◌, ◌++◌, length, map, drop, Some, None, ap, sym}
use Rattle.std.proofs.Common.{◌∙◌, arith}
use Rattle.std.proofs.lemmas.List.{length-map, length-set}
use Rattle.pending.specs.ChainsView.{chain_in, count_in, lengthened, shortened}
use Rattle.pending.specs.inside.Tables.{seen_chains, seen_lasts, values_of, walked_in, IsOpen}
use Rattle.pending.specs.inside.Tables.{IsTable}
use Rattle.pending.proofs.TableLaws.{seen-of, shown-filled, table-rest, table-seen}
use Rattle.pending.proofs.TableLaws.{walk-rest}
use Rattle.pending.proofs.CallLaws.{chain-noted, filled-table, free-few, free-kept, loose-open}
use Rattle.pending.proofs.CallLaws.{open-within, shorter-free, table-rows}
use Rattle.pending.proofs.MarkLaws.{longer-counts, marked-of, marks-kept}
use Rattle.pending.proofs.chains.table.Chains.add_reserved.Given as given
use Rattle.pending.proofs.chains.table.Chains.add_reserved.Goals as goal

pub put_value-requires : goal.put_value-requires
put_value-requires g c =
    let rests = rw (← c.self.view_is) at c.requires.rests in
    let t = table-rest c.self.invariant.sound rests in
    open-within (c.open_row-row.ensures.opened
    (seen_chains c.self.inside.links c.self.inside.walk) t)

pub put_last-requires : goal.put_last-requires
put_last-requires g c =
    let rests = rw (← c.self.view_is) at c.requires.rests in
    let there = rw (← c.self.view_is) at c.requires.chain in
    let t = table-rest c.self.invariant.sound rests in
    let less = chain-noted t c.args.chain there.1 in
    let same = c.open_row-row.ensures.chains in
    loose-open (c.open_row-row.ensures.opened
    (seen_chains c.self.inside.links c.self.inside.walk) t) c.args.chain (omega arith)

rests : (g : given.Over) (c : goal.After-put_last g) → walked_in c.self.inside.walk ≡ None
rests g c = rw (← c.self.view_is) at c.requires.rests

loose : (g : given.Over) (c : goal.After-put_last g)
    → IsOpen c.open_row-row.new.links.next.items c.open_row-row.new.links.lasts.items
    c.open_row-row.new.rows.items c.open_row-row.result
    (shortened (seen_chains c.self.inside.links c.self.inside.walk) 0)
loose g c = grind (arith, table-rest)

table : (g : given.Over) (c : goal.After-put_last g)
    → IsTable c.put_last.new.links.next.items
    (seen_lasts c.put_last.new.links.lasts.items c.self.inside.walk) c.put_value.new.rows.items
    (lengthened (shortened (seen_chains c.self.inside.links c.self.inside.walk) 0) c.args.chain
    c.open_row-row.result)
table g c =
    let chains = shortened (seen_chains c.self.inside.links c.self.inside.walk) 0 in
    table-seen c.put_last.new.links c.put_value.new.rows.items c.self.inside.walk
    (lengthened chains c.args.chain c.open_row-row.result) (rests g c)
    (rw c.put_value.ensures.put
    (filled-table (loose g c) c.put_last.new.links 3 c.args.chain c.args.value c.requires.chain.0
    c.put_last.ensures.changes
    (λ h. c.put_last.ensures.holds [] chains h)))

pub invariant_of-self : goal.invariant_of-self
invariant_of-self g c =
    marked-of c.put_last.new.links c.put_value.new.rows.items c.self.inside.walk _ (table g c)
    (walk-rest c.put_last.new.links.lasts.items c.self.inside.walk (rests g c))
    (marks-kept c.self.invariant.known
    (λ row. longer-counts (seen_chains c.self.inside.links c.self.inside.walk) c.args.chain
    c.open_row-row.result row))

pub returns-clause-chains : goal.returns-clause-chains
returns-clause-chains g c =
    let t = table-rest c.self.invariant.sound (rests g c) in
    let chains = seen_chains c.self.inside.links c.self.inside.walk in
    let cut = shortened chains 0 in
    let there = rw (← c.self.view_is) at c.requires.chain in
    let within : c.args.chain < length cut =
    let step = length-map chains (values_of c.self.inside.rows.items) in
    let next_step = length-set chains 0 (drop 1 (chain_in chains 0)) in
    omega (arith, there.1) in
    rw (← c.self.view_is)
    (ap (map (values_of c.put_value.new.rows.items)) (seen-of c.put_last.new.links c.put_value.new.rows.items c.self.inside.walk _ (table g c))
    ∙ ap (λ rs. map (values_of rs)
    (lengthened cut c.args.chain c.open_row-row.result)) c.put_value.ensures.put
    ∙ shown-filled (loose g c) c.args.chain c.args.value within
    ∙ ap (λ vs. lengthened vs c.args.chain c.args.value) (c.open_row-row.ensures.shown chains t))

pub returns-clause-rows : goal.returns-clause-rows
returns-clause-rows g c =
    let t = table-rest c.self.invariant.sound (rests g c) in
    let chains = seen_chains c.self.inside.links c.self.inside.walk in
    let cut = shortened chains 0 in
    let long =
    ap length c.put_value.ensures.put
    ∙ length-set c.open_row-row.new.rows.items c.open_row-row.result (Some c.args.value) in
    let less =
    grind (arith, length, free-kept)
    ∙ shorter-free chains in
    rw (← c.self.view_is)
    (table-rows (table g c) (length c.self.inside.rows.items) (length (chain_in chains 0))
    (long ∙ c.open_row-row.ensures.rows chains t) (free-few t) less
    ∙ ap (λ cs. max (length c.self.inside.rows.items)
    (count_in (map (values_of c.put_value.new.rows.items) cs)))
    (sym (seen-of c.put_last.new.links c.put_value.new.rows.items c.self.inside.walk _
    (table g c))))

pub returns-clause-spare : goal.returns-clause-spare
returns-clause-spare g c =
    let t = table-rest c.self.invariant.sound (rests g c) in
    let chains = seen_chains c.self.inside.links c.self.inside.walk in
    let cut = shortened chains 0 in
    let spare = c.open_row-row.ensures.spare chains t in
    let seen =
    ap (λ cs. length (chain_in cs 0))
    (seen-of c.put_last.new.links c.put_value.new.rows.items c.self.inside.walk _
    (table g c)) in
    let kept =
    ap length (free-kept cut c.args.chain
    (chain_in cut c.args.chain ++ c.open_row-row.result ∷ []) c.requires.chain.0) in
    let long =
    ap length c.put_value.ensures.put
    ∙ length-set c.open_row-row.new.rows.items c.open_row-row.result (Some c.args.value) in
    let room = c.put_value.ensures.room in
    let changes = c.put_last.ensures.changes in
    rw (← c.self.view_is) (omega arith)
