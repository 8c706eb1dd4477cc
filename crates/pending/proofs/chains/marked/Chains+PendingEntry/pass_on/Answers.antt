use Rattle.std.proofs.Common.{◌≡◌, ◌++◌, ◌∷◌, ℕ, List, None, Some, ap, arith, length}
use Rattle.std.proofs.Common.{[], false, set, true, ◌∙◌, vec_capacity}
use Rattle.std.proofs.lemmas.List.{get_or_read_under}
use Rattle.pending.specs.ChainsView.{chain_in}
use Rattle.pending.specs.declared.row.PendingEntry.{PendingEntry}
use Rattle.pending.specs.inside.Tables.{IsTable, seen_chains, seen_lasts, value_at}
use Rattle.pending.specs.inside.Tables.{values_of, walked_in}
use Rattle.pending.proofs.MarkLaws.{marked-of, marks-removed}
use Rattle.pending.proofs.MiddleLaws.{marked-within, passed, passed-changes, passed-counts}
use Rattle.pending.proofs.MiddleLaws.{passed-loose, passed-out, passed-table, row-parts}
use Rattle.pending.proofs.TableLaws.{in-neither, keeps-room, seen-of, walk-rest}
use Rattle.pending.proofs.chains.marked.Chains+PendingEntry.pass_on.Goals as goal

pub index-requires : goal.index-requires
index-requires c = grind (arith, marked-within)

pub next-requires : goal.next-requires
next-requires c = grind (arith, true, marked-within)

rests : (c : goal.After-put_last) → walked_in c.self.inside.walk ≡ None
rests c = rw (← c.self.view_is) at c.requires.rests

parts : (c : goal.After-put_last)
    → (front : List ℕ) × (back : List ℕ)
    × (chain_in (seen_chains c.self.inside.links c.self.inside.walk) 1
    ≡ front ++ c.args.row ∷ back)
parts c = row-parts c.self.invariant c.args.row (grind arith)

pub put_last-requires : goal.put_last-requires
put_last-requires c = grind (arith, row-parts, passed-loose)

table : (c : goal.After-put_last)
    → IsTable c.put_last.new.links.next.items
    (seen_lasts c.put_last.new.links.lasts.items c.self.inside.walk) c.self.inside.rows.items
    (passed (seen_chains c.self.inside.links c.self.inside.walk) ((parts c).0 ++ (parts c).1)
    c.args.onto c.args.row)
table c =
    passed-table c.self.invariant.sound (rests c) c.args.row c.args.onto (parts c).0 (parts c).1
    c.requires.onto.0 (parts c).2 c.take_row.ensures.changes c.put_last.ensures.changes
    c.take_row.ensures.holds c.put_last.ensures.holds

pub invariant_of-self : goal.invariant_of-self
invariant_of-self c =
    let p = parts c in
    marked-of c.put_last.new.links c.self.inside.rows.items c.self.inside.walk _ (table c)
    (walk-rest c.put_last.new.links.lasts.items c.self.inside.walk (rests c))
    (marks-removed c.args.row
    (c.remove.ensures ∙ ap (λ ms. set ms.items c.args.row false) c.skip.ensures) c.self.invariant.known
    (λ r apart. passed-counts (seen_chains c.self.inside.links c.self.inside.walk) p.0 p.1
    c.args.row c.args.onto r p.2 c.requires.onto.0 apart))

found : (c : goal.After-put_last)
    → (request : PendingEntry)
    × (value_at c.self.inside.rows.items c.args.row ≡ Some request)
    × (request.end ≡ c.args.end)
found c = grind (arith, marked-within, get_or_read_under, length)

pub returns-clause-passed : goal.returns-clause-passed
returns-clause-passed c = λ done.
    let rows = c.self.inside.rows.items in
    let chains = seen_chains c.self.inside.links c.self.inside.walk in
    let p = parts c in
    let f = found c in
    let out =
    passed-out rows chains (seen_chains c.put_last.new.links c.self.inside.walk)
    c.args.self.now.chains c.args.row c.args.onto p.0 p.1 f.0 (grind (arith, c.self.view_is))
    p.2 f.1 (seen-of c.put_last.new.links rows c.self.inside.walk _ (table c)) in
    (f.0, values_of rows p.0 ++ values_of rows p.1, f.2, out.0, out.1)

pub returns-clause-room : goal.returns-clause-room
returns-clause-room c =
    let chains = seen_chains c.self.inside.links c.self.inside.walk in
    let rest = (parts c).0 ++ (parts c).1 in
    let left = set chains 1 rest in
    rw (← c.self.view_is)
    (keeps-room c.self.inside.links c.put_last.new.links c.self.inside.rows.items
    (vec_capacity c.self.inside.rows) 5 c.self.inside.walk c.self.inside.walk
    (passed-changes c.take_row.ensures.changes c.put_last.ensures.changes)
    (ap (λ cs. chain_in cs 0)
    (seen-of c.put_last.new.links c.self.inside.rows.items c.self.inside.walk _ (table c))
    ∙ in-neither chains 1 c.args.onto rest (chain_in left c.args.onto ++ c.args.row ∷ [])
    (omega arith) (let more = c.requires.onto.0 in omega arith)))
