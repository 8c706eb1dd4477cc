use Rattle.std.proofs.Common.{◌≡◌, None, arith, length, refl, true, ◌∙◌}
use Rattle.std.proofs.lemmas.List.{get_or_read_under}
use Rattle.pending.specs.inside.Tables.{is_marked, seen_chains}
use Rattle.pending.proofs.MiddleLaws.{marked-within, row-parts, some-amid}
use Rattle.pending.proofs.chains.table.Chains.marked.Goals as goal

pub index-requires : goal.index-requires
index-requires g c = grind (arith, marked-within)

pub returns : goal.returns
returns g c =
    let rows = c.self.inside.rows.items in
    let marked : is_marked c.self.inside.marks.rows.items c.args.row ≡ true = grind arith in
    let small = marked-within c.self.invariant c.args.row marked in
    let p = row-parts c.self.invariant c.args.row marked in
    let read =
    get_or_read_under rows c.args.row (length rows) c.index.result.now None c.index.ensures small
    refl in
    some-amid rows (seen_chains c.self.inside.links c.self.inside.walk) c.args.self.now.chains
    c.args.row p.0 p.1 c.as_ref.result (grind (arith, c.self.view_is)) p.2
    (c.as_ref.ensures.value ∙ read)
