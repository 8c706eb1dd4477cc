use Rattle.std.proofs.Common.{length, None, refl, ◌∙◌, arith, vec_capacity}
use Rattle.std.proofs.lemmas.List.{get_or_read_under}
use Rattle.pending.proofs.CallLaws.{first-row, first-value, row-within}
use Rattle.pending.proofs.WalkLaws.{seen-replaced}
use Rattle.pending.proofs.chains.table.Chains.first_mut.Goals as goal

pub index_mut-requires : goal.index_mut-requires
index_mut-requires g c =
    let t = (c.self.invariant.sound).table in
    let first = c.first_row-row.ensures in
    let rest = first-row t.holds c.args.chain first.0 c.first_row-row.result first.1 first.2 in
    let small = row-within t c.args.chain c.first_row-row.result rest.0 rest.1 in
    omega (arith, c.self.inside.rows.ok)

pub value_mut-requires : goal.value_mut-requires
value_mut-requires g c =
    let t = (c.self.invariant.sound).table in
    let first = c.first_row-row.ensures in
    let rest = first-row t.holds c.args.chain first.0 c.first_row-row.result first.1 first.2 in
    let value = first-value t c.args.chain c.first_row-row.result rest.0
    c.requires.chain.0 rest.1 in
    let small = row-within t c.args.chain c.first_row-row.result rest.0 rest.1 in
    let rows = c.self.inside.rows.items in
    let read =
    get_or_read_under rows c.first_row-row.result
    (length rows) c.index_mut.result.now None c.index_mut.ensures.value small refl in
    rw (read ∙ value.1) refl

pub returns : goal.returns
returns g c =
    let t = (c.self.invariant.sound).table in
    let first = c.first_row-row.ensures in
    let rest = first-row t.holds c.args.chain first.0 c.first_row-row.result first.1 first.2 in
    let value = first-value t c.args.chain c.first_row-row.result rest.0
    c.requires.chain.0 rest.1 in
    let small = row-within t c.args.chain c.first_row-row.result rest.0 rest.1 in
    let rows = c.self.inside.rows.items in
    let read =
    get_or_read_under rows c.first_row-row.result
    (length rows) c.index_mut.result.now None c.index_mut.ensures.value small refl in (
      (
        refl,
        λ w. rw (← c.self.view_is)
            (seen-replaced c.self.inside.links rows
            (vec_capacity c.self.inside.rows) c.self.inside.walk c.self.invariant.sound c.args.chain
            c.first_row-row.result rest.0 w
            c.requires.chain.0 rest.1),
      ),
      record {
        writes_back = tt;
        value = grind arith;
      },
    )
