use Rattle.std.proofs.Common.{length, refl, ap, sym, ◌∙◌}
use Rattle.std.specs.Prelude.{◌==◌}
use Rattle.pending.specs.inside.Tables.{seen_chains, values_of}
use Rattle.pending.proofs.RingLaws.{chain-map}
use Rattle.pending.proofs.CallLaws.{empty-is}
use Rattle.pending.proofs.chains.table.Chains.is_empty.Goals as goal

pub returns : goal.returns
returns g c =
    let rows = c.self.inside.rows.items in
    let chains = seen_chains c.self.inside.links c.self.inside.walk in
    let t = (c.self.invariant.sound).table in
    rw (← c.self.view_is)
    (empty-is t c.args.chain c.seen_last.result c.is_none.result c.requires.0 c.seen_last.ensures
    c.is_none.ensures
    ∙ ap (λ vs. length vs == 0) (sym (chain-map (values_of rows) chains c.args.chain refl)))
