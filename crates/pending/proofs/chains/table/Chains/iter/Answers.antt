use Rattle.std.proofs.Common.{ap, ◌∙◌}
use Rattle.std.specs.Prelude.{unwrap_or}
use Rattle.pending.proofs.BackLaws.{look-begun}
use Rattle.pending.proofs.chains.table.Chains.iter.Goals as goal

pub invariant_of-result : goal.invariant_of-result
invariant_of-result g c =
    rw c.as_slice.ensures.value
    (look-begun c.self.invariant.sound c.args.chain c.unwrap_or.result c.seen_last-at.result c.requires.0
    c.seen_last-at.ensures
    (λ row is. c.unwrap_or.ensures ∙ ap (λ at. unwrap_or at 0) is)).0
