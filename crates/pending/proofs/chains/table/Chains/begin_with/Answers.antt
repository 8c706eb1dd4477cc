use Rattle.std.proofs.Common.{[], ◌∷◌, ◌++◌, ap, ◌∙◌}
use Rattle.pending.specs.ChainsView.{lengthened}
use Rattle.pending.proofs.CallLaws.{begun-filled}
use Rattle.pending.proofs.chains.table.Chains.begin_with.Goals as goal

pub returns-clause-chains : goal.returns-clause-chains
returns-clause-chains g c =
    let before =
    ap (λ s. s.chains) c.in_ok-reserve_row.ensures.same
    ∙ ap (λ s. s.chains) c.in_ok-reserve.ensures.same in
    c.add_reserved.ensures.chains
    ∙ ap (λ cs. lengthened cs c.chains-chain.result c.args.value) c.begin.ensures.chains
    ∙ begun-filled c.reserve_row.new.self.chains c.chains-chain.result c.args.value
    c.chains-chain.ensures.count
    ∙ ap (λ cs. cs ++ (c.args.value ∷ []) ∷ []) before
