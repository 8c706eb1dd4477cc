use Rattle.std.proofs.Common.{ap, ◌∙◌}
use Rattle.layer_table.proofs.StackLayers.{all_under, first_asked, none_refused, none_under}
use Rattle.layer_table.proofs.StackLayers.{of_error, one_under, partly_under}
use Rattle.layer_table.proofs.stack.Stack.layered.Goals as goal

pub loop-spec-init : goal.loop-spec-init
loop-spec-init c = none_under _ _ _ c.requires

pub over-requires : goal.over-requires
over-requires c = first_asked _ _ _ _ _ _ _ c.in-Some.ensures.cases.0 c.loop-spec.invariant

pub returns-in_err-stack-clause-stand : goal.returns-in_err-stack-clause-stand
returns-in_err-stack-clause-stand c stand few =
    absurd (none_refused _ _ _ _ _ _ _ c.in-Some.ensures.cases.0 c.loop-spec.invariant stand few
    c.in_err-stack.ensures.fits_not)

pub returns-in_err-stack-clause-back : goal.returns-in_err-stack-clause-back
returns-in_err-stack-clause-back c =
    of_error c.from_residual.result c.from_residual.ensures.1 (λ back is.
    partly_under _ _ _ _ _ _ _ _ c.in-Some.ensures.cases.0 c.loop-spec.invariant
    (ap (λ b. b.0) is ∙ c.in_err-stack.ensures.refused.0) c.in_err-stack.ensures.fits_not)

pub loop-spec-preserved : goal.loop-spec-preserved
loop-spec-preserved c =
    let over = c.in_ok-stack.ensures in
    one_under _ _ _ _ _ _ _ _ c.in-Some.ensures.cases.0 c.loop-spec.invariant over.layers over.disk
    over.shown

pub returns-clause-layers : goal.returns-clause-layers
returns-clause-layers c = (all_under _ _ _ _ _ c.in_default.ensures.cases c.loop-spec.invariant).0

pub returns-clause-disk : goal.returns-clause-disk
returns-clause-disk c = (all_under _ _ _ _ _ c.in_default.ensures.cases c.loop-spec.invariant).1

pub returns-clause-shown : goal.returns-clause-shown
returns-clause-shown c = (all_under _ _ _ _ _ c.in_default.ensures.cases c.loop-spec.invariant).2
