use Rattle.std.proofs.Common.{replicate, ◌∙◌}
use Rattle.judge.proofs.HeldValues.{some_value}
use Rattle.judge.proofs.held.discards_value.Goals as goal

pub returns-in-Some : goal.returns-in-Some
returns-in-Some c =
    let placed = c.in-Some.ensures in
    c.eq.ensures
    ∙ some_value c.args.first c.args.count c.args.sector c.in-Some.field-0
    (λ _. replicate 512 0) c.args.value.now c.as_slice.result.now placed.0
    placed.1 c.as_slice.ensures
