use Rattle.script_runner.proofs.LineSteps.{outcome_printed}
use Rattle.script_runner.proofs.print.print_outcome.Goals as goal

pub returns-clause-output : goal.returns-clause-output
returns-clause-output g c =
    outcome_printed c.args.name.now c.args.ok c.outcome_word-word.result.now _ _ c.requires
    c.outcome_word-word.ensures c.in_ok-writeln.ensures.bytes
