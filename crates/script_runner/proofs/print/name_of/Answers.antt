use Rattle.script_runner.proofs.LineSteps.{name_is}
use Rattle.script_runner.proofs.print.name_of.Goals as goal

pub returns-clause-id : goal.returns-clause-id
returns-clause-id c = name_is c.args.names.now c.args.request _ c.requires.ids c.requires.named
