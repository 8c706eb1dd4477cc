use Rattle.std.proofs.Common.{arith}
use Rattle.std.proofs.lemmas.List.{drop_more}
use Rattle.clap.specs.Words.{app_of, with_subcommand}
use Rattle.dmlw.proofs.program.program_command.Goals as goal

pub loop-name-preserved : goal.loop-name-preserved
loop-name-preserved c = grind (arith, with_subcommand, app_of, drop_more)
