use Rattle.std.proofs.Common.{◌≡◌, drop, fold}
use Rattle.clap.specs.Words.{app_of, with_subcommand}
use Rattle.dmlw.specs.CommandLine.{bare_app, command_app}
use Rattle.dmlw.proofs.program.program_command.Given as goal

abbrev pub invariant-loop-name : goal.invariant-loop-name
invariant-loop-name l =
    fold (λ app name. with_subcommand app (command_app name).top) (app_of l.program)
    (drop l.name-index l.names)
    ≡ fold (λ app name. with_subcommand app (command_app name).top) bare_app l.names
