use Rattle.std.proofs.Common.{◌≡◌, drop, false, map}
use Rattle.clap.specs.Words.{app_of}
use Rattle.clap.specs.declared.builder.command.Command.TheViews.{out-Command as fields_of}
use Rattle.dmlw.specs.CommandLine.{command_app, with_arguments}
use Rattle.dmlw.proofs.program.command_of.Given as goal

abbrev pub invariant-loop-word : goal.invariant-loop-word
invariant-loop-word l = record {
  own : (fields_of l.command).has_globals ≡ false;
  reads : with_arguments (app_of l.command)
      (map (λ argument. argument.0.now) (drop l.word-index l.arguments)) ≡ command_app l.name;
}
