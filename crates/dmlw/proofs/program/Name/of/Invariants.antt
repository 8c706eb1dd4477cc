use Rattle.std.proofs.Common.{◌≡◌, drop}
use Rattle.dmlw.specs.Commands.{first_named}
use Rattle.dmlw.proofs.program.Name.of.Given as goal

abbrev pub invariant-loop-name : goal.invariant-loop-name
invariant-loop-name l = first_named l.word (drop l.name-index l.names) ≡ first_named l.word l.names
