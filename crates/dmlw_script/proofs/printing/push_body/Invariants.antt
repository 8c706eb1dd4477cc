use Rattle.std.proofs.Common.{◌≡◌, ◌+◌, ◌++◌, length, take, drop}
use Rattle.std.specs.Prelude.{flat_map}
use Rattle.dmlw_script.specs.Plans.{lines_of_body, submissions, top_of, IsWellFormed}
use Rattle.bio.specs.Requests.{bytes_of}
use Rattle.dmlw_script.specs.Grammar.{ended_line}
use Rattle.dmlw_script.proofs.printing.push_body.Given as goal

abbrev pub invariant-loop-command : goal.invariant-loop-command
invariant-loop-command l = record {
  printed : l.out.items ++ flat_map ended_line
      (lines_of_body l.script.names l.before (drop l.command-index l.script.commands))
      ≡ l.fn.out.items ++ flat_map ended_line (lines_of_body l.script.names 0 l.script.commands);
  numbered : length l.script.names
      ≡ l.before + submissions (drop l.command-index l.script.commands);
  counted : l.before ≡ submissions (take l.command-index l.script.commands);
  well_formed : IsWellFormed (bytes_of l.script.log_size) (top_of l.script.data_disk)
      (take l.command-index l.script.commands) (drop l.command-index l.script.commands);
}
