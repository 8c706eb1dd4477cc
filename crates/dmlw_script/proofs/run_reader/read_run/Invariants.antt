use Rattle.std.proofs.Common.{◌≡◌, ◌≤◌, ◌+◌, length}
use Rattle.dmlw_script.specs.Words.{lines_of}
use Rattle.dmlw_script.specs.inside.Readers.{read_run_lines, read_run_text, run_progress}
use Rattle.dmlw_script.proofs.run_reader.read_run.Given as goal

abbrev pub invariant-loop-line : goal.invariant-loop-line
invariant-loop-line l = record {
  counted : l.number + length l.rest ≤ length l.fn.text + 1;
  read : read_run_lines (run_progress l.reader) l.number (lines_of l.rest)
      ≡ read_run_text l.fn.text;
}

abbrev pub decreases-loop-line : goal.decreases-loop-line
decreases-loop-line l = length l.rest
