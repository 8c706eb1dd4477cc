use Rattle.std.proofs.Common.{◌≡◌, ◌≤◌, ◌+◌, length}
use Rattle.std.specs.Prelude.{slice_get}
use Rattle.dmlw_script.specs.Words.{command_line, unskipped_numbers, lines_of}
use Rattle.dmlw_script.proofs.reader.line_of.Given as goal

abbrev pub invariant-loop-line : goal.invariant-loop-line
invariant-loop-line l = record {
  counted : l.number + length l.rest ≤ length l.fn.text + 1;
  found : slice_get (unskipped_numbers l.number (lines_of l.rest)) l.left
      ≡ command_line l.fn.text l.fn.place;
}

abbrev pub decreases-loop-line : goal.decreases-loop-line
decreases-loop-line l = length l.rest
