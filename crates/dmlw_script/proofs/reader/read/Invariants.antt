use Rattle.std.proofs.Common.{◌≡◌, ◌≤◌, ◌+◌, length}
use Rattle.dmlw_script.specs.Words.{lines_of}
use Rattle.dmlw_script.specs.inside.Readers.{progress_of, read_lines, read_text, IsReader}
use Rattle.dmlw_script.proofs.reader.read.Given as goal

abbrev pub invariant-loop-line : goal.invariant-loop-line
invariant-loop-line l = record {
  reader : IsReader l.reader;
  counted : l.number + length l.rest ≤ length l.fn.text + 1;
  read : read_lines (progress_of l.reader) l.number (lines_of l.rest) ≡ read_text l.fn.text;
}

abbrev pub decreases-loop-line : goal.decreases-loop-line
decreases-loop-line l = length l.rest
