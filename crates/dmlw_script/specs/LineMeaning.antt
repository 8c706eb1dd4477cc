-- The meaning of a line of a script.
use Rattle.std.specs.Prelude.{ℕ, List}
use Rattle.dmlw_script.specs.declared.line.HeadLine.{HeadLine}
use Rattle.dmlw_script.specs.declared.line.BodyLine.{BodyLine}
use Rattle.dmlw_script.specs.declared.line.Line.{Line}
use Rattle.dmlw_script.specs.declared.line.Line.TheVariants as plain_lines

-- The meaning of a line of a recorder's script. It is a line of the head, a line of the body, or a
-- crash of the log disk with its picks.
pub data LineMeaning : Type 0 where
  Head : HeadLine → LineMeaning
  Body : BodyLine → LineMeaning
  Crash : List ℕ → LineMeaning

-- the meaning of a parsed line (`Line`), which is no crash
abbrev pub as_meaning : Line → LineMeaning
as_meaning (plain_lines.Head line) = Head line
as_meaning (plain_lines.Body line) = Body line
