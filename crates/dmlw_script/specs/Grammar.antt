-- The grammars of both kinds of scripts, as relations between texts and scripts, and the canonical
-- text of a script.
use Rattle.std.specs.Prelude.{length, slice_get, ◌≡◌, ℕ, ◌+◌, List, [], ◌∷◌, ◌++◌, Option}
use Rattle.std.specs.Prelude.{Some, None, flat_map}
use Rattle.dmlw_script.specs.Language.{AreLines, Language}
use Rattle.dmlw_script.specs.declared.run_line.RunLine.{RunLine}
use Rattle.dmlw_script.specs.declared.run_line.RunLine.TheVariants as run_lines
use Rattle.dmlw_script.specs.declared.run_line.SeatCall.{SeatCall}
use Rattle.dmlw_script.specs.Fields.{run_fields, fields_of, fields_text, IsLineWith}
use Rattle.dmlw_script.specs.LineMeaning.{LineMeaning}
use Rattle.dmlw_script.specs.LineMeaning as parsed_lines
use Rattle.dmlw_script.specs.Words.{lines_of, unskipped}
use Rattle.dmlw_script.specs.Plans.{IsPlan, ScriptValue, head_count, lines_after_head}
use Rattle.dmlw_script.specs.Plans.{lines_of_script}
use Rattle.dmlw_script.specs.RunPlans.{lines_of_run, IsRunPlan, RunPlan}

-- The grammar of a recorder's scripts, as a relation between texts and scripts.

-- the line has the words of a line with this meaning
abbrev pub ParsesAs : List ℕ → LineMeaning → Type 0
ParsesAs line meaning = IsLineWith line (fields_of meaning)

-- the recorder's scripts
abbrev pub of_recorder : Language LineMeaning ScriptValue
of_recorder = record { fields = fields_of; lines_of = lines_of_script; IsScript = IsPlan }

-- `lines` are the lines of the recorder's script `plan` (`AreLines`)
abbrev pub AreLinesOf : List (List ℕ) → ScriptValue → Type 0
AreLinesOf lines plan = AreLines of_recorder lines plan

-- the text is a text of the script `plan`
abbrev pub IsTextOf : List ℕ → ScriptValue → Type 0
IsTextOf text plan = AreLinesOf (lines_of text) plan

-- Line `number`, counted from 1, has the meaning of the script's command `place`, counted from 0.
-- If `place` is the number of commands, the meaning is the crash. Before line `number` there are as
-- many unskipped lines as the head has lines, and `place` more.
pub record IsLineOf (lines : List (List ℕ)) (plan : ScriptValue) (place number : ℕ) : Type 0 where
  pub before : List (List ℕ)
  pub line : List ℕ
  pub more : List (List ℕ)
  pub split : lines ≡ before ++ line ∷ more
  pub number_is : number ≡ length before + 1
  pub after_byte : length (unskipped before) ≡ place + head_count plan
  pub parsed : LineMeaning
  pub command : slice_get (lines_after_head plan) place ≡ Some parsed
  pub says : ParsesAs line parsed

-- The canonical text of a script.

-- the canonical line with this meaning
abbrev pub line_text : LineMeaning → List ℕ
line_text meaning = fields_text (fields_of meaning)

-- the canonical line with the meaning `s`, and a line feed
abbrev pub ended_line : LineMeaning → List ℕ
ended_line s = line_text s ++ 10 ∷ []

-- the canonical line of the crash that ends a script, with a line feed; empty if no crash ends it
abbrev pub ending_text : Option (List ℕ) → List ℕ
ending_text None = []
ending_text (Some picks) = ended_line (parsed_lines.Crash picks)

-- the canonical text of a script: the canonical line of each of its lines, with a line feed
abbrev pub canonical_text : ScriptValue → List ℕ
canonical_text plan = flat_map ended_line (lines_of_script plan)

-- The grammar of the scripts of a run, as a relation between texts and scripts.

-- The line has the words of a line with this meaning. A line of the head that isn't the number of
-- seats has the words that it has in a recorder's script.
abbrev pub MeansLine : List ℕ → RunLine → Type 0
MeansLine line said = IsLineWith line (run_fields said)

-- the scripts of a run
abbrev pub of_run : Language RunLine RunPlan
of_run = record { fields = run_fields; lines_of = lines_of_run; IsScript = IsRunPlan }

-- `lines` are the lines of the run's script `plan` (`AreLines`)
abbrev pub AreRunLines : List (List ℕ) → RunPlan → Type 0
AreRunLines lines plan = AreLines of_run lines plan

-- the text is a text of the script `plan`
abbrev pub IsRunText : List ℕ → RunPlan → Type 0
IsRunText text plan = AreRunLines (lines_of text) plan

-- The canonical text of a run's script.

-- the canonical line with this meaning
abbrev pub run_line_text : RunLine → List ℕ
run_line_text said = fields_text (run_fields said)

-- the meaning of the line of the number of seats
abbrev pub seats_line : ℕ → RunLine
seats_line count = run_lines.Seats count

-- the meaning of the line of a seat's call
abbrev pub call_line : SeatCall → RunLine
call_line said = run_lines.Body said

-- the canonical line with this meaning, and a line feed
abbrev pub ended_run_line : RunLine → List ℕ
ended_run_line said = run_line_text said ++ 10 ∷ []

-- the canonical text of a run's script: the canonical line of each of its lines, with a line feed
abbrev pub run_text : RunPlan → List ℕ
run_text plan = flat_map ended_run_line (lines_of_run plan)
