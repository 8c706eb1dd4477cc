-- The result of `record` and `run`, which take two kinds of script.
use Rattle.std.specs.Prelude.{if◌then◌else◌, Option, Some, codes, ◌≡◌, ℕ, suc, Bool, ◌&&◌, List, []}
use Rattle.std.specs.Prelude.{◌∷◌, ◌++◌, decimal, nat_eq}
use Rattle.std.specs.Io.KnownBytes.{Appends, Keeps}
use Rattle.refusals.specs.declared.refusal.Refusal.{Refusal}
use Rattle.refusals.specs.declared.run_error.RunError.{RunError}
use Rattle.refusals.specs.declared.run_error.RunError.TheVariants.{Refused}
use Rattle.refusals.specs.Errors.{IsFileError}
use Rattle.bio.specs.declared.outcome.Status.{Status}
use Rattle.bio.specs.Refusals.{status_text}
use Rattle.dmlw_script.specs.FirstFault.{IsFirstFault}
use Rattle.dmlw_script.specs.Grammar.{IsRunText, IsTextOf}
use Rattle.dmlw_script.specs.Words.{lines_of}
use Rattle.dmlw_script.specs.Plans.{ScriptValue}
use Rattle.dmlw_script.specs.RunFirstFault.{IsFirstRunFault}
use Rattle.dmlw_script.specs.RunPlans.{RunPlan}
use Rattle.script_runner.specs.declared.recording.Lies.{Lies}
use Rattle.script_runner.specs.declared.tally.Tally.{Tally}
use Rattle.script_runner.specs.DiskRun.{FailsOnDisks, IsRecorded}
use Rattle.script_runner.specs.SeatRuns.{FailsRun, RunsSeats}
use Rattle.dmlw_files.specs.Files.{MatchesContents}
use Rattle.dmlw_commands.specs.Makings.{MakesImage, Making}
use Rattle.dmlw_commands.specs.Seen.{Effect}

-- The line that prints a log's status.
abbrev pub status_line : Status → List ℕ
status_line status = status_text status ++ codes "\n"

-- No layer has lied.
abbrev pub is_honest : Lies → Bool
is_honest lies = nat_eq lies.data_disk 0 && nat_eq lies.log_disk 0

-- The line that counts lies: those of the data disk's layers, then those of the log disk's. Empty
-- if no layer has lied.
abbrev pub lies_line : Lies → List ℕ
lies_line lies =
    if is_honest lies then [] else codes "lies "
    ++ (decimal lies.data_disk ++ (codes " " ++ (decimal lies.log_disk ++ codes "\n")))

-- What is printed at the end of a recording.
abbrev pub end_lines : Status → Lies → List ℕ
end_lines status lies = status_line status ++ lies_line lies

-- A kind of script.
-- - `spells`: this text is that of this script.
-- - `is_first_fault`: the line with this number is the first faulty one of these lines, and has
--   this refusal.
-- - `runs`: a run of this script prints these lines. Its log has this status, and this image of the
--   log's disk.
-- - `fails`: a run of the script with this text fails with the fault, the last argument. The others
--   are the output before and after.
pub record ScriptKind (S : Type 0) : Type 1 where
  pub spells : List ℕ → S → Type 0
  pub is_first_fault : List (List ℕ) → ℕ → Refusal → Type 0
  pub runs : S → List ℕ → Status → List ℕ → Type 0
  pub fails : List ℕ → S → Option (List ℕ) → Option (List ℕ) → RunError → Type 0

-- The script in the file was run. It printed `lines`, its log has `status`, and `image` is the
-- image of the log's disk.
pub record IsLogged {S : Type 0} (kind : ScriptKind S) (contents : Option (List ℕ)) (status : Status)
    (lines image : List ℕ) : Type 0 where
  pub text : List ℕ
  pub script : S
  pub read : MatchesContents contents text
  pub spelled : kind.spells text script
  pub ran : kind.runs script lines status image

-- The script in the file was run, with `status` and `image`, and its lines were printed.
abbrev pub PrintsLog : {S : Type 0} → ScriptKind S → Option (List ℕ) → Status → List ℕ → Option (List ℕ)
    → Option (List ℕ) → Type 0
PrintsLog kind contents status image before after =
    (lines : List ℕ) × IsLogged kind contents status lines image × Appends before after lines

-- The text isn't a script of this kind.
abbrev pub IsNoScript : {S : Type 0} → ScriptKind S → List ℕ → Type 0
IsNoScript {S = S} kind text = (script : S) → kind.spells text script → ⊥

-- Why recording the script in a file fails.
-- - `file`: a file or the output can't be used, or memory ran out.
-- - `text`: the file isn't a script. The fault names its first faulty line, and nothing is printed.
-- - `run`: the script's run failed.
pub data FailsRecording {S : Type 0} (kind : ScriptKind S) (contents before after : Option (List ℕ))
    : RunError → Type 0 where
  file : (fault : RunError) → IsFileError fault → FailsRecording kind contents before after fault
  text : (bytes : List ℕ) (line : ℕ) (refusal : Refusal) → MatchesContents contents bytes
      → IsNoScript kind bytes → kind.is_first_fault (lines_of bytes) line refusal
      → Keeps before after
      → FailsRecording kind contents before after
      (Refused (record { line = Some line; refusal = refusal }))
  run : (bytes : List ℕ) (script : S) (fault : RunError) → MatchesContents contents bytes
      → kind.spells bytes script → kind.fails bytes script before after fault
      → FailsRecording kind contents before after fault

-- What recording the script in a file makes: the image of the log's disk.
abbrev pub recording : {S : Type 0} → ScriptKind S → Option (List ℕ) → Making Status
recording kind contents =
    record { makes = IsLogged kind contents; fails = FailsRecording kind contents }

-- What `record` and `run` do: they record the script in the file `script`. The file `log` gets the
-- image of the log's disk.
abbrev pub RecordsScript : {S : Type 0} → ScriptKind S → List ℕ → List ℕ → Effect Status
RecordsScript kind script log = MakesImage (λ files. recording kind (files script)) script log

-- `script` was recorded: its log has `status`, and `image` is the image of the log's disk. `lines`
-- are the output of the script's lines, then the lines at the end.
pub record IsRecordedBy (script : ScriptValue) (lines : List ℕ) (status : Status)
    (image : List ℕ) : Type 0 where
  pub ran : List ℕ
  pub lies : Lies
  pub recorded : IsRecorded script ran status lies image
  pub output : lines ≡ ran ++ end_lines status lies

-- The kind of script that `record` takes.
abbrev pub of_recorder : ScriptKind ScriptValue
of_recorder = record {
  spells = IsTextOf;
  is_first_fault = IsFirstFault;
  runs = IsRecordedBy;
  fails = FailsOnDisks;
}

-- The result of `run`, which runs a script of several seats.

-- The line of seat `number`, with the counts of its calls' results.
abbrev pub seat_line : ℕ → Tally → List ℕ
seat_line number tally =
    codes "seat " ++ (decimal number
    ++ (codes ": " ++ (decimal tally.done
    ++ (codes " done " ++ (decimal tally.logged ++ (codes " logged "
    ++ (decimal tally.failed
    ++ (codes " failed " ++ (decimal tally.not_logged ++ (codes " not logged "
    ++ (decimal tally.refused ++ codes " refused\n")))))))))))

-- The seats' lines in order; the first seat is `number`.
abbrev pub seat_lines : ℕ → List Tally → List ℕ
seat_lines number [] = []
seat_lines number (tally ∷ tallies) = seat_line number tally ++ seat_lines (suc number) tallies

-- What `run` prints: a line for each seat, then the lines at the end of a recording.
abbrev pub run_lines : List Tally → Status → Lies → List ℕ
run_lines tallies status lies = seat_lines 0 tallies ++ end_lines status lies

-- The seats of `script` were run. The log has `status`, and `image` is the log's disk. `lines` is
-- what `run` prints.
pub record IsRunBySeats (script : RunPlan) (lines : List ℕ) (status : Status)
    (image : List ℕ) : Type 0 where
  pub tallies : List Tally
  pub lies : Lies
  pub ran : RunsSeats script tallies status lies image
  pub output : lines ≡ run_lines tallies status lies

-- The kind of script that `run` takes. If a run fails, nothing is printed.
abbrev pub of_seats : ScriptKind RunPlan
of_seats = record {
  spells = IsRunText;
  is_first_fault = IsFirstRunFault;
  runs = IsRunBySeats;
  fails = λ script_text script before after fault. FailsRun script fault × Keeps before after;
}
