-- What the reader of a recorder's script does with each line, step by step. `Grammar` and
-- `FirstFault` say what the results are, by the grammar.
use Rattle.std.specs.Prelude.{None, Result, Ok, Err, nat_le, nat_lt, if◌then◌else◌, ◌≡◌, ℕ, ◌&&◌}
use Rattle.std.specs.Prelude.{◌+◌, Bool, true, false, not, List, [], ◌∷◌, ◌++◌, Option, Some}
use Rattle.refusals.specs.declared.run_error.Fault.{Fault}
use Rattle.refusals.specs.declared.refusal.Refusal.{Refusal}
use Rattle.refusals.specs.declared.refusal.Refusal.TheVariants.{BadLine, Memory}
use Rattle.bio.specs.Requests.{bytes_of}
use Rattle.dmlw_script.specs.declared.command.Command.{Command}
use Rattle.dmlw_script.specs.declared.line.BodyLine.{BodyLine}
use Rattle.dmlw_script.specs.declared.line.HeadLine.{HeadLine}
use Rattle.dmlw_script.specs.declared.line_error.LineError.{LineError}
use Rattle.dmlw_script.specs.declared.line_error.LineError.TheVariants as line_errors
use Rattle.dmlw_script.specs.declared.reader.ScriptReader.{ScriptReader}
use Rattle.dmlw_script.specs.declared.run_line.RunLine.{RunLine}
use Rattle.dmlw_script.specs.declared.run_line.RunLine.TheVariants as run_lines
use Rattle.dmlw_script.specs.declared.run_reader.RunReader.{RunReader}
use Rattle.dmlw_script.specs.declared.run_line.SeatCall.{SeatCall}
use Rattle.dmlw_script.specs.inside.Drafts.{◌>>=◌, as_refusal, Body, body_of, body_step, IsDraft}
use Rattle.dmlw_script.specs.inside.Heads.{head_step, stage_of}
use Rattle.dmlw_script.specs.inside.LineParser.{parse_line, parse_run_line}
use Rattle.dmlw_script.specs.inside.Stages.{Stage}
use Rattle.dmlw_script.specs.inside.Stages as heads
use Rattle.dmlw_script.specs.LineMeaning.{LineMeaning}
use Rattle.dmlw_script.specs.LineMeaning as parsed_lines
use Rattle.dmlw_script.specs.Words.{is_ascii_line, is_skipped, lines_of}
use Rattle.dmlw_script.specs.Plans.{top_of, ScriptValue}
use Rattle.dmlw_script.specs.RunPlans.{call_answer, RunPlan}

-- a script, as far as it was read
pub record Progress : Type 0 where
  pub head : Stage
  pub body : Body

-- the part of a script that the reader `r` has read
abbrev pub progress_of : ScriptReader → Progress
progress_of r = record { head = stage_of r.picks.items r.head; body = body_of r.draft }

-- the body that the reader has read satisfies `IsDraft`
abbrev pub IsReader : ScriptReader → Type 0
IsReader r = IsDraft r.draft

-- whether the body has begun: it has at least one command
abbrev pub has_begun : List Command → Bool
has_begun [] = false
has_begun (command ∷ body) = true

-- `p` with the head that `read` gives, or the refusal of `read`
abbrev pub with_head : Progress → Result Stage Refusal → Result Progress Refusal
with_head p read = read >>= λ head. Ok (record p { head = head })

-- `p` with the body that `read` gives, or the refusal of `read`
abbrev pub with_body : Progress → Result Body Refusal → Result Progress Refusal
with_body p read = read >>= λ body. Ok (record p { body = body })

-- `p` after one more line of the body; the lines of both disks must be before it, and no crash
abbrev pub body_line : Stage → Progress → BodyLine → Result Progress Refusal
body_line (heads.Whole data_disk log_disk log_size) p line =
    with_body p (body_step (bytes_of log_size) (top_of data_disk) p.body line)
body_line _ p line = Err BadLine

-- `p` after a crash; the lines of both disks must be before it, and no crash
abbrev pub crash_line : Stage → Progress → List ℕ → Result Progress Refusal
crash_line (heads.Whole data_disk log_disk log_size) p picks =
    Ok (record p { head = heads.Ended data_disk log_disk log_size picks })
crash_line _ p picks = Err BadLine

-- The refusal is `BadLine`. The head of `p` isn't whole, so no line of the body and no crash follows.
pub record IsEarly (p : Progress) (refusal : Refusal) : Type 0 where
  pub bad_line : refusal ≡ BadLine
  pub no_body : (line : BodyLine) → body_line p.head p line ≡ Err BadLine
  pub no_crash : (picks : List ℕ) → crash_line p.head p picks ≡ Err BadLine

-- `p` after one more line with this meaning
abbrev pub parsed_step : Progress → LineMeaning → Result Progress Refusal
parsed_step p (parsed_lines.Head line) = with_head p (head_step p.head (has_begun p.body.body) line)
parsed_step p (parsed_lines.Body line) = body_line p.head p line
parsed_step p (parsed_lines.Crash picks) = crash_line p.head p picks

-- the state after one more line, if the line has a meaning; otherwise `BadLine`
abbrev pub step_if : {S W : Type 0} → (S → W → Result S Refusal) → S → Option W → Result S Refusal
step_if step s None = Err BadLine
step_if step s (Some said) = step s said

-- The state `s` after one more line. The line must be ASCII without zero bytes. If it is not
-- skipped, `parse` gives its meaning, and `step` the next state.
abbrev pub line_by : {S W : Type 0} → (List ℕ → Option W) → (S → W → Result S Refusal) → S → List ℕ
    → Result S Refusal
line_by parse step s line =
    if not (is_ascii_line line) then Err BadLine
    else if is_skipped line then Ok s
    else step_if step s (parse line)

-- `p` after one more line of a recorder's script that isn't skipped; `said` is its meaning, if it
-- has one
abbrev pub step_if_parsed : Progress → Option LineMeaning → Result Progress Refusal
step_if_parsed p said = step_if parsed_step p said

-- `p` after one more line of a recorder's script
abbrev pub line_step : Progress → List ℕ → Result Progress Refusal
line_step p line = line_by parse_line parsed_step p line

-- the script, if the text ends after this head and this body; the lines of both disks must be there
abbrev pub finished : Stage → Body → Result ScriptValue Refusal
finished (heads.Whole data_disk log_disk log_size) body =
    Ok (record {
      data_disk = data_disk;
      log_disk = log_disk;
      log_size = log_size;
      names = body.names;
      commands = body.body;
      ending = None;
    })
finished (heads.Ended data_disk log_disk log_size picks) body =
    Ok (record {
      data_disk = data_disk;
      log_disk = log_disk;
      log_size = log_size;
      names = body.names;
      commands = body.body;
      ending = Some picks;
    })
finished _ body = Err BadLine

-- the script, if the text ends after `p`
abbrev pub finish_step : Progress → Result ScriptValue Refusal
finish_step p = finished p.head p.body

-- the result, in which a refusal names the line `number`
abbrev pub at_line : {A : Type 0} → ℕ → Result A Refusal → Result A Fault
at_line number (Ok x) = Ok x
at_line number (Err refusal) = Err (record { line = Some number; refusal = refusal })

-- applies `f` to the value, unless there is a fault
abbrev pub and_then : {A B : Type 0} → Result A Fault → (A → Result B Fault) → Result B Fault
and_then (Ok x) f = f x
and_then (Err fault) f = Err fault

-- The result of reading `lines` from the state `s` on: `step` for each line, then `finish` at the
-- end of the text. `number` is the number of the first line. A refusal of `finish` names the line
-- after the last.
abbrev pub read_by : {S A : Type 0} → (S → List ℕ → Result S Refusal) → (S → Result A Refusal) → S
    → ℕ → List (List ℕ) → Result A Fault
read_by step finish s number [] = at_line number (finish s)
read_by step finish s number (line ∷ lines) =
    and_then (at_line number (step s line)) (λ t. read_by step finish t (number + 1) lines)

-- the result of reading `lines` after `p`; `number` is the number of the first line
abbrev pub read_lines : Progress → ℕ → List (List ℕ) → Result ScriptValue Fault
read_lines p number lines = read_by line_step finish_step p number lines

-- the state in which nothing was read
abbrev pub unread : Progress
unread = record { head = heads.Empty; body = record { names = []; body = [] } }

-- the result of reading a text
abbrev pub read_text : List ℕ → Result ScriptValue Fault
read_text text = read_lines unread 1 (lines_of text)

-- A fault that names a line is the result `read`. A fault that names no line reports that memory
-- ran out.
abbrev pub IsFault : {A : Type 0} → Option ℕ → Fault → Result A Fault → Type 0
IsFault (Some line) fault read = read ≡ Err fault
IsFault None fault read = fault.refusal ≡ Memory

-- The first result, that of a reader, is `read`, unless memory ran out.
abbrev pub ReadsLine : {A : Type 0} → Result A Fault → Result A Fault → Type 0
ReadsLine (Ok script) read = read ≡ Ok script
ReadsLine (Err fault) read = IsFault fault.line fault read

-- The first result, that of a reader at the end of a text, is `step`, unless memory ran out.
abbrev pub FinishesReading : {A : Type 0} → Result A LineError → Result A Refusal → Type 0
FinishesReading (Ok script) step = step ≡ Ok script
FinishesReading (Err (line_errors.Refused refusal)) step = step ≡ Err refusal
FinishesReading (Err line_errors.Memory) step = Unit {0}

-- the fault that reports an error at the line `line`; out of memory names no line
abbrev pub fault_of : ℕ → LineError → Fault
fault_of line (line_errors.Refused refusal) = record { line = Some line; refusal = refusal }
fault_of line line_errors.Memory = record { line = None; refusal = Memory }

-- Reading picks failed with this error. Either it is `BadLine`, and the words have no picks (`read`
-- is None). Or memory ran out.
abbrev pub HasNoPicks : LineError → Option (List ℕ) → Type 0
HasNoPicks (line_errors.Refused refusal) read = (refusal ≡ BadLine) × (read ≡ None)
HasNoPicks line_errors.Memory read = Unit {0}

-- What the reader of a run's script does with each line, step by step. `Grammar` and
-- `RunFirstFault` say what the results are, by the grammar.

-- A run's script, as far as it was read. `seats` is None until the line of the number of seats is
-- read. `calls` are the lines of the body.
pub record RunProgress : Type 0 where
  pub head : Stage
  pub seats : Option ℕ
  pub calls : List SeatCall

-- the part of a script that the reader `r` has read
abbrev pub run_progress : RunReader → RunProgress
run_progress r = record { head = stage_of [] r.head; seats = r.seats; calls = r.calls.items }

-- no layer may follow: the number of seats wasn't read yet, or the body has begun
abbrev pub is_closed : Option ℕ → List SeatCall → Bool
is_closed None calls = true
is_closed (Some seats) [] = false
is_closed (Some seats) (call ∷ calls) = true

-- `p` with the head that `read` gives, or the refusal of `read`
abbrev pub with_run_head : RunProgress → Result Stage Refusal → Result RunProgress Refusal
with_run_head p read = read >>= λ head. Ok (record p { head = head })

-- `p` after one more line of the head that isn't the number of seats
abbrev pub run_head_step : RunProgress → HeadLine → Result RunProgress Refusal
run_head_step p line = with_run_head p (head_step p.head (is_closed p.seats p.calls) line)

-- a script may have `count` seats: 1 to 64
abbrev pub is_seat_count : ℕ → Bool
is_seat_count count = nat_le 1 count && nat_le count 64

-- `p` after the line of the number of seats. The lines of both disks must be before it, no number
-- of seats, and the number must be 1 to 64.
abbrev pub seats_line : Stage → Option ℕ → RunProgress → ℕ → Result RunProgress Refusal
seats_line (heads.Whole data_disk log_disk log_size) None p count =
    if is_seat_count count then Ok (record p { seats = Some count }) else Err BadLine
seats_line _ _ p count = Err BadLine

-- `p` with one more line of the body, if the test of the sectors passed; otherwise the refusal of
-- the test
abbrev pub with_call : RunProgress → SeatCall → Result (Unit {0}) Refusal
    → Result RunProgress Refusal
with_call p line test = test >>= λ fine. Ok (record p { calls = p.calls ++ line ∷ [] })

-- `p` after one more line of the body. The lines of both disks and the number of seats must be
-- before it, and its seat must be below that number.
abbrev pub call_line : Stage → Option ℕ → RunProgress → SeatCall → Result RunProgress Refusal
call_line (heads.Whole data_disk log_disk log_size) (Some seats) p line =
    if nat_lt line.seat seats then with_call p line
    (as_refusal (call_answer (bytes_of log_size) (top_of data_disk) line.call)) else Err BadLine
call_line _ _ p line = Err BadLine

-- `p` after one more line with this meaning
abbrev pub said_step : RunProgress → RunLine → Result RunProgress Refusal
said_step p (run_lines.Head line) = run_head_step p line
said_step p (run_lines.Seats count) = seats_line p.head p.seats p count
said_step p (run_lines.Body line) = call_line p.head p.seats p line

-- `p` after one more line
abbrev pub run_line_step : RunProgress → List ℕ → Result RunProgress Refusal
run_line_step p line = line_by parse_run_line said_step p line

-- the script, if the text ends here; the lines of both disks and of the number of seats must be
-- there
abbrev pub finished_run : Stage → Option ℕ → List SeatCall → Result RunPlan Refusal
finished_run (heads.Whole data_disk log_disk log_size) (Some seats) calls =
    Ok (record {
      data_disk = data_disk;
      log_disk = log_disk;
      log_size = log_size;
      seats = seats;
      calls = calls;
    })
finished_run _ _ calls = Err BadLine

-- the script, if the text ends after `p`
abbrev pub run_finish_step : RunProgress → Result RunPlan Refusal
run_finish_step p = finished_run p.head p.seats p.calls

-- the state in which nothing was read
abbrev pub nothing_read : RunProgress
nothing_read = record { head = heads.Empty; seats = None; calls = [] }

-- the result of reading `lines` after `p`; `number` is the number of the first line
abbrev pub read_run_lines : RunProgress → ℕ → List (List ℕ) → Result RunPlan Fault
read_run_lines p number lines = read_by run_line_step run_finish_step p number lines

-- the result of reading a text
abbrev pub read_run_text : List ℕ → Result RunPlan Fault
read_run_text text = read_run_lines nothing_read 1 (lines_of text)
