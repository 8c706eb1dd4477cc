-- The definitions that only the proofs of `script_runner` use.
use Rattle.std.specs.Prelude.{Some, ◌≡◌, ◌<◌, ◌-◌, ◌^◌, length, slice_get, Ok, ℕ, Bool, false, List}
use Rattle.std.specs.Prelude.{[], ◌∷◌, ◌++◌, ◌⊎◌, Option}
use Rattle.std.specs.Io.KnownBytes.{Appends, Keeps}
use Rattle.refusals.specs.declared.refusal.Refusal.{Refusal}
use Rattle.refusals.specs.declared.refusal.Refusal.TheVariants as refusals
use Rattle.refusals.specs.declared.run_error.RunError.{RunError}
use Rattle.refusals.specs.Errors.{IsFileError}
use Rattle.bio.specs.Requests.{bytes_of}
use Rattle.blockdev.specs.declared.device.BlockDev.{Ghosts}
use Rattle.layer_table.specs.declared.stack.Stack.{Stack}
use Rattle.layer_table.specs.Layers.{on_stack}
use Rattle.recorder.specs.declared.recorder.Recorder.{Recorder}
use Rattle.recorder.specs.declared.reply.Reply.{Reply}
use Rattle.recorder.specs.declared.reply.Reply.TheVariants as replies
use Rattle.lock_state.specs.Comparison.{Receipt}
use Rattle.lock_state.specs.History.{Part, new_part}
use Rattle.shared.specs.Close.{HasOpenRequest}
use Rattle.dmlw_script.specs.declared.run_line.RunCall.{RunCall}
use Rattle.dmlw_script.specs.declared.run_line.SeatCall.{SeatCall}
use Rattle.dmlw_script.specs.Plans.{Disk, ScriptValue, top_of}
use Rattle.dmlw_script.specs.RunPlans.{call_answer, FitsLine, RunPlan}
use Rattle.script_runner.specs.declared.running.Running.{Running}
use Rattle.script_runner.specs.declared.tally.Outcome.{Outcome}
use Rattle.script_runner.specs.declared.tally.Tally.{Tally}
use Rattle.script_runner.specs.DiskRun.{IsNewOn, IsStackOf}
use Rattle.script_runner.specs.Lines.{Answering, had_memory, mark_failed}
use Rattle.script_runner.specs.Runs.{EndsRun, RunsLines}
use Rattle.script_runner.specs.SeatRuns.{CallResult, and_kept, no_calls, MakesCall, IsSeatRun}

-- What is printed for the recorder's reply to a mark. `Lines` says which replies are possible.

abbrev pub mark_printed : Reply → List ℕ
mark_printed (replies.Refused refusal) = mark_failed
mark_printed _ = []

-- What a line doesn't change, whether it succeeds or not.

-- A line changes neither the times of both devices, nor the data device's size, nor the number of
-- requests.
pub record StepKeeps {D L : Type 0} {d : Ghosts D} {l : Ghosts L}
    (old new : Running D L d l) : Type 0 where
  pub time : new.time ≡ old.time
  pub log_time : new.recorder.store.time ≡ old.recorder.store.time
  pub size : (d.shown new.disk).size ≡ (d.shown old.disk).size
  pub count : length new.requests.items ≡ length old.requests.items

-- What playing a script does, with any data device, and with a new log on any other device.

-- `run` is a script's run before its first line, at time 0, with the data device `disk`. Its new
-- log is on `log`, and has sectors of `bytes` bytes.
pub record StartsOn {D L : Type 0} {d : Ghosts D} {l : Ghosts L} (bytes : ℕ) (disk : D) (log : L)
    (run : Running D L d l) : Type 0 where
  pub disk_is : run.disk ≡ disk
  pub begun : IsNewOn bytes log run.recorder
  pub none : run.requests.items ≡ []
  pub time : run.time ≡ 0
  pub short : run.short ≡ false

-- `run` is a script's run before its first line, at time 0. Its data device is a stack as
-- `data_disk` asks. Its new log is on `log`, and has sectors of `bytes` bytes.
pub record StartsOnStack {L : Type 0} {l : Ghosts L} (bytes : ℕ) (data_disk : Disk) (log : L)
    (run : Running Stack L on_stack l) : Type 0 where
  pub stack : IsStackOf data_disk run.disk
  pub begun : IsNewOn bytes log run.recorder
  pub none : run.requests.items ≡ []
  pub time : run.time ≡ 0
  pub short : run.short ≡ false

-- The lines of `plan` ran, from a run for which `Start` holds, and the output got what they print.
-- The recorder is `recorder` after them. The data device dropped `lies` calls and reported them as
-- done. `ample` says whether memory sufficed.
pub record IsPlayed {D L : Type 0} {d : Ghosts D} {l : Ghosts L} (m : Answering D L)
    (plan : ScriptValue) (Start : Running D L d l → Type 0) (before after : Option (List ℕ))
    (recorder : Recorder L l) (lies : ℕ) (ample : Bool) : Type 0 where
  pub start : Running D L d l
  pub starts : Start start
  pub last : Running D L d l
  pub text : List ℕ
  pub ran : RunsLines m plan.names plan.commands text start last
  pub printed : Appends before after text
  pub left : recorder ≡ last.recorder
  pub lied : lies ≡ (d.shown last.disk).lies
  pub found : ample ≡ had_memory last

-- Why playing `plan` fails; `plan` was parsed from `text`.
-- - `file`: memory ran out, or the output can't be written.
-- - `unmade`: no log could be made, and nothing was printed.
-- - `run`: the run ends before its last line.
pub data FailsPlaying {D L : Type 0} {d : Ghosts D} {l : Ghosts L} (m : Answering D L)
    (text : List ℕ) (plan : ScriptValue) (Unmade : RunError → Type 0)
    (Start : Running D L d l → Type 0) (before after : Option (List ℕ)) : RunError → Type 0 where
  file : (fault : RunError) → IsFileError fault
      → FailsPlaying m text plan Unmade Start before after fault
  unmade : (fault : RunError) → Unmade fault → Keeps before after
      → FailsPlaying m text plan Unmade Start before after fault
  run : (start : Running D L d l) (fault : RunError) → Start start
      → EndsRun m text plan before after start fault
      → FailsPlaying m text plan Unmade Start before after fault

-- A seat that makes the calls of its lines, and how each line changes it.

-- What contracts see of a seat that makes calls: its number, its part, the counts of its outcomes
-- so far, and its receipts.
pub record PlayerView : Type 0 where
  pub number : ℕ
  pub part : Part
  pub tally : Tally
  pub receipts : List Receipt

-- A seat that hasn't made a call yet.
abbrev pub new_player : ℕ → PlayerView
new_player number =
    record { number = number; part = new_part number; tally = no_calls; receipts = [] }

-- The script suits a recorder whose data device has `sectors` sectors, and whose log has sectors of
-- `bytes` bytes.
pub record FitsRecorder (bytes sectors : ℕ) (plan : RunPlan) : Type 0 where
  pub log_size : bytes_of plan.log_size ≡ bytes
  pub data_size : top_of plan.data_disk ≡ sectors

-- `call` passes the check of such a recorder, and can be written in a line of a script.
pub record CanMake (bytes sectors : ℕ) (call : RunCall) : Type 0 where
  pub tested : call_answer bytes sectors call ≡ Ok tt
  pub spelled : FitsLine call

-- A seat makes `call`, with this outcome, and keeps the receipt if it got one. The tally doesn't
-- count the call yet.
pub record MakesSeatCall (call : RunCall) (old : PlayerView) (outcome : Outcome) (new : PlayerView) : Type 0 where
  pub came : CallResult
  pub made : MakesCall old.part call came new.part
  pub told : came.outcome ≡ outcome
  pub kept : new.receipts ≡ and_kept old.receipts came.receipt
  pub number : new.number ≡ old.number
  pub tally : new.tally ≡ old.tally

-- A seat goes over one line. If `old` has made the calls of the seat's lines in `before`, then
-- `new` has made those of the seat's lines in `before` and `line`. The call of `line` is made and
-- counted only if the line is the seat's own.
pub record DoesLine (line : SeatCall) (old new : PlayerView) : Type 0 where
  pub number : new.number ≡ old.number
  pub ran : (before : List SeatCall) → length before < 2 ^ 64 - 1
      → IsSeatRun before old.number old.part old.tally old.receipts
      → IsSeatRun (before ++ line ∷ []) old.number new.part new.tally new.receipts

-- A seat goes over these lines in order. If `old` is a new seat, `new` has made the calls of its
-- lines.
pub record DoesLines (lines : List SeatCall) (old new : PlayerView) : Type 0 where
  pub number : new.number ≡ old.number
  pub ran : (number : ℕ) → old ≡ new_player number
      → IsSeatRun lines number new.part new.tally new.receipts

-- `players` are `many` seats that haven't made a call yet, in the order of their numbers.
pub record AreNewPlayers (many : ℕ) (players : List PlayerView) : Type 0 where
  pub count : length players ≡ many
  pub each : (number : ℕ) (player : PlayerView) → slice_get players number ≡ Some player
      → player ≡ new_player number

-- `players` are `many` seats, and each made the calls of its lines.
pub record HavePlayed (lines : List SeatCall) (many : ℕ) (players : List PlayerView) : Type 0 where
  pub count : length players ≡ many
  pub each : (number : ℕ) (player : PlayerView) → slice_get players number ≡ Some player
      → IsSeatRun lines number player.part player.tally player.receipts

-- Why a run fails before the recorder is closed: memory ran out, the writer's thread can't be
-- started, or each seat made the calls of its lines and the recorder finds that a request is open.
abbrev pub IsUnplayed : ℕ → ℕ → List SeatCall → ℕ → Refusal → Type 0
IsUnplayed bytes sectors lines many refusal =
    (refusal ≡ refusals.Memory) ⊎ ((refusal ≡ refusals.NoThread)
    ⊎ ((refusal ≡ refusals.Busy) × (((players : List PlayerView) × HavePlayed lines many players)
    × HasOpenRequest bytes sectors)))
