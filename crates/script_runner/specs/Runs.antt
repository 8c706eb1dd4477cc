-- What the lines of a script do together.
use Rattle.std.specs.Prelude.{◌≡◌, false, None, ◌+◌, ℕ, List, [], ◌∷◌, Some, slice_get, ◌++◌}
use Rattle.std.specs.Prelude.{Option, length}
use Rattle.std.specs.Io.KnownBytes.{Appends}
use Rattle.refusals.specs.declared.refusal.Refusal.{Refusal}
use Rattle.refusals.specs.declared.run_error.RunError.{RunError}
use Rattle.refusals.specs.declared.run_error.RunError.TheVariants.{Refused}
use Rattle.refusals.specs.Errors.{IsFileError}
use Rattle.bio.specs.declared.event.CoreEvent.TheVariants as core_events
use Rattle.bio.specs.declared.request.Bio.{Bio}
use Rattle.bio.specs.Events.{has_no_close}
use Rattle.blockdev.specs.declared.device.BlockDev.{Ghosts}
use Rattle.blockdev.specs.declared.message.MessageError.{MessageError}
use Rattle.blockdev.specs.Messages.{message_refusal}
use Rattle.recorder.specs.Calls.{Closes, core_of}
use Rattle.recorder.specs.declared.recorder.Recorder.{Recorder}
use Rattle.recorder.specs.declared.reply.Reply.TheVariants as replies
use Rattle.recorder.specs.RecorderView.{listed_entries}
use Rattle.dmlw_script.specs.declared.command.Command.{Command}
use Rattle.dmlw_script.specs.declared.command.Command.TheVariants as commands
use Rattle.dmlw_script.specs.declared.command.Step.TheVariants as steps
use Rattle.dmlw_script.specs.declared.command.Submission.{Submission}
use Rattle.dmlw_script.specs.declared.command.DiskName.{DiskName}
use Rattle.dmlw_script.specs.declared.script_id.ScriptId.{ScriptId}
use Rattle.dmlw_script.specs.Words.{command_line}
use Rattle.dmlw_script.specs.Plans.{head_count, ScriptValue}
use Rattle.script_runner.specs.declared.request.Request.{Request}
use Rattle.script_runner.specs.declared.request.Request.TheVariants as requests
use Rattle.script_runner.specs.declared.running.Running.{Running}
use Rattle.script_runner.specs.Lines.{Answering, RefusesMessage, RunsLine}
use Rattle.script_runner.specs.Submissions.{bio_of}

-- Steps, one for each element of a list, lead from the state `old` to the state `new`. `text` is
-- all that they print.
abbrev pub StepsLead : {C S : Type 0} → (C → List ℕ → S → S → Type 0) → List C → List ℕ → S → S → Type 0
StepsLead Step [] text old new = (text ≡ []) × (new ≡ old)
StepsLead {S = S} Step (c ∷ cs) text old new =
    (mid : S) × (first : List ℕ) × (rest : List ℕ) × (text ≡ first ++ rest) × Step c first old mid
    × StepsLead Step cs rest mid new

-- The lines `body` are run, and print `text`.
abbrev pub RunsLines : {D L : Type 0} {d : Ghosts D} {l : Ghosts L} → Answering D L → List ScriptId
    → List Command → List ℕ → Running D L d l → Running D L d l → Type 0
RunsLines m names body text old new = StepsLead (RunsLine m names) body text old new

-- The lines `body` are run, and the output gets what they print.
abbrev pub PrintsLines : {D L : Type 0} {d : Ghosts D} {l : Ghosts L} → Answering D L
    → List ScriptId → List Command → Option (List ℕ) → Option (List ℕ) → Running D L d l
    → Running D L d l → Type 0
PrintsLines m names body before after old new =
    (text : List ℕ) × RunsLines m names body text old new × Appends before after text

-- The command at index `place` is a close, and the recorder refuses it. `text` is what the lines
-- before it print.
pub record RefusesClose {D L : Type 0} {d : Ghosts D} {l : Ghosts L} (m : Answering D L)
    (plan : ScriptValue) (place : ℕ) (refusal : Refusal) (text : List ℕ)
    (old : Running D L d l) : Type 0 where
  pub before : List Command
  pub rest : List Command
  pub split : plan.commands ≡ before ++ commands.Step steps.Close ∷ rest
  pub place_is : place ≡ length before
  pub mid : Running D L d l
  pub last : Recorder L l
  pub ran : RunsLines m plan.names before text old mid
  pub refused : Closes (replies.Refused refusal) mid.recorder last

-- The command at index `place` is a message, and the device refuses it. `text` is what the lines
-- before it print.
pub record RefusesLine {D L : Type 0} {d : Ghosts D} {l : Ghosts L} (m : Answering D L)
    (plan : ScriptValue) (place : ℕ) (error : MessageError) (text : List ℕ)
    (old : Running D L d l) : Type 0 where
  pub before : List Command
  pub rest : List Command
  pub over : DiskName
  pub layer : ℕ
  pub asked : List ℕ
  pub split : plan.commands ≡ before ++ commands.Step (steps.Message over layer asked) ∷ rest
  pub place_is : place ≡ length before
  pub mid : Running D L d l
  pub ran : RunsLines m plan.names before text old mid
  pub refused : RefusesMessage m over layer asked error mid

-- Why a run of `plan` ends before its last line; `plan` was parsed from `text`.
-- - `close`, `message`: a line is refused. Only what the lines before it print was printed.
-- - `file`: the output can't be written, or memory ran out.
pub data EndsRun {D L : Type 0} {d : Ghosts D} {l : Ghosts L} (m : Answering D L) (text : List ℕ)
    (plan : ScriptValue) (before after : Option (List ℕ)) (old : Running D L d l) : RunError
    → Type 0 where
  close : (place : ℕ) (refusal : Refusal) (printed : List ℕ)
      → RefusesClose m plan place refusal printed old → Appends before after printed
      → EndsRun m text plan before after old
      (Refused (record { line = command_line text (head_count plan + place); refusal = refusal }))
  message : (place : ℕ) (error : MessageError) (printed : List ℕ)
      → RefusesLine m plan place error printed old → Appends before after printed
      → EndsRun m text plan before after old
      (Refused (record {
        line = command_line text (head_count plan + place);
        refusal = message_refusal error;
      }))
  file : (fault : RunError) → IsFileError fault → EndsRun m text plan before after old fault

-- Which events of the recorder belong to the requests of a script's run.

-- If the recorder tracks a request by an id, the event at this id is the request's Submit.
abbrev pub TrackedAreRecorded : {D L : Type 0} {d : Ghosts D} {l : Ghosts L} → Running D L d l → Type 0
TrackedAreRecorded run =
    (place : ℕ) (bio : Bio) (id : ℕ)
    → slice_get run.requests.items place ≡ Some (requests.Asked bio (Some id))
    → slice_get (core_of run.recorder).events id ≡ Some (core_events.Submit bio)

-- If the request was submitted, it is the request of this submission.
abbrev pub IsRequestOf : Submission → Request → Type 0
IsRequestOf submission (requests.Asked bio id) = bio ≡ bio_of submission
IsRequestOf submission requests.NotAsked = Unit {0}

-- The submissions of the lines, in their order.
abbrev pub submissions_of : List Command → List Submission
submissions_of [] = []
submissions_of (commands.Submit submission ∷ body) = submission ∷ submissions_of body
submissions_of (commands.Complete request ∷ body) = submissions_of body
submissions_of (commands.Step step ∷ body) = submissions_of body

-- When the log of a script's run is complete.

-- If recording is closed and logging hasn't ended, the store has placed the whole completion list.
abbrev pub LogIsWritten : {L : Type 0} {l : Ghosts L} → Recorder L l → Type 0
LogIsWritten recorder =
    has_no_close (core_of recorder).events ≡ false → recorder.end ≡ None
    → recorder.store.placed ≡ length (listed_entries (core_of recorder))
