-- What each line of a script does to the run, which is `old` before it and `new` after it, and what
-- the line prints.
-- What the lines of a script print.
-- What the data device does with a request that is passed to it.
use Rattle.std.specs.Prelude.{Bool, true, false, List, [], ◌∷◌, ◌++◌, codes, Option, None, Result}
use Rattle.std.specs.Prelude.{Ok, Err, is_ok, length, slice_get, ◌≡◌, ◌⊎◌, ℕ, ◌<◌, ◌*◌}
use Rattle.std.specs.Prelude.{slice_index_or, decimal, ◌||◌, ◌&&◌, not, if◌then◌else◌, Some}
use Rattle.std.specs.Io.KnownBytes.{Appends, Keeps}
use Rattle.std.specs.List.{list_all}
use Rattle.refusals.specs.declared.run_error.End.{End}
use Rattle.refusals.specs.declared.run_error.End.TheVariants as ends
use Rattle.refusals.specs.declared.refusal.Refusal.{Refusal}
use Rattle.refusals.specs.declared.refusal.Refusal.TheVariants as refusals
use Rattle.refusals.specs.Errors.{IsFileError}
use Rattle.bio.specs.declared.outcome.DevError.{DevError}
use Rattle.bio.specs.declared.outcome.DevError.TheVariants as errors
use Rattle.bio.specs.declared.request.Bio.{Bio}
use Rattle.bio.specs.declared.request.Bio.TheVariants as bios
use Rattle.bio.specs.Places.{collect}
use Rattle.bio.specs.Requests.{has_data}
use Rattle.blockdev.specs.View.{Call, Discards, Flushes, Writes, Reads}
use Rattle.blockdev.specs.declared.device.BlockDev.{Ghosts}
use Rattle.blockdev.specs.declared.message.MessageError.{MessageError}
use Rattle.blockdev.specs.Messages.{message_refusal, Unchanged}
use Rattle.log_store.specs.Calls.{Same}
use Rattle.recorder.specs.Calls.{Completes, Drains, Marks, SubmitsRequest, last_turn, core_of}
use Rattle.recorder.specs.Calls.{recorder_view, Turns, Closes}
use Rattle.recorder.specs.declared.recorder.Recorder.{Recorder}
use Rattle.recorder.specs.declared.reply.Reply.{Reply}
use Rattle.recorder.specs.declared.reply.Reply.TheVariants as replies
use Rattle.recorder.specs.declared.reply.Turn.{Turn}
use Rattle.recorder.specs.declared.reply.Turn.TheVariants as turns
use Rattle.recorder.specs.Growth.{RecorderFrame}
use Rattle.dmlw_script.specs.declared.command.Command.{Command}
use Rattle.dmlw_script.specs.declared.command.Command.TheVariants as commands
use Rattle.dmlw_script.specs.declared.command.Step.{Step}
use Rattle.dmlw_script.specs.declared.command.Step.TheVariants as steps
use Rattle.dmlw_script.specs.declared.command.DiskName.{DiskName}
use Rattle.dmlw_script.specs.declared.command.DiskName.TheVariants as disks
use Rattle.dmlw_script.specs.declared.script_id.ScriptId.{ScriptId}
use Rattle.dmlw_script.specs.Plans.{HasLineText, is_submission, name_at, step_answer}
use Rattle.dmlw_script.specs.Plans.{submission_answer, time_at}
use Rattle.dmlw_script.specs.Words.{byte_text, letters_of}
use Rattle.script_runner.specs.declared.request.Request.{Request}
use Rattle.script_runner.specs.declared.request.Request.TheVariants as requests
use Rattle.script_runner.specs.declared.running.Running.{Running}
use Rattle.script_runner.specs.declared.step_error.StepError.{StepError}
use Rattle.script_runner.specs.declared.step_error.StepError.TheVariants.{AtLine, Whole}
use Rattle.script_runner.specs.Submissions.{bio_of, is_asked}

-- `does old call now answer new`: if a device in the state `old` gets `call` at the time `now`, it
-- can answer `answer` and change to the state `new`.
abbrev pub Deeds : Type 0 → Type 1
Deeds D = D → Call → ℕ → Result ℕ DevError → D → Type 0

-- The device flushes. If the flush succeeds, the device then does `call`. `answer` is the answer to
-- the last of these calls.
abbrev pub FlushesFirst : {D : Type 0} → Deeds D → ℕ → Call → Result ℕ DevError → D → D → Type 0
FlushesFirst {D} does now call answer old new =
    ((error : DevError) × (answer ≡ Err error) × does old Flushes now answer new)
    ⊎ ((mid : D) × (end : ℕ) × does old Flushes now (Ok end) mid × does mid call now answer new)

-- A request is passed to the device at the time `now`, and `answer` is its result. A write with
-- flush is passed as a flush, and then as a write if the flush succeeds. A read makes no call, and
-- its result is Ok.
abbrev pub PassesRequest : {D : Type 0} → Deeds D → ℕ → Bio → Result ℕ DevError → D → D → Type 0
PassesRequest does now (bios.Write first bytes true fua meta) answer old new =
    FlushesFirst does now (Writes first bytes fua) answer old new
PassesRequest does now (bios.Write first bytes false fua meta) answer old new =
    does old (Writes first bytes fua) now answer new
PassesRequest does now bios.Flush answer old new = does old Flushes now answer new
PassesRequest does now (bios.Discard first count) answer old new =
    does old (Discards first count) now answer new
PassesRequest does now (bios.Read first count) answer old new = (answer ≡ Ok now) × (new ≡ old)

-- `count` sectors from sector `first` on were read. Some has their bytes. None means that nothing
-- was read. Either memory for the bytes ran out, and the device wasn't called; or the device failed
-- the read.
abbrev pub ReadsSectors : {D : Type 0} → Deeds D → ℕ → ℕ → ℕ → Option (List ℕ) → D → D → Type 0
ReadsSectors does now first count (Some bytes) old new =
    (before : List ℕ) × (end : ℕ) × (length before ≡ count * 512)
    × does old (Reads first before bytes) now (Ok end) new
ReadsSectors does now first count None old new = (new ≡ old)
    ⊎ ((before after : List ℕ) × (error : DevError) × (length before ≡ count * 512)
    × does old (Reads first before after) now (Err error) new)

-- The word for a request's result: whether it succeeded.
abbrev pub outcome_word : Bool → List ℕ
outcome_word true = codes "ok"
outcome_word false = codes "failed"

-- The line that says how the request `name` ended.
abbrev pub outcome_line : ScriptId → Bool → List ℕ
outcome_line name ok = letters_of name ++ codes " " ++ outcome_word ok ++ codes "\n"

-- The first byte of each of `count` sectors, as two hexadecimal digits.
abbrev pub printed_bytes : ℕ → List ℕ → List ℕ
printed_bytes count bytes =
    collect (λ sector. byte_text (slice_index_or bytes (sector * 512) 0)) count

-- How the line of a read ends: `ok` and the first byte of each sector, or `failed` if nothing was
-- read.
abbrev pub read_outcome : ℕ → Option (List ℕ) → List ℕ
read_outcome count (Some bytes) = codes "ok " ++ printed_bytes count bytes
read_outcome count None = codes "failed"

-- The line that a read prints.
abbrev pub read_line : ℕ → ℕ → Option (List ℕ) → List ℕ
read_line first count bytes =
    codes "read " ++ decimal first ++ codes "+" ++ decimal count ++ codes " "
    ++ read_outcome count bytes ++ codes "\n"

-- The line that a mark prints if memory ran out for it.
abbrev pub mark_failed : List ℕ
mark_failed = codes "mark failed\n"

-- The recorder's reply to a submission that it doesn't refuse. With an id, it tracks the request by
-- this id. With None, it passes the request.
abbrev pub reply_of : Option ℕ → Reply
reply_of (Some id) = replies.Tracked id
reply_of None = replies.Passed

-- ---- memory

-- A run is `short` once memory ran out for what a line asks. There are two exceptions. If memory
-- runs out for a submission, its request is `NotAsked` instead. If memory runs out for a read, the
-- read prints that it failed.

-- The data device answered that its memory ran out.
abbrev pub is_out_of_memory : Result ℕ DevError → Bool
is_out_of_memory (Err errors.Memory) = true
is_out_of_memory _ = false

-- The turn reports that logging ended because memory ran out.
abbrev pub is_memory_end : Turn → Bool
is_memory_end (turns.Ended ends.Memory) = true
is_memory_end _ = false

-- The reply says that the recorder refused the event.
abbrev pub is_refusal : Reply → Bool
is_refusal (replies.Refused refusal) = true
is_refusal _ = false

-- Memory sufficed for everything that the lines asked, except perhaps for reads.
abbrev pub had_memory : {D L : Type 0} {d : Ghosts D} {l : Ghosts L} → Running D L d l → Bool
had_memory run = not run.short && list_all is_asked run.requests.items

-- ---- lines

-- `request` is what became of a submission of `bio`. If it is `Asked`, the recorder tracks `bio` by
-- an id or passes it. If it is `NotAsked`, memory ran out. This happened either for the bytes of
-- `bio`, and the recorder wasn't called, or in the recorder, which refused `bio`.
abbrev pub BecomesRequest : {L : Type 0} {l : Ghosts L} → Bio → Request → Recorder L l → Recorder L l → Type 0
BecomesRequest bio (requests.Asked kept id) old new = (kept ≡ bio) × SubmitsRequest bio (reply_of id) old new
BecomesRequest bio requests.NotAsked old new =
    ((has_data bio ≡ true) × (new ≡ old)) ⊎ SubmitsRequest bio (replies.Refused refusals.Memory) old new

-- What a submission prints: nothing, or that the request failed because memory ran out.
abbrev pub submission_text : ScriptId → Request → List ℕ
submission_text name (requests.Asked bio id) = []
submission_text name requests.NotAsked = outcome_line name false

-- A line submits the next request of the run. The data device isn't called.
pub record SubmitsNext {D L : Type 0} {d : Ghosts D} {l : Ghosts L} (names : List ScriptId)
    (bio : Bio) (text : List ℕ) (old new : Running D L d l) : Type 0 where
  pub device : new.disk ≡ old.disk
  pub request : Request
  pub asks : BecomesRequest bio request old.recorder new.recorder
  pub kept : new.requests.items ≡ old.requests.items ++ request ∷ []
  pub short : new.short ≡ old.short
  pub prints : text ≡ submission_text (name_at names (length old.requests.items)) request

-- If the recorder tracks a request by an id, the request's end is recorded. Otherwise nothing
-- happens.
abbrev pub RecordsEnd : {L : Type 0} {l : Ghosts L} → Option ℕ → Bool → Recorder L l → Recorder L l
    → Type 0
RecordsEnd (Some id) ok old new = (reply : Reply) × Completes id ok reply old new
RecordsEnd None ok old new = new ≡ old

-- A request that was submitted is passed to the data device. The result is recorded and printed.
-- The run gets short if the device's memory ran out.
pub record EndsSubmittedRequest {D L : Type 0} {d : Ghosts D} {l : Ghosts L} (bio : Bio) (id : Option ℕ)
    (name : ScriptId) (text : List ℕ) (old new : Running D L d l) : Type 0 where
  pub answer : Result ℕ DevError
  pub hands_over : PassesRequest d.does old.time bio answer old.disk new.disk
  pub hears : RecordsEnd id (is_ok answer) old.recorder new.recorder
  pub kept : new.requests.items ≡ old.requests.items
  pub short : new.short ≡ (old.short || is_out_of_memory answer)
  pub prints : text ≡ outcome_line name (is_ok answer)

-- A line doesn't change the data device or the list of requests, and prints nothing.
pub record ChangesNoData {D L : Type 0} {d : Ghosts D} {l : Ghosts L} (text : List ℕ)
    (old new : Running D L d l) : Type 0 where
  pub device : new.disk ≡ old.disk
  pub kept : new.requests.items ≡ old.requests.items
  pub prints : text ≡ []

-- A line ends a request. If memory ran out at the request's submission, the line does nothing and
-- prints nothing.
abbrev pub EndsRequest : {D L : Type 0} {d : Ghosts D} {l : Ghosts L} → Option Request → ScriptId
    → List ℕ → Running D L d l → Running D L d l → Type 0
EndsRequest (Some (requests.Asked bio id)) name text old new = EndsSubmittedRequest bio id name text old new
EndsRequest (Some requests.NotAsked) name text old new =
    ChangesNoData text old new × (new.recorder ≡ old.recorder) × (new.short ≡ old.short)
EndsRequest None name text old new = ⊥

-- A line closes recording. Then the writer takes turns until the log is complete or logging ends.
-- The run gets short if logging ended because memory ran out.
pub record EndsRecording {D L : Type 0} {d : Ghosts D} {l : Ghosts L} (text : List ℕ)
    (old new : Running D L d l) : Type 0 where
  pub keeps : ChangesNoData text old new
  pub closed : Recorder L l
  pub closes : Closes replies.Closed old.recorder closed
  pub answer : Result Unit End
  pub drains : Drains answer closed new.recorder
  pub short : new.short ≡ (old.short || is_memory_end (last_turn answer))

-- A line reads from the data device. The recorder isn't called. If memory for the read runs out,
-- the line prints that the read failed, and the run doesn't get short.
pub record PrintsData {D L : Type 0} {d : Ghosts D} {l : Ghosts L} (first count : ℕ) (text : List ℕ)
    (old new : Running D L d l) : Type 0 where
  pub log : new.recorder ≡ old.recorder
  pub kept : new.requests.items ≡ old.requests.items
  pub short : new.short ≡ old.short
  pub bytes : Option (List ℕ)
  pub reads : ReadsSectors d.does old.time first count bytes old.disk new.disk
  pub prints : text ≡ read_line first count bytes

-- A line gives the writer a turn. The run gets short if logging ends in this turn because memory
-- ran out.
pub record GivesTurn {D L : Type 0} {d : Ghosts D} {l : Ghosts L} (text : List ℕ)
    (old new : Running D L d l) : Type 0 where
  pub keeps : ChangesNoData text old new
  pub turn : Turn
  pub turns : Turns turn old.recorder new.recorder
  pub short : new.short ≡ (old.short || is_memory_end turn)

-- What the line of a mark prints, given the recorder's reply. If the mark is queued or passed, it
-- prints nothing. If the mark is refused, it prints `mark failed`. A mark is refused only because
-- memory ran out.
abbrev pub PrintsMark : Reply → List ℕ → Type 0
PrintsMark (replies.Queued id) printed = printed ≡ []
PrintsMark replies.Passed printed = printed ≡ []
PrintsMark (replies.Refused refusal) printed = (refusal ≡ refusals.Memory) × (printed ≡ mark_failed)
PrintsMark _ printed = ⊥

-- A line sets the time of the later calls of both devices. No event is recorded.
pub record SetsTime {D L : Type 0} {d : Ghosts D} {l : Ghosts L} (time : ℕ) (text : List ℕ)
    (old new : Running D L d l) : Type 0 where
  pub keeps : ChangesNoData text old new
  pub core : core_of new.recorder ≡ core_of old.recorder
  pub end : new.recorder.end ≡ old.recorder.end
  pub store : Same (recorder_view old.recorder).store (recorder_view new.recorder).store
  pub device : new.recorder.store.device ≡ old.recorder.store.device
  pub log_time : new.recorder.store.time ≡ time
  pub short : new.short ≡ old.short

-- A line passes a mark to the recorder. The data device isn't called. The recorder refuses the mark
-- only because memory ran out, and then the run gets short.
pub record RecordsMark {D L : Type 0} {d : Ghosts D} {l : Ghosts L} (mark text : List ℕ)
    (old new : Running D L d l) : Type 0 where
  pub device : new.disk ≡ old.disk
  pub kept : new.requests.items ≡ old.requests.items
  pub reply : Reply
  pub marks : Marks mark reply old.recorder new.recorder
  pub short : new.short ≡ (old.short || is_refusal reply)
  pub prints : PrintsMark reply text

-- How the two devices of a run answer messages. `old layer text answer new`: if a device in the
-- state `old` gets the message `text` for `layer`, it can answer `answer` and change to the state
-- `new`.
pub record Answering (D L : Type 0) : Type 1 where
  pub data_device : D → ℕ → List ℕ → Result (Unit {0}) MessageError → D → Type 0
  pub log_device : L → ℕ → List ℕ → Result (Unit {0}) MessageError → L → Type 0

-- Makes an `Answering` from the relations of the two devices.
abbrev pub answering : {D L : Type 0}
    → (D → ℕ → List ℕ → Result (Unit {0}) MessageError → D → Type 0)
    → (L → ℕ → List ℕ → Result (Unit {0}) MessageError → L → Type 0) → Answering D L
answering data_device log_device = record { data_device = data_device; log_device = log_device }

-- A line sends the message `asked` to a layer of the data device, and the layer accepts it. What
-- contracts see of the device doesn't change.
pub record SendsToData {D L : Type 0} {d : Ghosts D} {l : Ghosts L} (m : Answering D L) (layer : ℕ)
    (asked text : List ℕ) (old new : Running D L d l) : Type 0 where
  pub log : new.recorder ≡ old.recorder
  pub kept : new.requests.items ≡ old.requests.items
  pub short : new.short ≡ old.short
  pub takes : m.data_device old.disk layer asked (Ok tt) new.disk
  pub unchanged : Unchanged (d.shown old.disk) (d.shown new.disk)
  pub prints : text ≡ []

-- A line sends the message `asked` to a layer of the log's device, and the layer accepts it. What
-- contracts see of the device doesn't change, and neither do the recorder's core and its log.
pub record SendsToLog {D L : Type 0} {d : Ghosts D} {l : Ghosts L} (m : Answering D L) (layer : ℕ)
    (asked text : List ℕ) (old new : Running D L d l) : Type 0 where
  pub keeps : ChangesNoData text old new
  pub short : new.short ≡ old.short
  pub takes : m.log_device old.recorder.store.device layer asked (Ok tt) new.recorder.store.device
  pub unchanged : Unchanged (l.shown old.recorder.store.device) (l.shown new.recorder.store.device)
  pub core : core_of new.recorder ≡ core_of old.recorder
  pub end : new.recorder.end ≡ old.recorder.end
  pub store : Same (recorder_view old.recorder).store (recorder_view new.recorder).store
  pub log_time : new.recorder.store.time ≡ old.recorder.store.time

-- A line sends the message `asked` to a layer of a disk, and the layer accepts it.
abbrev pub SendsToLayer : {D L : Type 0} {d : Ghosts D} {l : Ghosts L} → Answering D L
    → DiskName → ℕ
    → List ℕ → List ℕ → Running D L d l → Running D L d l → Type 0
SendsToLayer m disks.Data layer asked text old new = SendsToData m layer asked text old new
SendsToLayer m disks.Log layer asked text old new = SendsToLog m layer asked text old new

-- A layer of a disk refuses the message `asked` with `error`.
abbrev pub RefusesMessage : {D L : Type 0} {d : Ghosts D} {l : Ghosts L} → Answering D L → DiskName
    → ℕ → List ℕ → MessageError → Running D L d l → Type 0
RefusesMessage {D} m disks.Data layer asked error old =
    (last : D) × m.data_device old.disk layer asked (Err error) last
RefusesMessage {L = L} m disks.Log layer asked error old =
    (last : L) × m.log_device old.recorder.store.device layer asked (Err error) last

-- What a line does that neither submits a request nor ends one.
abbrev pub TakesStep : {D L : Type 0} {d : Ghosts D} {l : Ghosts L} → Answering D L → Step → List ℕ
    → Running D L d l → Running D L d l → Type 0
TakesStep m steps.Close text old new = EndsRecording text old new
TakesStep m (steps.Read first count) text old new = PrintsData first count text old new
TakesStep m steps.Turn text old new = GivesTurn text old new
TakesStep m (steps.Mark mark) text old new = RecordsMark mark text old new
TakesStep m (steps.At time) text old new = SetsTime time text old new
TakesStep m (steps.Message over layer asked) text old new =
    SendsToLayer m over layer asked text old new

-- What the line with the command `command` does, and what it prints (`text`).
abbrev pub DoesCommand : {D L : Type 0} {d : Ghosts D} {l : Ghosts L} → Answering D L → List ScriptId
    → Command → List ℕ → Running D L d l → Running D L d l → Type 0
DoesCommand m names (commands.Submit submission) text old new =
    SubmitsNext names (bio_of submission) text old new
DoesCommand m names (commands.Complete request) text old new =
    EndsRequest (slice_get old.requests.items request) (name_at names request) text old new
DoesCommand m names (commands.Step step) text old new = TakesStep m step text old new

-- What a line does to a run (`DoesCommand`), and to the times of both devices. An `at` sets both
-- times; any other line changes neither. The recorder changes only as its calls can change it
-- (`RecorderFrame`).
pub record RunsLine {D L : Type 0} {d : Ghosts D} {l : Ghosts L} (m : Answering D L)
    (names : List ScriptId) (command : Command) (text : List ℕ)
    (old new : Running D L d l) : Type 0 where
  pub does : DoesCommand m names command text old new
  pub time : new.time ≡ time_at old.time command
  pub log_time : new.recorder.store.time ≡ time_at old.recorder.store.time command
  pub goes : RecorderFrame (recorder_view old.recorder) (recorder_view new.recorder)

-- A line is run, and the output gets what the line prints.
abbrev pub PrintsLine : {D L : Type 0} {d : Ghosts D} {l : Ghosts L} → Answering D L → List ScriptId
    → Command → Option (List ℕ) → Option (List ℕ) → Running D L d l → Running D L d l → Type 0
PrintsLine m names command before after old new =
    (text : List ℕ) × RunsLine m names command text old new × Appends before after text

-- How many requests a line submits: 1 or 0.
abbrev pub submission_count : Command → ℕ
submission_count command = if is_submission command then 1 else 0

-- The sectors that a line names are within a data device of `sectors` sectors. They are aligned to
-- log sectors of `bytes` bytes.
abbrev pub FitsDevice : (bytes sectors : ℕ) → Command → Type 0
FitsDevice bytes sectors (commands.Submit submission) =
    submission_answer bytes sectors submission ≡ Ok tt
FitsDevice bytes sectors (commands.Complete request) = Unit {0}
FitsDevice bytes sectors (commands.Step step) = step_answer bytes sectors step ≡ Ok tt

-- The values of a line can be written in a script: the text of a mark or message, a time, the
-- number of a layer.
abbrev pub HasScriptText : Command → Type 0
HasScriptText (commands.Submit submission) = Unit {0}
HasScriptText (commands.Complete request) = Unit {0}
HasScriptText (commands.Step step) = HasLineText step

-- A line stops the run because the output can't be written or memory ran out.
abbrev pub StopsForFile : StepError → Type 0
StopsForFile (AtLine refusal) = ⊥
StopsForFile (Whole fault) = IsFileError fault

-- A line stops the run because it is a close, and the recorder refuses it. Nothing is printed.
pub record StopsAtClose {L : Type 0} {l : Ghosts L} (command : Command)
    (before after : Option (List ℕ)) (stop : StepError) (old : Recorder L l) : Type 0 where
  pub is_close : command ≡ commands.Step steps.Close
  pub refusal : Refusal
  pub stops : stop ≡ AtLine refusal
  pub last : Recorder L l
  pub closes : Closes (replies.Refused refusal) old last
  pub printed : Keeps before after

-- A line stops the run because it is a message, and the device refuses it. Nothing is printed.
pub record StopsAtMessage {D L : Type 0} {d : Ghosts D} {l : Ghosts L} (m : Answering D L)
    (command : Command) (before after : Option (List ℕ)) (stop : StepError)
    (old : Running D L d l) : Type 0 where
  pub over : DiskName
  pub layer : ℕ
  pub asked : List ℕ
  pub is_message : command ≡ commands.Step (steps.Message over layer asked)
  pub error : MessageError
  pub stops : stop ≡ AtLine (message_refusal error)
  pub refused : RefusesMessage m over layer asked error old
  pub printed : Keeps before after

-- Why a line stops the run.
abbrev pub StopsLine : {D L : Type 0} {d : Ghosts D} {l : Ghosts L} → Answering D L → Command
    → Option (List ℕ) → Option (List ℕ) → Running D L d l → StepError → Type 0
StopsLine m command before after old stop =
    StopsForFile stop ⊎ (StopsAtClose command before after stop old.recorder
    ⊎ StopsAtMessage m command before after stop old)

-- If a line ends a request, the request is one of the first `requests` requests.
abbrev pub EndsSubmitted : ℕ → Command → Type 0
EndsSubmitted requests (commands.Submit submission) = Unit {0}
EndsSubmitted requests (commands.Complete request) = request < requests
EndsSubmitted requests (commands.Step step) = Unit {0}
