-- The result of a script on two disks in memory: as it is recorded, and as it runs only for its
-- events.
use Rattle.std.specs.Prelude.{replicate, Option, None, Some, ◌≡◌, ◌⊎◌, ℕ, Bool, true, Err, ◌*◌, ◌+◌}
use Rattle.std.specs.Prelude.{◌<◌, false, List, [], length}
use Rattle.std.specs.Io.KnownBytes.{Keeps}
use Rattle.std.specs.List.{list_all, list_any}
use Rattle.refusals.specs.declared.run_error.End.TheVariants as ends
use Rattle.refusals.specs.declared.run_error.RunError.{RunError}
use Rattle.refusals.specs.declared.run_error.RunError.TheVariants.{LoggingEnded}
use Rattle.refusals.specs.Errors.{IsFileError, memory_error}
use Rattle.bio.specs.Content.{AgreeBelow, Content, moved, sector_of, writes}
use Rattle.bio.specs.declared.event.CoreEvent.{CoreEvent}
use Rattle.bio.specs.declared.event.CoreEvent.TheVariants as core_events
use Rattle.bio.specs.declared.outcome.DevError.{DevError}
use Rattle.bio.specs.declared.outcome.DevError.TheVariants.{Io}
use Rattle.bio.specs.declared.outcome.Status.{Status}
use Rattle.bio.specs.Events.{has_no_close}
use Rattle.bio.specs.Refusals.{end_cause}
use Rattle.bio.specs.Requests.{bytes_of}
use Rattle.blockdev.specs.View.{Writes}
use Rattle.blockdev.specs.declared.device.BlockDev.{Ghosts}
use Rattle.blockdev.specs.Law.{DeviceFrame}
use Rattle.sector_disk.specs.Candidates.{left_by}
use Rattle.sector_disk.specs.declared.disk.SectorDisk.{SectorDisk}
use Rattle.sector_disk.specs.DiskView.{PastBegins, cache_of, shown_of}
use Rattle.layer_table.specs.declared.stack.Stack.{Stack}
use Rattle.layer_table.specs.Layers.{AreOver, disk_of, layers_of, layers_under, on_stack}
use Rattle.layer_table.specs.Layers.{some_drops, stack_shown, top_origin}
use Rattle.layer_table.specs.StackMessages.{StackAnswers}
use Rattle.log_format.specs.Entries.{sectors_per}
use Rattle.log_format.specs.LogOf.{IsLogOf, first_sector, status_of}
use Rattle.log_store.specs.Calls.{HasFaulted, store_of}
use Rattle.log_store.specs.Store.{store_entries}
use Rattle.pending.specs.CoreState.{sized_state}
use Rattle.recorder.specs.Calls.{core_of, recorder_view}
use Rattle.recorder.specs.declared.recorder.Recorder.{Recorder}
use Rattle.recorder.specs.Growth.{ReplaysToPossible}
use Rattle.recorder.specs.RecorderView.{listed_entries}
use Rattle.dmlw_script.specs.Plans.{Disk, ScriptValue, top_of}
use Rattle.script_runner.specs.declared.recording.Lies.{Lies}
use Rattle.script_runner.specs.declared.running.Running.{Running}
use Rattle.script_runner.specs.Lines.{answering, Answering}
use Rattle.script_runner.specs.Runs.{EndsRun, RunsLines}
use Rattle.script_runner.specs.Submissions.{is_asked}

-- The result of recording a script on two disks in memory, each under the layers that the script
-- names.
-- A recorder with a new log on a device, and why no such recorder can be made.

-- `recorder` has recorded nothing yet. Its log is on `device`, is empty, and has sectors of `bytes`
-- bytes. Unless the device lied, each content that a crash may leave has this empty log.
pub record IsNewOn {L : Type 0} {l : Ghosts L} (bytes : ℕ) (device : L)
    (recorder : Recorder L l) : Type 0 where
  pub core : core_of recorder ≡ sized_state bytes
  pub end : recorder.end ≡ None
  pub placed : recorder.store.placed ≡ 0
  pub time : recorder.store.time ≡ 0
  pub made : DeviceFrame (writes 0 (first_sector bytes 0)) (l.shown device)
      (l.shown recorder.store.device)
  pub empty : (l.shown recorder.store.device).lies ≡ 0 → (left : Content)
      → (l.shown recorder.store.device).crash left →
      IsLogOf (l.shown recorder.store.device).size left bytes []

-- No log with sectors of `bytes` bytes could be made on `device`. The write of the super block
-- failed with `error`, which is Io only if the device failed. `fault` says that logging ended by
-- the cause of `error`.
pub record IsUnmadeOn {L : Type 0} (l : Ghosts L) (bytes : ℕ) (device : L)
    (fault : RunError) : Type 0 where
  pub last : L
  pub error : DevError
  pub answered : l.does device (Writes 0 (first_sector bytes 0) true) 0 (Err error) last
  pub failed : error ≡ Io → HasFaulted (l.shown device) (l.shown last)
  pub ends_by : fault ≡ LoggingEnded (end_cause error)

-- A recorder whose log is on a stack, that is, on a disk in memory under layers.
abbrev pub DiskRecorder : Type 0
DiskRecorder = Recorder Stack on_stack

-- The run of a script on two stacks: one for the data, and one for the log.
abbrev pub DiskRun : Type 0
DiskRun = Running Stack Stack on_stack on_stack

-- How the two stacks of a run answer messages.
abbrev pub stack_answering : Answering Stack Stack
stack_answering = answering StackAnswers StackAnswers

-- The content of a disk of zeroes.
abbrev pub zeroes : Content
zeroes sector = replicate 512 0

-- `stack` is as `disk` asks: a new disk of zeroes under the layers of `disk`, the first of which is
-- the lowest. Each layer is loaded at time 0, and wasn't called yet.
pub record IsStackOf (disk : Disk) (stack : Stack) : Type 0 where
  pub blank : PastBegins disk.sectors zeroes (shown_of (disk_of stack))
  pub layers : layers_of stack ≡ layers_under disk.layers 0 []
  pub over : AreOver disk.layers (shown_of (disk_of stack)) (stack_shown stack)

-- `recorder` has recorded nothing yet. Its log is on a stack as `disk` asks. The log is empty, and
-- has sectors of `bytes` bytes.
pub record IsNew (bytes : ℕ) (disk : Disk) (recorder : DiskRecorder) : Type 0 where
  pub stack : Stack
  pub blank : IsStackOf disk stack
  pub begun : IsNewOn bytes stack recorder

-- No log with sectors of `bytes` bytes could be made on a stack as `disk` asks, and `fault` says
-- why.
pub record IsUnmade (bytes : ℕ) (disk : Disk) (fault : RunError) : Type 0 where
  pub stack : Stack
  pub blank : IsStackOf disk stack
  pub refused : IsUnmadeOn on_stack bytes stack fault

-- `run` is a run of `plan` before its first line, at time 0. Its data device is a stack as
-- `plan.data_disk` asks. Its recorder has a new log on a stack as `plan.log_disk` asks, with
-- sectors of the size that `plan` names.
pub record Starts (plan : ScriptValue) (run : DiskRun) : Type 0 where
  pub data_disk : IsStackOf plan.data_disk run.disk
  pub log_disk : IsNew (bytes_of plan.log_size) plan.log_disk run.recorder
  pub none : run.requests.items ≡ []
  pub time : run.time ≡ 0
  pub short : run.short ≡ false

-- The content that is left on `disk`: the present content, or, with picks, what a crash with these
-- picks leaves.
abbrev pub left_on : Option (List ℕ) → SectorDisk → Content
left_on None disk = (shown_of disk).content
left_on (Some picks) disk = left_by (cache_of disk) picks

-- `status` counts the placed entries, and has the cause by which logging ended, if it ended. Its
-- sector is the highest sector of 512 bytes that the entries use, or 0 if there are none.
pub record IsCounted (status : Status) (recorder : DiskRecorder) : Type 0 where
  pub entries : status.entries ≡ recorder.store.placed
  pub end : status.end ≡ recorder.end
  pub none : recorder.store.placed ≡ 0 → status.sector ≡ 0
  pub last : 0 < recorder.store.placed
      → status.sector + 1 ≡ recorder.store.next * sectors_per (core_of recorder).sector_bytes

-- The content of the topmost layer of `disk`, if the disk below the layers has the bytes `image`.
abbrev pub seen_on : Disk → List ℕ → Content
seen_on disk image = moved (top_origin 0 disk.layers) (sector_of image)

-- `plan` was recorded. Its lines printed `text`, and the log has the status `status`. `lies` counts
-- the calls that each disk's layers dropped and reported as done. `image` has the bytes of the
-- log's disk; if the script ends with a crash, they are what the crash leaves.
pub record IsRecorded (plan : ScriptValue) (text : List ℕ) (status : Status) (lies : Lies)
    (image : List ℕ) : Type 0 where
  pub start : DiskRun
  pub starts : Starts plan start
  pub last : DiskRun
  pub ran : RunsLines stack_answering plan.names plan.commands text start last
  -- the log's sectors have the size that the script names
  pub sector_bytes : (core_of last.recorder).sector_bytes ≡ bytes_of plan.log_size
  pub counted : IsCounted status last.recorder
  pub lied : lies ≡ record {
    data_disk = (stack_shown last.disk).lies;
    log_disk = (stack_shown last.recorder.store.device).lies;
  }
  pub size : length image ≡ 512 * plan.log_disk.sectors
  pub bytes : AgreeBelow plan.log_disk.sectors
      (left_on plan.ending (disk_of last.recorder.store.device)) (sector_of image)
  -- if no layer of the log may drop writes, no layer of the log lied
  pub honest : some_drops plan.log_disk.layers ≡ false → lies.log_disk ≡ 0
  -- unless a layer of the log lied, `status` is that of a log of the placed entries
  pub tells : lies.log_disk ≡ 0
      → status ≡ status_of (bytes_of plan.log_size)
      (store_entries (store_of last.recorder.store)) last.recorder.end
  -- unless a layer of the log lied, `image` has a log, seen through the layers. It is a prefix of
  -- the completion list of the recorder's events. It has all entries that were settled, and all
  -- that were acknowledged. Each prefix of it replays to what the recorded device could hold
  pub beginning : lies.log_disk ≡ 0 →
      ReplaysToPossible (recorder_view last.recorder) (recorder_view last.recorder)
      (seen_on plan.log_disk image)
  -- if recording was closed and logging didn't end, the log is the whole completion list
  pub whole : lies.log_disk ≡ 0 → has_no_close (core_of last.recorder).events ≡ false
      → last.recorder.end ≡ None →
      IsLogOf (top_of plan.log_disk) (seen_on plan.log_disk image) (bytes_of plan.log_size)
      (listed_entries (core_of last.recorder))

-- Why recording `plan` fails; `plan` was parsed from `text`.
-- - `file`: memory ran out, or the output can't be written.
-- - `unmade`: no log could be made, and nothing was printed.
-- - `run`: the run ends before its last line.
pub data FailsOnDisks (text : List ℕ) (plan : ScriptValue)
    (before after : Option (List ℕ)) : RunError → Type 0 where
  file : (fault : RunError) → IsFileError fault → FailsOnDisks text plan before after fault
  unmade : (fault : RunError) → IsUnmade (bytes_of plan.log_size) plan.log_disk fault
      → Keeps before after → FailsOnDisks text plan before after fault
  run : (start : DiskRun) (fault : RunError) → Starts plan start
      → EndsRun stack_answering text plan before after start fault
      → FailsOnDisks text plan before after fault

-- The result of running a script only for its events. The script runs on two disks in memory as
-- when it is recorded, but only the recorder's events are returned.

-- The event is a Stop by which logging ended because memory ran out.
abbrev pub is_memory_stop : CoreEvent → Bool
is_memory_stop (core_events.Stop ends.Memory) = true
is_memory_stop _ = false

-- The lines of `plan` ran, and `events` are the recorder's events. Memory sufficed, except perhaps
-- for reads. What the lines print is dropped.
pub record IsRehearsed (plan : ScriptValue) (events : List CoreEvent) : Type 0 where
  pub start : DiskRun
  pub starts : Starts plan start
  pub text : List ℕ
  pub last : DiskRun
  pub ran : RunsLines stack_answering plan.names plan.commands text start last
  pub recorded : events ≡ (core_of last.recorder).events
  -- memory sufficed for the data device's calls, for marks and for the log
  pub short : last.short ≡ false
  -- memory sufficed for each submission
  pub asked : list_all is_asked last.requests.items ≡ true
  -- logging didn't end because memory ran out
  pub ample : list_any is_memory_stop events ≡ false

-- The lines of `plan` ran, but memory ran out: in a line, for a submission, or in the recorder, so
-- that logging ended.
pub record RanOutOfMemory (plan : ScriptValue) : Type 0 where
  pub start : DiskRun
  pub starts : Starts plan start
  pub text : List ℕ
  pub last : DiskRun
  pub ran : RunsLines stack_answering plan.names plan.commands text start last
  pub short : (last.short ≡ true) ⊎ ((list_all is_asked last.requests.items ≡ false)
      ⊎ (list_any is_memory_stop (core_of last.recorder).events ≡ true))

-- Why running `plan` for its events fails; `plan` was parsed from `text`. Either it fails as
-- recording does, but nothing is claimed about the output. Or its lines ran, but memory ran out;
-- then the fault is Memory, without a line.
abbrev pub FailsRehearsal : List ℕ → ScriptValue → RunError → Type 0
FailsRehearsal text plan fault =
    FailsOnDisks text plan None None fault ⊎ (RanOutOfMemory plan × (fault ≡ memory_error))
