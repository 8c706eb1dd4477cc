-- Proves how a run on disks in memory starts, and what its log's disk holds at the end.
use Rattle.std.proofs.Common.{◌*◌, Err, ◌∷◌, false, length, take, refl, sym, ap, subst, arith, ◌≡◌}
use Rattle.std.proofs.Common.{◌⊎◌, ◌∙◌, Result, ◌+◌, ◌/◌, ◌<◌, ◌≤◌, ℕ, true, Option, inl, inr, None}
use Rattle.std.proofs.Common.{Some, List, []}
use Rattle.std.specs.Prelude.{Bool, IfOk, Ok}
use Rattle.std.specs.List.{AllByRecursion}
use Rattle.refusals.specs.declared.run_error.End.TheVariants as ends
use Rattle.refusals.specs.declared.run_error.RunError.{RunError}
use Rattle.refusals.specs.declared.run_error.RunError.TheVariants.{LoggingEnded}
use Rattle.refusals.specs.Errors.{memory_error}
use Rattle.bio.specs.Content.{AgreeBelow, Content, gather, sector_of, writes}
use Rattle.bio.specs.ContentLaws.{length-gather, sector_of-gather}
use Rattle.bio.specs.declared.outcome.DevError.{DevError}
use Rattle.bio.specs.declared.outcome.DevError.TheVariants.{Io, Memory}
use Rattle.bio.specs.declared.outcome.Status.{Status}
use Rattle.bio.specs.declared.request.SectorSize.{SectorSize}
use Rattle.bio.specs.declared.request.SectorSize.TheVariants as sizes
use Rattle.bio.specs.Events.{has_no_close}
use Rattle.bio.specs.Requests.{bytes_of}
use Rattle.blockdev.specs.View.{Call, Writes}
use Rattle.blockdev.specs.declared.device.BlockDev.{Ghosts}
use Rattle.blockdev.specs.Law.{DeviceFrame}
use Rattle.sector_disk.specs.CandidateLaws.{content_whole, disk_lawful, is_current, picks_leave_one}
use Rattle.sector_disk.specs.declared.disk.SectorDisk.{SectorDisk}
use Rattle.sector_disk.specs.DiskView.{PastBegins, cache_of, shown_of, start_of, past_steps}
use Rattle.layer_table.specs.declared.layer_spec.LayerSpec.{LayerSpec}
use Rattle.layer_table.specs.declared.stack.Stack.{Stack}
use Rattle.layer_table.specs.Layers.{on_stack, AreOver, LayersDo, layers_of, layers_under}
use Rattle.layer_table.specs.Layers.{stack_does, stack_shown, disk_of, top_origin}
use Rattle.layer_table.specs.Layers.{LayersAreAllowed, Layer}
use Rattle.layer_table.specs.TableLines.{IsLayerSpec}
use Rattle.layer_table.specs.StackLaws.{part_of_disk}
use Rattle.log_format.specs.LogLaws.{log_within}
use Rattle.log_format.specs.LogOf.{IsLogOf, first_sector, log_sectors, status_of}
use Rattle.log_store.specs.Calls.{store_of}
use Rattle.log_store.specs.declared.store.LogStore.{LogStore}
use Rattle.log_store.specs.Store.{store_entries}
use Rattle.pending.specs.CoreState.{CoreState, sized_state}
use Rattle.recorder.specs.Calls.{core_of, recorder_view}
use Rattle.recorder.specs.declared.recorder.Recorder.{Recorder}
use Rattle.recorder.specs.Growth.{HasWholeLog, RecorderFrame, ReplaysToPossible}
use Rattle.recorder.specs.RecorderView.{listed_entries}
use Rattle.dmlw_script.specs.declared.command.Command.{Command}
use Rattle.dmlw_script.specs.declared.script_id.ScriptId.{ScriptId}
use Rattle.dmlw_script.specs.Plans.{top_of, Disk, IsDisk, ScriptValue, time_at}
use Rattle.script_runner.specs.CallLaws.{keeps_same}
use Rattle.script_runner.specs.declared.playing.Played.{Played}
use Rattle.script_runner.specs.declared.recording.Lies.{Lies}
use Rattle.script_runner.specs.declared.running.Running.{Running}
use Rattle.script_runner.specs.DiskRun.{DiskRecorder, DiskRun, FailsOnDisks, IsCounted, IsNew}
use Rattle.script_runner.specs.DiskRun.{IsNewOn, IsRecorded, IsStackOf, IsUnmade, IsUnmadeOn}
use Rattle.script_runner.specs.DiskRun.{Starts, file as no_file, left_on, run as no_run, seen_on}
use Rattle.script_runner.specs.DiskRun.{stack_answering, unmade as no_log, zeroes}
use Rattle.script_runner.specs.inside.{file, run, unmade, FailsPlaying, IsPlayed, StartsOnStack}
use Rattle.script_runner.specs.inside.{StartsOn}
use Rattle.script_runner.specs.Lines.{Answering}
use Rattle.script_runner.specs.Runs.{LogIsWritten, RunsLines}

pub asked : (sectors : ℕ) (layers : List LayerSpec) → LayersAreAllowed sectors layers
    → AllByRecursion IsLayerSpec layers
asked sectors [] stand = tt
asked sectors (layer ∷ layers) stand = (stand.0, asked layer.length layers stand.2)

pub stands : (disk : Disk) (layers : List LayerSpec) {sectors : ℕ} → layers ≡ disk.layers
    → sectors ≡ disk.sectors → IsDisk disk → LayersAreAllowed sectors layers
stands disk layers {sectors} above here is =
    rw above (subst (λ (n : ℕ). LayersAreAllowed n disk.layers) (sym here) is.stand)

pub stacked : (spec : Disk) (disk : SectorDisk) (stack : Stack) {sectors : ℕ}
    → sectors ≡ spec.sectors → PastBegins sectors zeroes (shown_of disk) → disk_of stack ≡ disk
    → layers_of stack ≡ layers_under spec.layers 0 []
    → AreOver spec.layers (shown_of disk) (stack_shown stack) → IsStackOf spec stack
stacked spec disk stack {sectors} here blank is named over = record {
  blank = rw (is, ← here) blank;
  layers = named;
  over = rw is over;
}

pub stack_size : (disk : Disk) (stack : Stack) → IsStackOf disk stack
    → (stack_shown stack).size ≡ top_of disk
stack_size disk stack is = grind (arith, is.over.size, is.blank.size)

stack_origin : (disk : Disk) (stack : Stack) → IsStackOf disk stack
    → (stack_shown stack).origin ≡ record { sector = top_origin 0 disk.layers; disk = disk.sectors }
stack_origin disk stack is =
    grind (arith, is.over.origin, is.blank.size)

pub new_log : {L : Type 0} {l : Ghosts L} (bytes : ℕ) (device : L) (store : LogStore L l)
    (recorder : Recorder L l)
    → (store_of store).sector_bytes ≡ bytes → store.placed ≡ 0 → store.time ≡ 0
    → DeviceFrame (writes 0 (first_sector bytes 0)) (l.shown device) (l.shown store.device)
    → ((l.shown store.device).lies ≡ 0 → (left : Content) → (l.shown store.device).crash left
    → IsLogOf (l.shown store.device).size left bytes [])
    → (core_of recorder ≡ sized_state (store_of store).sector_bytes) × (recorder.store ≡ store)
    × (recorder.end ≡ None) → IsNewOn bytes device recorder
new_log {L} {l} bytes device store recorder size none start goes empty (core, same, end) = record {
  core = core ∙ ap sized_state size;
  end = end;
  placed = grind (arith, same, none);
  time = grind (arith, same, start);
  made =
      rw same goes;
  empty =
      rw same empty;
}

one_fits : (size : SectorSize) (sectors : ℕ) → bytes_of size / 512 ≤ sectors
    → 0 < log_sectors (bytes_of size) sectors
one_fits sizes.B512 sectors room = omega (arith, room)
one_fits sizes.B4096 sectors room = omega (arith, room)

may_leave : (ending : Option (List ℕ)) (disk : SectorDisk)
    → (shown_of disk).crash (left_on ending disk)
may_leave None disk = (disk_lawful disk).current
may_leave (Some picks) disk =
    picks_leave_one (cache_of disk) picks (is_current (start_of disk) (past_steps disk))

-- If the content that is left on the disk has a log, the image of the disk has it too.
image_log : (plan : ScriptValue) (device : Stack) (seen : Content) (image : List ℕ)
    → bytes_of plan.log_size / 512 ≤ top_of plan.log_disk
    → (stack_shown device).size ≡ top_of plan.log_disk
    → (stack_shown device).origin
    ≡ record { sector = top_origin 0 plan.log_disk.layers; disk = plan.log_disk.sectors }
    → AgreeBelow plan.log_disk.sectors (left_on plan.ending (disk_of device)) (sector_of image)
    → ((sector : ℕ) → seen sector
    ≡ left_on plan.ending (disk_of device) ((stack_shown device).origin.sector + sector))
    → {es : List _} → IsLogOf (stack_shown device).size seen (bytes_of plan.log_size) es
    → IsLogOf (stack_shown device).size (seen_on plan.log_disk image) (bytes_of plan.log_size) es
image_log plan device seen image room size place agree looks {es} log_c =
    let part = part_of_disk device in
    let within = part.within in
    let left = left_on plan.ending (disk_of device) in
    let sector_is : (stack_shown device).origin.sector ≡ top_origin 0 plan.log_disk.layers =
    grind (arith, place) in
    let disk : (shown_of (disk_of device)).size ≡ plan.log_disk.sectors =
    grind (arith, sym part.disk, place) in
    let some : 0 < log_sectors (bytes_of plan.log_size) (stack_shown device).size =
    one_fits plan.log_size (stack_shown device).size (omega (arith, room, size)) in
    log_within (stack_shown device).size seen (seen_on plan.log_disk image)
    (bytes_of plan.log_size) es some
    (λ sector h. agree (top_origin 0 plan.log_disk.layers + sector) (omega arith)
    ∙ ap (λ (n : ℕ). left (n + sector)) (sym sector_is) ∙ sym (looks sector)) log_c

abbrev pub image_of : SectorDisk → List ℕ
image_of disk = gather (shown_of disk).content 0 (shown_of disk).size

pub image_long : (disk : SectorDisk) {sectors : ℕ} → (shown_of disk).size ≡ sectors
    → length (image_of disk) ≡ 512 * sectors
image_long disk {sectors} size =
    length-gather (shown_of disk).size (shown_of disk).content 0 (shown_of disk).size
    (content_whole disk) (omega arith) ∙ ap (λ (n : ℕ). 512 * n) size

pub image_agrees : (left : Content) (disk : SectorDisk) {sectors : ℕ}
    → (shown_of disk).size ≡ sectors → AgreeBelow sectors left (shown_of disk).content
    → AgreeBelow sectors left (sector_of (image_of disk))
image_agrees left disk {sectors} size agrees = λ sector below.
    sector_of-gather (shown_of disk).size (shown_of disk).content (content_whole disk) sector
    (omega (arith, size, below)) ∙ agrees sector below

pub same_lies : (lies : Lies) (over_data over_log : ℕ) → lies.data_disk ≡ over_data
    → lies.log_disk ≡ over_log
    → lies ≡ record { data_disk = over_data; log_disk = over_log }
same_lies lies over_data over_log here there = rw (sym here, sym there) refl

new_written : (bytes : ℕ) (disk : Disk) (recorder : DiskRecorder) → IsNew bytes disk recorder
    → LogIsWritten recorder
new_written bytes disk recorder new = λ closed on. absurd
    (let recording = ap (λ (c : CoreState). has_no_close c.events) new.begun.core in cc)

pub is_recorded : (plan : ScriptValue) (text : List ℕ) (start last : DiskRun) (log : Stack)
    (status : Status) (lies : Lies) (image : List ℕ) (picks : Option (List ℕ))
    → bytes_of plan.log_size / 512 ≤ top_of plan.log_disk
    → Starts plan start → RunsLines stack_answering plan.names plan.commands text start last
    → RecorderFrame (recorder_view start.recorder) (recorder_view last.recorder)
    → IsCounted status last.recorder
    → ((stack_shown last.recorder.store.device).lies ≡ 0
    → status ≡ status_of (core_of last.recorder).sector_bytes
    (store_entries (store_of last.recorder.store)) last.recorder.end)
    → log ≡ last.recorder.store.device
    → lies ≡ record { data_disk = (stack_shown last.disk).lies; log_disk = (stack_shown log).lies }
    → length image ≡ 512 * (shown_of (disk_of log)).size
    → picks ≡ plan.ending
    → AgreeBelow (shown_of (disk_of log)).size (left_on picks (disk_of log)) (sector_of image)
    → ((stack_shown last.recorder.store.device).lies ≡ 0 → (left : Content)
    → (stack_shown last.recorder.store.device).crash left
    → ReplaysToPossible (recorder_view last.recorder) (recorder_view last.recorder) left)
    → (LogIsWritten start.recorder → last.recorder.end ≡ None
    → has_no_close (core_of last.recorder).events ≡ false
    → (stack_shown last.recorder.store.device).lies ≡ 0
    → HasWholeLog (recorder_view last.recorder))
    → IsRecorded plan text status lies image
is_recorded plan text start last log status lies image picks room starts ran goes counted tells same
    lied count ending agrees reopens whole =
    let device = last.recorder.store.device in
    let new = starts.log_disk in
    let size : (stack_shown device).size ≡ top_of plan.log_disk =
    goes.size ∙ new.begun.made.size ∙ stack_size plan.log_disk new.stack new.blank in
    let place : (stack_shown device).origin
    ≡ record { sector = top_origin 0 plan.log_disk.layers; disk = plan.log_disk.sectors } =
    goes.origin ∙ new.begun.made.origin ∙ stack_origin plan.log_disk new.stack new.blank in
    let bytes : (core_of last.recorder).sector_bytes ≡ bytes_of plan.log_size =
    grind (arith, goes.sector_bytes, new.begun.core) in
    let part = part_of_disk device in
    let sectors : (shown_of (disk_of device)).size ≡ plan.log_disk.sectors =
    grind (arith, sym part.disk, place) in
    let here : AgreeBelow (shown_of (disk_of device)).size (left_on plan.ending (disk_of device))
    (sector_of image) =
    subst (λ (s : Stack). AgreeBelow (shown_of (disk_of s)).size (left_on plan.ending (disk_of s))
    (sector_of image)) same
    (rw (← ending) agrees) in
    let agree : AgreeBelow plan.log_disk.sectors (left_on plan.ending (disk_of device))
    (sector_of image) =
    subst (λ (n : ℕ). AgreeBelow n (left_on plan.ending (disk_of device)) (sector_of image))
    sectors here in
    let seen =
    part.crash (left_on plan.ending (disk_of device))
    (may_leave plan.ending (disk_of device)) in
    let told : lies
    ≡ record {
      data_disk = (stack_shown last.disk).lies;
      log_disk = (stack_shown device).lies;
    } =
    subst (λ (s : Stack). lies
    ≡ record { data_disk = (stack_shown last.disk).lies; log_disk = (stack_shown s).lies }) same
    lied in
    let honest : lies.log_disk ≡ 0 → (stack_shown device).lies ≡ 0 =
    λ none. sym (grind (arith, told)) ∙ none in
    record {
      start = start;
      starts = starts;
      last = last;
      ran = ran;
      sector_bytes = bytes;
      counted = counted;
      tells =
          λ none. grind arith;
      lied = told;
      honest = λ none.
          grind arith;
      size =
          grind (arith, rw same at count, sectors);
      bytes = agree;
      beginning = λ none.
          let reopened = reopens (honest none) seen.0 seen.1 in
          record {
            some = reopened.some;
            count = reopened.count;
            least = reopened.least;
            most = reopened.most;
            log =
                grind (arith, image_log, take);
            acknowledged = reopened.acknowledged;
            possible = reopened.possible;
          };
      whole = λ none closed on.
          subst (λ (n : ℕ). IsLogOf n (seen_on plan.log_disk image) (bytes_of plan.log_size)
          (listed_entries (core_of last.recorder))) size
          (image_log plan device seen.0 image room size place agree seen.2
          (rw (← bytes) ((whole (new_written (bytes_of plan.log_size) plan.log_disk start.recorder
          new) on closed (honest none)).crash seen.0 seen.1)));
    }

bare_refuses : (after : List Layer) (old new : SectorDisk) (bytes : List ℕ) (error : DevError)
    → LayersDo [] old (Writes 0 bytes true) 0 (Err error) after new → error ≡ Memory
bare_refuses after old new bytes Io done = absurd done.2
bare_refuses after old new bytes Memory done = refl

pub bare_log_fails : ((old : Stack) (call : Call) (now : ℕ) (result : Result ℕ DevError)
    (new : Stack) → stack_does old call now result new
    → LayersDo (layers_of old) (disk_of old) call now result (layers_of new) (disk_of new))
    → (bytes : ℕ) (disk : Disk) (fault : RunError) → disk.layers ≡ [] → IsUnmade bytes disk fault
    → fault ≡ LoggingEnded ends.Memory
bare_log_fails does bytes disk fault bare un = grind (arith, true, bare_refuses)

pub started_together : (plan : ScriptValue) (start : DiskRun) → Starts plan start
    → start.recorder.store.time ≡ start.time
started_together plan start starts = starts.log_disk.begun.time ∙ sym starts.time

pub lines_together : {D L : Type 0} {d : Ghosts D} {l : Ghosts L} (m : Answering D L)
    (names : List ScriptId) (body : List Command) (text : List ℕ) (old new : Running D L d l)
    → RunsLines m names body text old new → old.recorder.store.time ≡ old.time
    → new.recorder.store.time ≡ new.time
lines_together {D} {L} {d} {l} m names [] text old new ran same =
    subst (λ (end : Running D L d l). end.recorder.store.time ≡ end.time) (sym ran.1) same
lines_together {D} {L} {d} {l} m names (command ∷ body) text old new ran same =
    let line = ran.4 in
    lines_together {d = d} {l = l} m names body ran.2 ran.0 new ran.5
    (line.log_time ∙ ap (λ (time : ℕ). time_at time command) same ∙ sym line.time)

-- The condition `Start` may be replaced by any condition that it implies.
pub played_from : {D L : Type 0} {d : Ghosts D} {l : Ghosts L} (m : Answering D L)
    (plan : ScriptValue) (Start Other : Running D L d l → Type 0) (before after : Option (List ℕ))
    (recorder : Recorder L l)
    (lies : ℕ) (ample : Bool) → ((run : Running D L d l) → Start run → Other run)
    → IsPlayed m plan Start before after recorder lies ample
    → IsPlayed m plan Other before after recorder lies ample
played_from m plan Start Other before after recorder lies ample follows played = record {
  start = played.start;
  starts = follows played.start played.starts;
  last = played.last;
  text = played.text;
  ran = played.ran;
  printed = played.printed;
  left = played.left;
  lied = played.lied;
  found = played.found;
}

pub fails_from : {D L : Type 0} {d : Ghosts D} {l : Ghosts L} (m : Answering D L) (text : List ℕ)
    (plan : ScriptValue) (Unmade : RunError → Type 0) (Start Other : Running D L d l → Type 0)
    (before after : Option (List ℕ)) (fault : RunError)
    → ((run : Running D L d l) → Start run → Other run)
    → FailsPlaying m text plan Unmade Start before after fault
    → FailsPlaying m text plan Unmade Other before after fault
fails_from m text plan Unmade Start Other before after fault follows (file f is) = file f is
fails_from m text plan Unmade Start Other before after fault follows (unmade f is kept) =
    unmade f is kept
fails_from m text plan Unmade Start Other before after fault follows (run start f starts ends) =
    run start f (follows start starts) ends

pub fails_at_start : {D L : Type 0} {d : Ghosts D} {l : Ghosts L} (m : Answering D L)
    (text : List ℕ) (plan : ScriptValue) (Unmade : RunError → Type 0)
    (Start : Running D L d l → Type 0)
    (known : Option (List ℕ)) (fault : RunError) → (fault ≡ memory_error) ⊎ Unmade fault
    → FailsPlaying m text plan Unmade Start known known fault
fails_at_start m text plan Unmade Start known fault (inl memory) = file fault (inr memory)
fails_at_start m text plan Unmade Start known fault (inr none) =
    unmade fault none (keeps_same known)

pub started : {D L : Type 0} {d : Ghosts D} {l : Ghosts L} (size other : SectorSize) (disk : D)
    (log : L) (now : Running D L d l) → size ≡ other → StartsOn (bytes_of size) disk log now
    → StartsOn (bytes_of other) disk log now
started {d = d} {l = l} size other disk log now same starts =
    rw (← same) starts

pub unstarted : {L : Type 0} (l : Ghosts L) (size other : SectorSize) (log : L) (fault : RunError)
    → size ≡ other → (fault ≡ memory_error) ⊎ IsUnmadeOn l (bytes_of size) log fault
    → (fault ≡ memory_error) ⊎ IsUnmadeOn l (bytes_of other) log fault
unstarted l size other log fault same fails =
    rw (← same) fails

pub start_bytes : {D L : Type 0} {d : Ghosts D} {l : Ghosts L} (bytes : ℕ) (disk : D) (log : L)
    (now : Running D L d l) → StartsOn bytes disk log now
    → (core_of now.recorder).sector_bytes ≡ bytes
start_bytes bytes disk log now starts =
    let begun = starts.begun in grind (arith, begun.core)

pub on_beside : {L : Type 0} {l : Ghosts L} (bytes : ℕ) (disk : Disk) (stack : Stack) (log : L)
    → IsStackOf disk stack → (run : Running Stack L on_stack l) → StartsOn bytes stack log run
    → StartsOnStack bytes disk log run
on_beside bytes disk stack log is now starts = record {
  stack = rw starts.disk_is is;
  begun = starts.begun;
  none = starts.none;
  time = starts.time;
  short = starts.short;
}

pub beside_starts : (plan : ScriptValue) (log : Stack) → IsStackOf plan.log_disk log
    → (run : DiskRun) → StartsOnStack (bytes_of plan.log_size) plan.data_disk log run
    → Starts plan run
beside_starts plan log is now starts = record {
  data_disk = starts.stack;
  log_disk = record { stack = log; blank = is; begun = starts.begun };
  none = starts.none;
  time = starts.time;
  short = starts.short;
}

pub fails_on_disks : (text : List ℕ) (plan : ScriptValue) (log : Stack)
    (before after : Option (List ℕ)) (fault : RunError) → IsStackOf plan.log_disk log
    → FailsPlaying {d = on_stack} {l = on_stack} stack_answering text plan
    (IsUnmadeOn on_stack (bytes_of plan.log_size) log)
    (StartsOnStack (bytes_of plan.log_size) plan.data_disk log) before after fault
    → FailsOnDisks text plan before after fault
fails_on_disks text plan log before after fault is (file f fails) = no_file f fails
fails_on_disks text plan log before after fault is (unmade f refused kept) =
    no_log f (record { stack = log; blank = is; refused = refused }) kept
fails_on_disks text plan log before after fault is (run start f starts ends) =
    no_run start f (beside_starts plan log is start starts) ends

pub all_played : {D L : Type 0} {d : Ghosts D} {l : Ghosts L} (m : Answering D L)
    (plan : ScriptValue) (Start Other : Running D L d l → Type 0) (before after : Option (List ℕ))
    (result : Result (Played L l) RunError) → ((run : Running D L d l) → Start run → Other run)
    → IfOk result (λ played. IsPlayed m plan Start before after played.recorder played.data_lies
    played.ample) → IfOk result
    (λ played. IsPlayed m plan Other before after played.recorder played.data_lies played.ample)
all_played m plan Start Other before after (Err fault) follows holds = tt
all_played m plan Start Other before after (Ok played) follows holds =
    played_from m plan Start Other before after played.recorder played.data_lies played.ample
    follows holds
