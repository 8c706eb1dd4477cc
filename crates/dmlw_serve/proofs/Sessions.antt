-- Proves what a session begins with, and what it leaves.
use Rattle.std.proofs.Common.{◌≡◌, ◌⊎◌, ◌∙◌, ◌/◌, ◌+◌, ◌<◌, ℕ, List, [], ◌∷◌, Option, Some, None, Result}
use Rattle.std.proofs.Common.{Bor, Ok, Err, IfErr, ap, arith, inl, inr, length, refl, subst, sym}
use Rattle.std.specs.Prelude.{◌≢◌, ◌≤◌, ◌&&◌, Bool, false, IfOk, OnOk, if◌then◌else◌, not, is_some}
use Rattle.std.specs.Prelude.{option_copied, take, true}
use Rattle.std.specs.Result.{IsErr, IsErrAnd}
use Rattle.refusals.specs.declared.run_error.RunError.{RunError}
use Rattle.refusals.specs.Errors.{IsFileError, refused_by}
use Rattle.refusals.specs.declared.run_error.End.{End}
use Rattle.bio.specs.Content.{Content, sector_of}
use Rattle.bio.specs.ContentLaws.{sector_of-gather}
use Rattle.bio.specs.declared.event.CoreEvent.TheVariants as events
use Rattle.bio.specs.Events.{has_no_close, is_close}
use Rattle.bio.specs.PlaceLaws.{bool_cases}
use Rattle.blockdev.specs.View.{Origin}
use Rattle.sector_disk.specs.CandidateLaws.{content_whole, disk_lawful}
use Rattle.layer_table.specs.StackLaws.{part_of_disk}
use Rattle.log_format.specs.declared.entry.Entry.{Entry}
use Rattle.log_format.specs.LogLaws.{log_within}
use Rattle.log_format.specs.LogOf.{IsLogOf, log_sectors}
use Rattle.pending.specs.CoreState.{CoreState, added_to, closed_by}
use Rattle.pending.specs.GrowthLaws.{none-grown}
use Rattle.recorder.specs.Calls.{Drains, core_of, recorder_view}
use Rattle.recorder.specs.Growth.{HasWholeLog, RecorderFrame, ReplaysToPossible}
use Rattle.recorder.specs.RecorderView.{listed_entries}
use Rattle.sector_disk.specs.declared.disk.SectorDisk.{SectorDisk}
use Rattle.sector_disk.specs.DiskView.{PastBegins, shown_of}
use Rattle.layer_table.specs.declared.stack.Stack.{Stack}
use Rattle.layer_table.specs.Layers.{AreOver, disk_of, layers_of, layers_under, some_drops, stack_shown}
use Rattle.layer_table.specs.Layers.{top_origin, top_sectors}
use Rattle.dmlw_script.specs.declared.command.Command.{Command}
use Rattle.dmlw_script.specs.Plans.{Disk, ScriptValue, top_of}
use Rattle.dmlw_files.specs.declared.files.FileError.{FileError}
use Rattle.dmlw_files.specs.declared.files.FileError.TheVariants as file_errors
use Rattle.dmlw_files.specs.Files.{file_refusal}
use Rattle.bio.specs.Requests.{bytes_of}
use Rattle.layer_table.specs.Layers.{on_stack}
use Rattle.script_runner.specs.DiskRun.{DiskRecorder, IsNew, IsNewOn, IsStackOf}
use Rattle.script_runner.specs.DiskRun.{IsUnmadeOn, seen_on}
use Rattle.refusals.specs.Errors.{memory_error}
use Rattle.std.specs.Io.KnownBytes.{Appends, Consumes}
use Rattle.refusals.specs.declared.refusal.Refusal.{Refusal}
use Rattle.refusals.specs.declared.refusal.Refusal.TheVariants as refusals
use Rattle.dmlw_files.specs.Files.{image_of}
use Rattle.nbd.specs.declared.serving.Served.{Served as Ending}
use Rattle.nbd.specs.declared.serving.Served.TheVariants.{BrokeOff, Disconnected}
use Rattle.nbd.specs.declared.session.SessionEnd.{SessionEnd}
use Rattle.nbd.specs.Serving.{EndsLog, ServerFrame}
use Rattle.nbd.specs.Sessions.{IsBroken, SessionIsPlayed}
use Rattle.dmlw_serve.specs.declared.session.ServedSession.{ServedSession}
use Rattle.dmlw_serve.specs.Serves.{Begun, DiskServer, FailsStart, IsStackWithImage, Leaves, Reports}
use Rattle.dmlw_serve.specs.Serves.{other_size, short, unmade}

pub file_told : (error : FileError) → IsFileError (refused_by (file_refusal error))
file_told file_errors.Unusable = inl refl
file_told file_errors.Memory = inr refl

pub if_failed : {T E : Type 0} (P : T → Type 0) (result : Result T E) → IsErr result → IfOk result P
if_failed P (Ok value) fails = absurd (cc fails)
if_failed P (Err error) fails = tt

pub if_err : {T E : Type 0} {P Q : E → Type 0} (result : Result T E) → IfErr result P
    → ((error : E) → P error → Q error) → IfErr result Q
if_err (Ok value) holds follows = tt
if_err (Err error) holds follows = follows error holds

pub both : {T E Q : Type 0} {P R : T → Type 0} (result : Result T E) → IfOk result P
    → OnOk result Q → ((value : T) → P value → Q → R value) → IfOk result R
both (Ok value) one two follows = follows value one two
both (Err error) one two follows = tt

pub both_failed : {T E : Type 0} {P Q R : E → Type 0} (result : Result T E) → IfErr result P
    → IfErr result Q → ((error : E) → P error → Q error → R error) → IfErr result R
both_failed (Ok value) one two follows = tt
both_failed (Err error) one two follows = follows error one two

-- The error that a failed call returns is the one that it had.
pub same_error : {T E : Type 0} (result : Result T E) (error other : E)
    → IsErrAnd result (λ it. it ≡ error) → error ≡ other → result ≡ Err other
same_error (Ok value) error other is same = absurd is
same_error (Err it) error other is same = ap Err (is ∙ same)

pub filled : (disk : Disk) (image : List ℕ) (bare : SectorDisk) (stack : Stack)
    → length image / 512 ≡ disk.sectors
    → PastBegins (length image / 512) (sector_of image) (shown_of bare)
    → disk_of stack ≡ bare → layers_of stack ≡ layers_under disk.layers 0 []
    → AreOver disk.layers (shown_of bare) (stack_shown stack) → IsStackWithImage disk image stack
filled disk image bare stack size begins is named over = record {
  size = size;
  holds = rw (is, ← size) begins;
  layers = named;
  over = rw is over;
}

-- What a data disk can't be made for, no server can be made for.
pub unfilled : (plan : ScriptValue) (image : List ℕ) (disk : Disk) (fault error : RunError)
    → disk ≡ plan.data_disk → fault ≡ error
    → (error ≡ memory_error)
    ⊎ ((length image / 512 ≢ disk.sectors) × (error ≡ refused_by refusals.File))
    → FailsStart plan image fault
unfilled plan image disk fault error same is (inl lacks) =
    subst (FailsStart plan image) (sym (is ∙ lacks)) short
unfilled plan image disk fault error same is (inr other) =
    subst (FailsStart plan image) (sym (is ∙ other.1))
    (other_size (λ e. other.0 (e ∙ ap (λ (d : Disk). d.sectors) (sym same))))

-- Where a recorder can't be made on the log's stack, memory ran out or no log could be made.
pub unmade_at : (plan : ScriptValue) (image : List ℕ) (log : Stack) (fault error : RunError)
    → length image / 512 ≡ plan.data_disk.sectors → IsStackOf plan.log_disk log
    → fault ≡ error
    → (error ≡ memory_error) ⊎ IsUnmadeOn on_stack (bytes_of plan.log_size) log error
    → FailsStart plan image fault
unmade_at plan image log fault error size blank is (inl lacks) =
    subst (FailsStart plan image) (sym (is ∙ lacks)) short
unmade_at plan image log fault error size blank is (inr refused) =
    unmade fault size (rw is (record { stack = log; blank = blank; refused = refused }))

pub begins : (plan : ScriptValue) (image : List ℕ) (server : DiskServer) (log store : Stack)
    (recorder : DiskRecorder) → server.recorder ≡ recorder → server.disk ≡ store
    → IsStackWithImage plan.data_disk image store → IsStackOf plan.log_disk log
    → IsNewOn (bytes_of plan.log_size) log recorder → Begun plan image server
begins plan image server log store recorder made beside filled_is blank new = record {
  data_disk = rw beside filled_is;
  log_disk = rw made (record { stack = log; blank = blank; begun = new });
}

-- What a disk has room for, the stack of the disk has room for.
pub room_on : (disk : Disk) (stack : Stack) → IsStackOf disk stack → (sectors : ℕ)
    → sectors ≤ top_of disk → sectors ≤ (stack_shown stack).size
room_on disk stack is sectors room = grind (arith, is.over.size, is.blank.size)

-- A script with a line after its head has at least one.
pub some_lines : (commands : List Command) (picks : Option (List ℕ))
    → ((commands ≡ []) → (picks ≡ None) → ⊥)
    → 0 < length commands + (if is_some picks then 1 else 0)
some_lines [] None none = absurd (none refl refl)
some_lines [] (Some picks) none = omega arith
some_lines (command ∷ commands) picks none = omega arith

-- After a close the events have a Close.
has_close : (core : CoreState) → has_no_close (closed_by core).events ≡ false
has_close core = elim (bool_cases (has_no_close core.events)) [
  | inl unclosed ↦
      ap (λ (b : Bool). has_no_close (if b then added_to core events.Close else core).events) unclosed
      ∙ none-grown is_close core.events events.Close ∙ ap (λ (b : Bool). b && false) unclosed
  | inr closed ↦
      ap (λ (b : Bool). has_no_close (if b then added_to core events.Close else core).events) closed
      ∙ closed
]

-- When recording was closed and logging didn't end, the whole completion list is placed.
pub all_placed : (now : ℕ) (last ended : DiskServer) → EndsLog now last ended
    → ended.recorder.end ≡ None
    → (has_no_close (core_of ended.recorder).events ≡ false)
    × (ended.recorder.store.placed ≡ length (listed_entries (core_of ended.recorder)))
all_placed now last ended ends on = by_end ends.closed.recorder.end refl
  where
    closed : has_no_close (core_of ends.closed.recorder).events ≡ false
    closed = elim ends.closes.answer [
      | inl did ↦
          ap (λ (core : CoreState). has_no_close core.events) did.1
          ∙ has_close (core_of ends.timed.recorder)
      | inr (inl busy) ↦ absurd (cc busy.0)
      | inr (inr lacking) ↦ absurd (cc lacking.0)
    ]

    by_answer : (answer : Result Unit End) → ends.closed.recorder.end ≡ None
        → Drains answer ends.closed.recorder ended.recorder
        → (has_no_close (core_of ended.recorder).events ≡ false)
        × (ended.recorder.store.placed ≡ length (listed_entries (core_of ended.recorder)))
    by_answer (Ok done) still drained =
        let did = drained.logging still in (ap has_no_close did.0.events ∙ closed, did.1)
    by_answer (Err cause) still drained =
        absurd (let both = sym (drained.logging still).end ∙ on in cc)

    by_end : (end : Option End) → ends.closed.recorder.end ≡ end
        → (has_no_close (core_of ended.recorder).events ≡ false)
        × (ended.recorder.store.placed ≡ length (listed_entries (core_of ended.recorder)))
    by_end None is = by_answer ends.empties.0 is ends.empties.1
    by_end (Some cause) is =
        absurd (let both = sym ((ends.empties.1.ended cause is).1.end ∙ is) ∙ on in cc)

log_size : (bytes : ℕ) (disk : Disk) (begun ended : DiskRecorder) → IsNew bytes disk begun
    → RecorderFrame (recorder_view begun) (recorder_view ended)
    → (stack_shown ended.store.device).size ≡ top_of disk
log_size bytes disk begun ended new goes =
    goes.size ∙ new.begun.made.size ∙ new.blank.over.size
    ∙ ap (λ (n : ℕ). top_sectors n disk.layers) new.blank.blank.size

log_origin : (bytes : ℕ) (disk : Disk) (begun ended : DiskRecorder) → IsNew bytes disk begun
    → RecorderFrame (recorder_view begun) (recorder_view ended)
    → (stack_shown ended.store.device).origin.sector ≡ top_origin 0 disk.layers
log_origin bytes disk begun ended new goes =
    ap (λ (origin : Origin). origin.sector)
    (goes.origin ∙ new.begun.made.origin ∙ new.blank.over.origin)

-- What the log's device holds now: the part of its disk that the layers show.
held_now : (device : Stack) → (seen : Content) × (stack_shown device).crash seen
    × ((sector : ℕ) → seen sector
    ≡ (shown_of (disk_of device)).content ((stack_shown device).origin.sector + sector))
held_now device =
    (part_of_disk device).crash (shown_of (disk_of device)).content
    (disk_lawful (disk_of device)).current

-- A log that the device holds, the image of its disk has, seen through the layers.
in_image : (disk : Disk) (device : Stack) (seen : Content)
    → (stack_shown device).origin.sector ≡ top_origin 0 disk.layers
    → ((sector : ℕ) → seen sector
    ≡ (shown_of (disk_of device)).content ((stack_shown device).origin.sector + sector))
    → (bytes : ℕ) (es : List Entry) → 0 < log_sectors bytes (stack_shown device).size
    → IsLogOf (stack_shown device).size seen bytes es
    → IsLogOf (stack_shown device).size (seen_on disk (image_of (disk_of device))) bytes es
in_image disk device seen origin looks bytes es some is =
    let part = part_of_disk device in
    let within = part.within in
    let content = (shown_of (disk_of device)).content in
    log_within (stack_shown device).size seen (seen_on disk (image_of (disk_of device))) bytes es
    some
    (λ sector h. sector_of-gather (shown_of (disk_of device)).size content
    (content_whole (disk_of device)) (top_origin 0 disk.layers + sector)
    (omega (arith, within, origin, h))
    ∙ ap (λ (n : ℕ). content (n + sector)) (sym origin) ∙ sym (looks sector)) is

-- What each content that a crash may leave replays to, the image does.
replays_from : (disk : Disk) (recorder : DiskRecorder)
    → (stack_shown recorder.store.device).origin.sector ≡ top_origin 0 disk.layers
    → ((left : Content) → (stack_shown recorder.store.device).crash left
    → ReplaysToPossible (recorder_view recorder) (recorder_view recorder) left)
    → ReplaysToPossible (recorder_view recorder) (recorder_view recorder)
    (seen_on disk (image_of (disk_of recorder.store.device)))
replays_from disk recorder origin replays =
    let seen = held_now recorder.store.device in
    let all = replays seen.0 seen.1 in
    record {
      some = all.some;
      count = all.count;
      least = all.least;
      most = all.most;
      log =
          in_image disk recorder.store.device seen.0 origin seen.2
          (core_of recorder).sector_bytes (take all.count (listed_entries (core_of recorder))) all.some
          all.log;
      acknowledged = all.acknowledged;
      possible = all.possible;
    }

whole_in : (bytes : ℕ) (disk : Disk) (recorder : DiskRecorder)
    → (stack_shown recorder.store.device).origin.sector ≡ top_origin 0 disk.layers
    → (stack_shown recorder.store.device).size ≡ top_of disk
    → (core_of recorder).sector_bytes ≡ bytes
    → 0 < log_sectors (core_of recorder).sector_bytes (stack_shown recorder.store.device).size
    → HasWholeLog (recorder_view recorder)
    → IsLogOf (top_of disk) (seen_on disk (image_of (disk_of recorder.store.device))) bytes
    (listed_entries (core_of recorder))
whole_in bytes disk recorder origin size same some whole =
    let seen = held_now recorder.store.device in
    let image = seen_on disk (image_of (disk_of recorder.store.device)) in
    subst (λ (n : ℕ). IsLogOf (top_of disk) image n (listed_entries (core_of recorder))) same
    (subst (λ (n : ℕ). IsLogOf n image (core_of recorder).sector_bytes (listed_entries (core_of recorder)))
    size
    (in_image disk recorder.store.device seen.0 origin seen.2 (core_of recorder).sector_bytes
    (listed_entries (core_of recorder)) some (whole.crash seen.0 seen.1)))

none_lied : (bytes : ℕ) (disk : Disk) (begun ended : DiskRecorder) → IsNew bytes disk begun
    → RecorderFrame (recorder_view begun) (recorder_view ended)
    → some_drops disk.layers ≡ false → (stack_shown ended.store.device).lies ≡ 0
none_lied bytes disk begun ended new goes none =
    let can : (stack_shown new.stack).can_lie ≡ false = new.blank.over.can_lie none in
    goes.honest (new.begun.made.can_lie ∙ can) ∙ new.begun.made.honest can ∙ new.blank.over.lies

same_bytes : (bytes : ℕ) (disk : Disk) (begun ended : DiskRecorder) → IsNew bytes disk begun
    → RecorderFrame (recorder_view begun) (recorder_view ended)
    → (core_of ended).sector_bytes ≡ bytes
same_bytes bytes disk begun ended new goes =
    goes.sector_bytes ∙ ap (λ (core : CoreState). core.sector_bytes) new.begun.core

if_ok : {T E : Type 0} (P : T → Type 0) (result : Result T E) (value : T) → IfOk result P
    → result ≡ Ok value → P value
if_ok P result value holds is = rw is at holds

pub leaves : (script : ScriptValue) (first : List ℕ) (begun ended : DiskServer) (served : ServedSession)
    (how : Result Ending Refusal)
    (heard_from heard_to said_from said_to : Option (List ℕ)) → Begun script first begun
    → Reports ended how served
    → ServerFrame begun ended
    → (how ≡ Ok Disconnected → (taken out : List ℕ) × Consumes heard_from heard_to taken
    × Appends said_from said_to out
    × ((now : ℕ) × (last : DiskServer) × SessionIsPlayed taken out begun last × EndsLog now last ended))
    → ((why : SessionEnd) → how ≡ Ok (BrokeOff why) → (now : ℕ) × (last : DiskServer)
    × IsBroken heard_from said_from begun last × EndsLog now last ended)
    → IfOk how (λ told. (now : ℕ) × (last : DiskServer) × ServerFrame begun last
    × EndsLog now last ended)
    → ((stack_shown ended.recorder.store.device).lies ≡ 0 → (left : Content)
    → (stack_shown ended.recorder.store.device).crash left
    → ReplaysToPossible (recorder_view ended.recorder) (recorder_view ended.recorder) left)
    → (ended.recorder.end ≡ None → has_no_close (core_of ended.recorder).events ≡ false
    → ended.recorder.store.placed ≡ length (listed_entries (core_of ended.recorder))
    → (stack_shown ended.recorder.store.device).lies ≡ 0
    → HasWholeLog (recorder_view ended.recorder))
    → Leaves script begun served (image_of (disk_of ended.recorder.store.device)) heard_from
    heard_to said_from said_to
leaves script first begun ended served how heard_from heard_to said_from said_to begins reports
    goes heard broken closes replays whole =
    let new = begins.log_disk in
    let bytes = bytes_of script.log_size in
    let disk = script.log_disk in
    let origin = log_origin bytes disk begun.recorder ended.recorder new goes.recorder in
    let same = same_bytes bytes disk begun.recorder ended.recorder new goes.recorder in
    let beginning = λ (none : served.lies.log_disk ≡ 0).
    replays_from disk ended.recorder origin (replays (sym reports.log_lies ∙ none)) in
    record {
      ended = ended;
      goes = goes;
      left = refl;
      reported = record {
        end = refl;
        counted = reports.counted;
        data_lies = reports.data_lies;
        log_lies = reports.log_lies;
        tells = reports.tells;
      };
      sector_bytes = same;
      honest = λ none.
          reports.log_lies
          ∙ none_lied bytes disk begun.recorder ended.recorder new goes.recorder none;
      beginning = beginning;
      whole = λ none told is on.
          let ends = if_ok _ how told closes (sym reports.end ∙ is) in
          let going = sym reports.counted.end ∙ on in
          let placed = all_placed ends.0 ends.1 ended ends.3 going in
          whole_in bytes disk ended.recorder origin
          (log_size bytes disk begun.recorder ended.recorder new goes.recorder) same
          (beginning none).some
          (whole going placed.0 placed.1 (sym reports.log_lies ∙ none));
      closed = rw reports.end closes;
      heard = λ is.
          let all = heard (sym reports.end ∙ is) in (
            all.0,
            all.1,
            all.2,
            all.3,
            record { last = all.4.1; played = all.4.2; now = all.4.0; closed = all.4.3 },
          );
      broken = λ why is. broken why (sym reports.end ∙ is);
    }

pub zero_left : (n : ℕ) → 0 + n ≡ n
zero_left n = omega arith

-- What is None behind references is None.
pub none_of : {T : Type 0} (it : Option (Bor T)) → option_copied it ≡ None → is_some it ≡ false
none_of None is = refl
none_of (Some value) is = absurd (cc is)

pub not_both : (it : Bool) → it ≡ true → it ≡ false → ⊥
not_both true on off = absurd (cc off)
not_both false on off = absurd (cc on)

pub negated : (it : Bool) → not it ≡ false → it ≡ false → ⊥
negated true off same = absurd (cc same)
negated false off same = absurd (cc off)
