-- Proves the result of replaying the log in an image, on disks in memory.
use Rattle.std.proofs.Common.{◌≡◌, ◌∙◌, ◌⊎◌, ℕ, ◌+◌, ◌*◌, ◌/◌, ◌<◌, ◌≤◌, List, Option, Result, Ok}
use Rattle.std.proofs.Common.{Err, IfErr, IfOk, ap, arith, inl, inr, length, refl, subst, sym}
use Rattle.std.proofs.lemmas.Option.{slice_get_within}
use Rattle.bio.specs.Content.{Content, sector_of}
use Rattle.bio.specs.ContentLaws.{length-gather, sector_of-gather}
use Rattle.blockdev.specs.View.{View}
use Rattle.blockdev.specs.Law.{NoLie}
use Rattle.bio.specs.declared.outcome.DevError.TheVariants as devices
use Rattle.sector_disk.specs.declared.disk.SectorDisk.{SectorDisk}
use Rattle.sector_disk.specs.DiskView.{PastBegins, shown_of}
use Rattle.sector_disk.specs.CandidateLaws.{content_whole}
use Rattle.sector_disk.specs.RamView.{DoesInRam, HoldsImage, ram_view}
use Rattle.sector_disk.specs.declared.disk.ram.RamDisk.{RamDisk}
use Rattle.blockdev.specs.View.{DoesInTurn}
use Rattle.log_format.specs.Entries.{kind_of}
use Rattle.log_format.specs.declared.entry.Kind.{Kind}
use Rattle.log_format.specs.declared.entry.Kind.TheVariants as kinds
use Rattle.replay.specs.Calls.{CallsBy, kind_calls}
use Rattle.headline.specs.ReopenedLog.{DoesReplay}
use Rattle.std.specs.Prelude.{◌==◌, Bool, [], false, if◌then◌else◌, true}
use Rattle.log_format.specs.declared.decode.Super.{Super}
use Rattle.log_format.specs.declared.entry.Entry.{Entry}
use Rattle.log_reader.specs.declared.fault.LogFault.{LogFault}
use Rattle.log_reader.specs.declared.fault.ReadDeviceError.TheVariants as reads
use Rattle.log_reader.specs.SameDiskLaws.{reads_alike}
use Rattle.log_reader.specs.Reader.{HasFaulted}
use Rattle.log_reader.specs.DiskLog.{IsReading, ReadsDiskLog}
use Rattle.log_reader.specs.Refusals.{open_device_refusal}
use Rattle.replay.specs.ResizeLaws.{replay_alike}
use Rattle.replay.specs.declared.fault.ReplayError.{ReplayError}
use Rattle.replay.specs.declared.fault.ReplayError.TheVariants as replays
use Rattle.replay.specs.declared.fault.ReplayFault.{ReplayFault}
use Rattle.replay.specs.declared.replaying.Upto.{Upto}
use Rattle.replay.specs.Replays.{HasReplayCause, LeavesBy, entries_from}
use Rattle.headline.specs.declared.reopening.ReopenError.{ReopenError}
use Rattle.headline.specs.declared.reopening.ReopenError.TheVariants as reopens
use Rattle.headline.specs.ReopenedLog.{IsRefused, IsReplayed as IsReopened, IsStopped, first_reader}
use Rattle.refusals.specs.declared.run_error.RunError.{RunError}
use Rattle.refusals.specs.Errors.{memory_error, refused_by}
use Rattle.dmlw_files.specs.Files.{IsImage, MatchesContents, image_of}
use Rattle.dmlw_commands.specs.Lists.{RefusesImage}
use Rattle.dmlw_commands.specs.declared.replay_log.images.Replayed.{Replayed}
use Rattle.dmlw_commands.specs.Replays.{AreImages, FailsOnImages, FailsReplay, ReplayHasStopCause}
use Rattle.dmlw_commands.specs.Replays.{ImageIsReplayed, IsReplayedFrom, IsReplayedOn, StopsReplay, file}
use Rattle.dmlw_commands.specs.Replays.{images, memory, stop_by, stopped, unopened}
use Rattle.dmlw_commands.specs.declared.exit.Exit.TheVariants.{Refused}
use Rattle.dmlw_commands.specs.Ends.{exit_of}
use Rattle.dmlw_commands.proofs.CommandEnds.{file_refused}
use Rattle.dmlw_commands.proofs.ImageLog.{some_sector, unopened_on}

pub honest : (v w : View) → v.lies ≡ 0 → w.lies ≡ 0 → NoLie v w
honest v w first second = record { same = second ∙ sym first; counted = omega arith }

pub fails_to_open : (log first : List ℕ) (upto : Upto) (fault : RunError) (stop : RunError)
    → (fault ≡ memory_error) ⊎ RefusesImage log fault
    → stop ≡ fault → FailsOnImages log first upto stop
fails_to_open log first upto fault stop (inl is) same = grind (arith, memory)
fails_to_open log first upto fault stop (inr refuses) same =
    subst (FailsOnImages log first upto) (sym same) (unopened fault refuses)

pub replayed_from : (log_file first_file : Option (List ℕ)) (log first : List ℕ) (upto : Upto)
    (r : Result Replayed RunError) → AreImages log_file first_file log first
    → IfOk r (λ done. ImageIsReplayed log first upto done.count (image_of done.disk))
    → IfOk r (λ done. IsReplayedFrom log_file first_file upto done.count (image_of done.disk))
replayed_from log_file first_file log first upto (Ok done) are is =
    record { log = log; first = first; files = are; replayed = is }
replayed_from log_file first_file log first upto (Err stop) are is = is

pub failed_from : (log_file first_file : Option (List ℕ)) (log first : List ℕ) (upto : Upto)
    (r : Result Replayed RunError) → AreImages log_file first_file log first
    → IfErr r (FailsOnImages log first upto) → IfErr r (FailsReplay log_file first_file upto)
failed_from log_file first_file log first upto (Ok done) are fails = fails
failed_from log_file first_file log first upto (Err stop) are fails =
    images log first stop are fails

pub both_images : (log_file first_file now : Option (List ℕ)) (log first : List ℕ)
    → MatchesContents log_file log → IsImage log → MatchesContents now first
    → IsImage first → now ≡ first_file → AreImages log_file first_file log first
both_images log_file first_file now log first log_read log_image first_read first_image same =
    record {
      log_read = log_read;
      log_image = log_image;
      first_read = rw (← same) first_read;
      first_image = first_image;
    }

reading_on : (log : List ℕ) (v : View) (head : Super) (es : List Entry) (fault : Option LogFault)
    → IsImage log → PastBegins (length log / 512) (sector_of log) v
    → ReadsDiskLog v.size v.content head es fault → IsReading log head es fault
reading_on log v head es fault image begins reads =
    let R : ℕ → Type 0 = λ n. ReadsDiskLog n v.content head es fault in
    reads_alike (length log / 512) v.content (sector_of log) head es fault (some_sector log image)
    (λ s below. sym (begins.content s below))
    (subst R begins.size reads)

pub replayed_on : (log first : List ℕ) (upto : Upto) (count : ℕ) (disk v w : View) → IsImage log
    → PastBegins (length log / 512) (sector_of log) disk
    → HoldsImage first v → w.size ≡ v.size → NoLie v w
    → IsReopened disk upto count v w → IsReplayedOn log first upto count w
replayed_on log first upto count disk v w image log_begins begins size no_lie done =
    grind (
      arith,
      replay_alike done.head.sectorsize (entries_from done.entries 0 count) (length
          first / 512) (sector_of first) v.content begins.content,
      reading_on log disk done.head
          done.entries done.fault image log_begins done.reading,
    )

-- The disks never fail, so only the causes in `ReplayHasStopCause` are left.
cause_on : (es : List Entry) (fault : Option LogFault) (upto : Upto) (head : Super)
    (log last v w : View) (disk applied : ℕ) (cause : ReplayError)
    → v.size ≡ disk → (HasFaulted log last → ⊥) → (cause ≡ replays.Target devices.Io → ⊥)
    → HasReplayCause es fault upto (first_reader log head)
    (first_reader last head) v w applied cause → ReplayHasStopCause upto head es fault disk applied cause
cause_on es fault upto head log last v w disk applied replays.PastEntries size reader target asks =
    asks
cause_on es fault upto head log last v w disk applied replays.NoSuchMark size reader target lacks =
    lacks
cause_on es fault upto head log last v w disk applied replays.NoFlush size reader target lacks =
    lacks
cause_on es fault upto head log last v w disk applied replays.PastTarget size reader target
    reaches = grind arith
cause_on es fault upto head log last v w disk applied (replays.Log (reads.Log found)) size reader
    target is = is
cause_on es fault upto head log last v w disk applied (replays.Log reads.Device) size reader target
    failed = absurd (reader failed)
cause_on es fault upto head log last v w disk applied (replays.Log reads.Memory) size reader
    target is = tt
cause_on es fault upto head log last v w disk applied (replays.Log reads.Failed) size reader
    target refused = cc
cause_on es fault upto head log last v w disk applied (replays.Target devices.Io) size reader target
    failed = absurd (target refl)
cause_on es fault upto head log last v w disk applied (replays.Target devices.Memory) size reader
    target is = tt

applied_within : (size : ℕ) (es : List Entry) (old new : Content) (applied : ℕ)
    (cause : ReplayError) → LeavesBy size es 0 old new applied cause
    → 0 < applied → applied ≤ length es
applied_within size es old new applied replays.PastEntries leaves more =
    let all = leaves.some more in omega arith
applied_within size es old new applied replays.NoSuchMark leaves more =
    let all = leaves.some more in omega arith
applied_within size es old new applied replays.NoFlush leaves more =
    let all = leaves.some more in omega arith
applied_within size es old new applied replays.PastTarget leaves more =
    let all = leaves.some more in omega arith
applied_within size es old new applied (replays.Log error) leaves more =
    let all = leaves.some more in omega arith
applied_within size es old new applied (replays.Target error) leaves more =
    let there = slice_get_within es (0 + applied) leaves.next leaves.there in omega arith

pub stopped_on : (log first : List ℕ) (upto : Upto) (stop : ReplayFault) (disk last v w : View)
    → IsImage log → PastBegins (length log / 512) (sector_of log) disk
    → HoldsImage first v → (HasFaulted disk last → ⊥)
    → (stop.cause ≡ replays.Target devices.Io → ⊥) → NoLie v w → IsStopped disk last upto v w stop
    → StopsReplay log first upto stop
stopped_on log first upto stop disk last v w image log_begins begins reader target no_lie halted =
    record {
      head = halted.head;
      entries = halted.entries;
      fault = halted.fault;
      reading =
          reading_on log disk halted.head halted.entries halted.fault image log_begins
          halted.reading;
      within =
          grind (arith, applied_within);
      cause =
          cause_on halted.entries halted.fault upto halted.head disk last v w
          (length first / 512) stop.applied stop.cause begins.size reader target halted.cause;
    }

-- What a replay asks of a `RamDisk` never fails with Io.
by_kind : (size : ℕ) (e : Entry) (mid new : RamDisk) (none : Bool) (kind : Kind)
    → DoesInTurn DoesInRam 0 (if none then [] else kind_calls size kind e) mid (Err devices.Io) new
    → ⊥
by_kind size e mid new true kind never = never
by_kind size e mid new false kinds.Mark never = never
by_kind size e mid new false kinds.Discard (inl never) = never
by_kind size e mid new false kinds.Discard (inr (next, ends, never)) = never
by_kind size e mid new false kinds.Write (inl never) = never
by_kind size e mid new false kinds.Write (inr (next, ends, never)) = never

no_io : (size : ℕ) (es : List Entry) (old new : RamDisk) (applied : ℕ) (cause : ReplayError)
    → CallsBy DoesInRam size es 0 old new applied cause → cause ≡ replays.Target devices.Io → ⊥
no_io size es old new applied (replays.Target devices.Io) calls is =
    by_kind size calls.next calls.mid new (calls.next.nr_sectors == 0)
    (kind_of calls.next.flags) calls.refused
no_io size es old new applied other calls is = cc

pub fails_on : (log first : List ℕ) (upto : Upto) (error : ReopenError) (stop : RunError)
    (disk last : View) (old new : RamDisk) → IsImage log
    → PastBegins (length log / 512) (sector_of log) disk → HoldsImage first (ram_view old)
    → (HasFaulted disk last → ⊥) → NoLie (ram_view old) (ram_view new)
    → ((head : Super) (es : List Entry) (fault : Option LogFault)
    → ReadsDiskLog disk.size disk.content head es fault
    → DoesReplay DoesInRam head.sectorsize es old new (Err error))
    → IsRefused disk last upto (ram_view old) (ram_view new) error → stop ≡ stop_by error
    → FailsOnImages log first upto stop
fails_on log first upto (reopens.Open error) stop disk last old new image log_begins holds reader
    no_lie does refused same =
    fails_to_open log first upto (refused_by (open_device_refusal error)) stop
    (unopened_on log disk last error
    (refused_by (open_device_refusal error)) image log_begins reader refused refl) same
fails_on log first upto (reopens.Replay fault) stop disk last old new image log_begins holds reader
    no_lie does refused same =
    subst (FailsOnImages log first upto) (sym same)
    (stopped fault (stopped_on log first upto fault disk last (ram_view old) (ram_view new) image
    log_begins holds reader (no_io refused.head.sectorsize refused.entries old new fault.applied
    fault.cause (does refused.head refused.entries refused.fault refused.reading)) no_lie refused))

pub kept_on : (log first : List ℕ) (upto : Upto) (count : ℕ) (v w : View) → IsImage first
    → IsReplayedOn log first upto count v → PastBegins v.size v.content w
    → IsReplayedOn log first upto count w
kept_on log first upto count v w image done begins = record {
  head = done.head;
  entries = done.entries;
  fault = done.fault;
  reading = done.reading;
  named = done.named;
  within = done.within;
  size = begins.size ∙ done.size;
  content =
      λ sector below. begins.content sector (let size = done.size in omega arith)
      ∙ done.content sector below;
}

pub image_left : (log first : List ℕ) (upto : Upto) (count : ℕ) (disk : SectorDisk) → IsImage first
    → IsReplayedOn log first upto count (shown_of disk)
    → ImageIsReplayed log first upto count (image_of disk)
image_left log first upto count disk is done =
    let w = shown_of disk in
    let size : w.size ≡ length first / 512 = done.size in
    let long : length (image_of disk) ≡ 512 * w.size =
    length-gather w.size w.content 0 w.size (content_whole disk) (omega arith) in
    let whole = is.whole in
    record {
      head = done.head;
      entries = done.entries;
      fault = done.fault;
      reading = done.reading;
      named = done.named;
      within = done.within;
      size = omega arith;
      content =
          λ sector below. sector_of-gather w.size w.content (content_whole disk) sector
          (omega arith) ∙ done.content sector below;
    }

pub files_refused : (log_file first_file : Option (List ℕ)) (upto : Upto) (stop : RunError)
    → FailsReplay log_file first_file upto stop → exit_of stop ≡ Refused
files_refused log_file first_file upto stop (file fault is readable) = file_refused fault is
files_refused log_file first_file upto stop (images log first same are memory) = refl
files_refused log_file first_file upto stop (images log first same are (unopened fault refuses)) =
    ap exit_of refuses.2
files_refused log_file first_file upto stop (images log first same are (stopped fault stops)) = refl
