-- Proves the result of copying the log in an image, on disks in memory.
use Rattle.std.proofs.Common.{arith, inl, inr, length, refl, subst, sym, map, take, Option, None}
use Rattle.std.proofs.Common.{Some, Result, Ok, Err, IfErr, IfOk, ap, ◌⊎◌, ◌≡◌, ◌∙◌, ℕ, ◌+◌}
use Rattle.std.proofs.Common.{◌/◌, ◌<◌, ◌≤◌, true, false, List, []}
use Rattle.std.proofs.lemmas.List.{length-map, take_all}
use Rattle.std.proofs.Math.Nat.{eq-zero-or-pos}
use Rattle.std.specs.List.{list_all}
use Rattle.refusals.specs.declared.run_error.End.TheVariants as ends
use Rattle.refusals.specs.declared.run_error.RunError.{RunError}
use Rattle.refusals.specs.Errors.{memory_error}
use Rattle.bio.specs.Content.{AgreeBelow, Content, HasWholeSectors, sector_of}
use Rattle.bio.specs.ContentLaws.{length-gather, sector_of-gather}
use Rattle.blockdev.specs.View.{IsLawful, View}
use Rattle.sector_disk.specs.CandidateLaws.{disk_lawful}
use Rattle.sector_disk.specs.declared.disk.SectorDisk.{SectorDisk}
use Rattle.sector_disk.specs.DiskView.{shown_of}
use Rattle.log_format.specs.declared.decode.Super.{Super}
use Rattle.log_format.specs.declared.entry.Entry.{Entry}
use Rattle.log_format.specs.EntryLaws.{sector_size_bounds}
use Rattle.log_format.specs.LogOf.{IsLogOf, log_entries_at}
use Rattle.log_format.specs.Replay.{replay}
use Rattle.log_store.specs.Calls.{HasFailed, StoreFrame}
use Rattle.log_store.specs.Store.{Store, StoreInvariant, store_entries}
use Rattle.log_reader.specs.AnyDisk.{any_reading}
use Rattle.log_reader.specs.declared.fault.LogFault.{LogFault}
use Rattle.log_reader.specs.declared.fault.ReadDeviceError.TheVariants as reads
use Rattle.log_reader.specs.DiskLog.{IsReading, ReadsDiskLog}
use Rattle.log_reader.specs.DiskLogLaws.{log_is_read, same_reading, size_of_head}
use Rattle.log_reader.specs.Reader.{HasFaulted, Reader}
use Rattle.log_reader.specs.SameDiskLaws.{reads_alike}
use Rattle.replay.specs.Copies.{CopyHasNoRoom, EntriesAreCopied as IsPlaced, IsLog, CopyStopsBy}
use Rattle.replay.specs.Copies.{entries_from, is_aligned_to, resized}
use Rattle.replay.specs.declared.fault.CopyError.{CopyError}
use Rattle.replay.specs.declared.fault.CopyError.TheVariants as copies
use Rattle.replay.specs.declared.fault.CopyFault.{CopyFault}
use Rattle.replay.specs.ResizeLaws.{replay_first}
use Rattle.dmlw_files.specs.Files.{IsImage, MatchesContents, image_of}
use Rattle.dmlw_commands.proofs.CommandEnds.{file_refused}
use Rattle.dmlw_commands.proofs.ImageLog.{some_sector}
use Rattle.dmlw_commands.specs.declared.copy_log.images.Copied.{Copied}
use Rattle.dmlw_commands.specs.declared.exit.Exit.TheVariants.{Refused}
use Rattle.dmlw_commands.specs.Ends.{exit_of}
use Rattle.dmlw_commands.specs.Lists.{Opens, RefusesImage}
use Rattle.dmlw_commands.specs.LogCopies.{FailsCopy, FailsOnImage, CopyHasStopCause, IsBegun, IsCopied}
use Rattle.dmlw_commands.specs.LogCopies.{IsCopiedFrom, IsCopiedOn, LacksRoom, StopsCopy, file}
use Rattle.dmlw_commands.specs.LogCopies.{memory, of_image, stopped, unopened}

pub content_whole : (v : View) → IsLawful v → HasWholeSectors v.size v.content
content_whole v lawful = grind arith

pub fails_to_open : (log : List ℕ) (sectors : ℕ) (fault : RunError) (stop : RunError)
    → (fault ≡ memory_error) ⊎ RefusesImage log fault → stop ≡ fault
    → FailsOnImage log sectors stop
fails_to_open log sectors fault stop (inl is) same =
    subst (FailsOnImage log sectors) (sym (same ∙ is)) memory
fails_to_open log sectors fault stop (inr refuses) same =
    subst (FailsOnImage log sectors) (sym same) (unopened fault refuses)

pub copied_from : (log_file : Option (List ℕ)) (log : List ℕ) (sectors : ℕ)
    (r : Result Copied RunError)
    → MatchesContents log_file log → IsImage log
    → IfOk r (λ done. IsCopied log done.count sectors (image_of done.disk))
    → IfOk r (λ done. IsCopiedFrom log_file done.count sectors (image_of done.disk))
copied_from log_file log sectors (Ok done) read image is =
    record { log = log; log_read = read; log_image = image; copied = is }
copied_from log_file log sectors (Err stop) read image is = is

pub failed_from : (log_file : Option (List ℕ)) (log : List ℕ) (sectors : ℕ)
    (r : Result Copied RunError)
    → MatchesContents log_file log → IsImage log
    → IfErr r (FailsOnImage log sectors) → IfErr r (FailsCopy log_file sectors)
failed_from log_file log sectors (Ok done) read image fails = fails
failed_from log_file log sectors (Err stop) read image fails = of_image log stop read image fails

pub log_fits : (log : List ℕ) (sectors : ℕ) (r : Reader) (v : Store) → Opens log r
    → IsBegun sectors v → r.head.sectorsize ≤ v.sector_bytes
log_fits log sectors r v opened begun =
    grind (
      arith,
      sector_size_bounds r.head.sectorsize (size_of_head (r.device.content 0) r.head
          opened.super_block),
    )

reading_on : (log : List ℕ) (r : Reader) (es : List Entry) (fault : Option LogFault) → IsImage log
    → Opens log r → IsLog r es fault
    → IsReading log r.head es fault
reading_on log r es fault image opened reading =
    let R : ℕ → Type 0 = λ n. ReadsDiskLog n r.device.content r.head es fault in
    reads_alike (length log / 512) r.device.content (sector_of log) r.head es fault
    (some_sector log image) opened.device.content (subst R opened.device.size reading)

-- If as many entries can be read as the super block counts, the log has no fault.
no_fault : (disk : ℕ) (c : Content) (head : Super) (es : List Entry) (fault : Option LogFault)
    (count : ℕ) → ReadsDiskLog disk c head es fault → count ≡ head.count
    → (0 < count → count ≤ length es) → (fault ≡ None) × (count ≡ length es)
no_fault disk c head es None count reading all some =
    let counted : length es ≡ head.count = reading.end in (refl, all ∙ sym counted)
no_fault disk c head es (Some found) count reading all some = grind (arith, length)

begun_none : (sectors : ℕ) (v : Store) → IsBegun sectors v → store_entries v ≡ []
begun_none sectors v begun = ap (log_entries_at v.sector_bytes v.device.content 1) begun.placed

placed_entries : (sectors from place count : ℕ) (es : List Entry) (v w : Store) → IsBegun sectors v
    → w.device.lies ≡ 0 → place ≡ 0
    → IsPlaced from es place count v w → store_entries w ≡ map (resized from 4096) (take count es)
placed_entries sectors from place count es v w begun honest first placed =
    grind (arith, placed.entries honest, begun_none sectors v begun, begun.sector_bytes, first)

placed_aligned : (sectors from place count : ℕ) (es : List Entry) (v w : Store) → IsBegun sectors v
    → place ≡ 0 → IsPlaced from es place count v w
    → list_all (is_aligned_to from 4096) (take count es) ≡ true
placed_aligned sectors from place count es v w begun first placed =
    rw first at (subst (λ (n : ℕ). list_all (is_aligned_to from n) (entries_from es place count) ≡
    true) begun.sector_bytes placed.aligned)

pub copied_on : (log : List ℕ) (sectors count : ℕ) (r : Reader) (v w : Store) → IsImage log
    → Opens log r → IsBegun sectors v
    → HasWholeSectors r.device.size r.device.content → w.device.lies ≡ 0
    → w.device.crash w.device.content → StoreFrame v w
    → ((es : List Entry) (fault : Option LogFault) → IsLog r es fault
    → IsPlaced r.head.sectorsize es r.next count v w) → r.next + count ≡ r.head.count
    → (w.device.lies ≡ 0 → (left : Content) → w.device.crash left
    → IsLogOf w.device.size left w.sector_bytes (store_entries w))
    → IsCopiedOn log count sectors w.device
copied_on log sectors count r v w image opened begun whole_sectors honest current goes placing
    counted whole =
    let read = any_reading r.device.size r.device.content r.head whole_sectors opened.super_block in
    let es = read.entries in
    let placed = placing es read.fault read.reads in
    let first = opened.next in
    let all : count ≡ r.head.count = omega arith in
    let within : 0 < count → count ≤ length es = λ some. let few = placed.some some in
    omega arith in
    let ended = no_fault r.device.size r.device.content r.head es read.fault count
    read.reads all within in
    let taken : take count es ≡ es = let same = ended.1 in take_all count es (omega arith) in
    let size = goes.size ∙ begun.size in
    let to = goes.sector_bytes ∙ begun.sector_bytes in
    let entries =
    placed_entries sectors r.head.sectorsize r.next count es v w begun honest first placed
    ∙ ap (map (resized r.head.sectorsize 4096)) taken in
    record {
      head = r.head;
      entries = es;
      reading =
          grind (arith, reading_on log r es read.fault image opened read.reads);
      all = ended.1;
      aligned =
          grind (arith, placed_aligned);
      size = size;
      copied =
          grind (arith, map);
    }

log_alike : (disk size : ℕ) (c d : Content) (es : List Entry) → 0 < disk → AgreeBelow disk c d
    → IsLogOf disk c size es → IsLogOf disk d size es
log_alike disk size c d es some agree log =
    let head : Super = record { count = length es; sectorsize = size } in
    let reading =
    reads_alike disk c d head es None some agree
    (record { super_block = log.super_block; entries = log.entries; end = refl }) in
    record { super_block = reading.super_block; entries = reading.entries }

pub image_left : (log : List ℕ) (sectors count : ℕ) (disk : SectorDisk) → 8 ≤ sectors
    → IsCopiedOn log count sectors (shown_of disk)
    → IsCopied log count sectors (image_of disk)
image_left log sectors count disk some done =
    let v = shown_of disk in
    let size = done.size in
    let whole = content_whole v (disk_lawful disk) in
    record {
      head = done.head;
      entries = done.entries;
      reading = done.reading;
      all = done.all;
      aligned = done.aligned;
      size =
          grind (arith, length-gather v.size v.content 0 v.size whole (omega arith), size);
      copied =
          log_alike sectors 4096 v.content (sector_of (image_of disk))
          (map (resized done.head.sectorsize 4096) done.entries) (omega arith)
          (λ sector below. sector_of-gather v.size v.content whole sector
          (omega arith)) done.copied;
    }

lacks_room : (sectors from place count : ℕ) (es : List Entry) (v w : Store) → IsBegun sectors v
    → StoreInvariant w → w.device.lies ≡ 0 → place ≡ 0 → StoreFrame v w
    → IsPlaced from es place count v w → CopyHasNoRoom from es (place + count) w
    → LacksRoom from es count sectors
lacks_room sectors from place count es v w begun kept honest first goes placed none =
    grind (arith, placed_entries, map, take)

-- The disks never fail and never lie, so only the causes in `CopyHasStopCause` are left.
cause_on : (sectors applied : ℕ) (es : List Entry) (fault : Option LogFault) (r last : Reader)
    (v w : Store) (cause : CopyError) → IsBegun sectors v
    → r.next ≡ 0 → r.failed ≡ false → applied ≤ length es → (HasFaulted r.device last.device → ⊥)
    → (HasFailed v w → ⊥) → StoreInvariant w → w.device.lies ≡ 0
    → StoreFrame v w → IsPlaced r.head.sectorsize es r.next applied v w
    → CopyStopsBy es fault (r.next + applied) r last v w cause
    → CopyHasStopCause r.head es fault sectors applied cause
cause_on sectors applied es fault r last v w
    (copies.Log (reads.Log found)) begun first fresh within reader store kept honest goes placed
    is =
    let all = is.1 in (is.0, omega arith)
cause_on sectors applied es fault r last v w (copies.Log reads.Device) begun first fresh within
    reader store kept honest goes placed failed = absurd (reader failed)
cause_on sectors applied es fault r last v w (copies.Log reads.Memory) begun first fresh within
    reader store kept honest goes placed is = tt
cause_on sectors applied es fault r last v w
    (copies.Log reads.Failed) begun first fresh within reader store kept honest goes placed
    refused =
    absurd (cc (fresh, refused))
cause_on sectors applied es fault r last v w copies.Unaligned begun first fresh within reader store
    kept honest goes placed is = grind arith
cause_on sectors applied es fault r last v w
    (copies.Store ends.Full) begun first fresh within reader store kept honest goes placed
    (is, inl before) =
    absurd (cc (begun.end, before))
cause_on sectors applied es fault r last v w
    (copies.Store ends.Full) begun first fresh within reader store kept honest goes placed
    (is, inr none) = grind (arith, lacks_room)
cause_on sectors applied es fault r last v w
    (copies.Store ends.Device) begun first fresh within reader store kept honest goes placed
    (is, inl before) =
    absurd (cc (begun.end, before))
cause_on sectors applied es fault r last v w
    (copies.Store ends.Device) begun first fresh within reader store kept honest goes placed
    (is, inr failed) =
    absurd (store failed)
cause_on sectors applied es fault r last v w (copies.Store ends.Memory) begun first fresh within
    reader store kept honest goes placed is = tt

copied_within : (from place count : ℕ) (es : List Entry) (v w : Store) → place ≡ 0
    → IsPlaced from es place count v w → count ≤ length es
copied_within from place count es v w first placed = elim (eq-zero-or-pos count) [
  | inl none ↦ omega arith
  | inr some ↦ let all = placed.some some in omega arith
]

pub stopped_on : (log : List ℕ) (sectors : ℕ) (stop : CopyFault) (r last : Reader) (v w : Store)
    → IsImage log → Opens log r → IsBegun sectors v
    → HasWholeSectors r.device.size r.device.content → (HasFaulted r.device last.device → ⊥)
    → (HasFailed v w → ⊥) → StoreInvariant w → w.device.lies ≡ 0
    → StoreFrame v w → ((es : List Entry) (fault : Option LogFault) → IsLog r es fault
    → IsPlaced r.head.sectorsize es r.next stop.applied v w)
    → ((es : List Entry) (fault : Option LogFault) → IsLog r es fault
    → CopyStopsBy es fault (r.next + stop.applied) r last v w stop.cause)
    → StopsCopy log sectors stop
stopped_on log sectors stop r last v w image opened begun whole_sectors reader store kept honest
    goes placing stopping =
    let read = any_reading r.device.size r.device.content r.head whole_sectors opened.super_block in
    let es = read.entries in
    let placed = placing es read.fault read.reads in
    let first = opened.next in
    let within = copied_within r.head.sectorsize r.next stop.applied es v w first placed in
    record {
      head = r.head;
      entries = es;
      fault = read.fault;
      reading = reading_on log r es read.fault image opened read.reads;
      within = within;
      aligned =
          placed_aligned sectors r.head.sectorsize r.next stop.applied es v w begun first placed;
      cause =
          grind (arith, cause_on);
    }

pub file_stop_refused : (log_file : Option (List ℕ)) (sectors : ℕ) (stop : RunError)
    → FailsCopy log_file sectors stop → exit_of stop ≡ Refused
file_stop_refused log_file sectors stop (file fault is readable) = file_refused fault is
file_stop_refused log_file sectors stop (of_image log same read is memory) = refl
file_stop_refused log_file sectors stop (of_image log same read is (unopened fault refuses)) =
    ap exit_of refuses.2
file_stop_refused log_file sectors stop (of_image log same read is (stopped fault stops)) = refl

copy_read : (log image : List ℕ) (count sectors : ℕ) (new : Super) (found : List Entry)
    (fault : Option LogFault) (is : IsCopied log count sectors image)
    → IsReading image new found fault
    → (new.sectorsize ≡ 4096) × (map (resized is.head.sectorsize 4096) is.entries ≡ found)
    × (None ≡ fault)
copy_read log image count sectors new found fault is reading =
    let es = map (resized is.head.sectorsize 4096) is.entries in
    let long = is.size in
    let size : sectors ≡ length image / 512 = omega arith in
    let whole = rw size at is.copied in
    let read = log_is_read (length image / 512) 4096 (sector_of image) new es whole
    reading.super_block in
    let same =
    same_reading (length image / 512)
    (sector_of image) new new es found None fault read.1 reading in
    (read.0, same.1, same.2)

pub copy_whole : (log image : List ℕ) (count sectors : ℕ) (new : Super) (found : List Entry)
    (fault : Option LogFault) → IsCopied log count sectors image
    → IsReading image new found fault
    → (fault ≡ None) × (length found ≡ count) × (new.sectorsize ≡ 4096)
copy_whole log image count sectors new found fault is reading =
    let read = copy_read log image count sectors new found fault is reading in
    let long = ap length (sym read.1) ∙ length-map is.entries (resized is.head.sectorsize 4096) in
    (sym read.2, long ∙ sym is.all, read.0)

pub copy_alike : (log image : List ℕ) (count sectors n : ℕ) (head new : Super)
    (es found : List Entry) (f g : Option LogFault) (first : Content)
    → IsCopied log count sectors image → IsReading log head es f → IsReading image new found g
    → replay new.sectorsize (take n found) first ≡ replay head.sectorsize (take n es) first
copy_alike log image count sectors n head new es found f g first is log_read image_read =
    let old =
    same_reading (length log / 512)
    (sector_of log) is.head head is.entries es None f is.reading log_read in
    let read = copy_read log image count sectors new found g is image_read in
    let is_size = size_of_head (sector_of log 0) is.head is.reading.super_block in
    grind (arith, read.0)
    ∙ ap (λ (xs : List Entry). replay 4096 (take n xs) first) (sym read.1)
    ∙ replay_first is.head.sectorsize 4096 n is.entries first is_size refl is.aligned
    ∙ ap (λ (h : Super). replay h.sectorsize (take n is.entries) first) old.0
    ∙ ap (λ (xs : List Entry). replay head.sectorsize (take n xs) first) old.1
