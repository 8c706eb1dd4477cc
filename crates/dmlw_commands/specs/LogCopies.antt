-- The result of `copy`: the log in a file is copied to a new log with sectors of 4,096 bytes. A
-- disk has sectors of 512 bytes.
use Rattle.std.specs.Prelude.{length, map, slice_get, take, ◌≡◌, ℕ, ◌+◌, ◌*◌, ◌≤◌, IsTrue, List}
use Rattle.std.specs.Prelude.{◌++◌, Option, None, Some, codes}
use Rattle.std.specs.Fmt.{decimal}
use Rattle.std.specs.Io.KnownBytes.{Keeps}
use Rattle.std.specs.List.{list_all}
use Rattle.refusals.specs.declared.run_error.End.TheVariants as ends
use Rattle.refusals.specs.declared.run_error.RunError.{RunError}
use Rattle.refusals.specs.declared.run_error.RunError.TheVariants.{StoppedAfter}
use Rattle.refusals.specs.Errors.{IsFileError, memory_error}
use Rattle.bio.specs.Content.{sector_of}
use Rattle.blockdev.specs.View.{View}
use Rattle.log_format.specs.declared.decode.Super.{Super}
use Rattle.log_format.specs.declared.entry.Entry.{Entry}
use Rattle.log_format.specs.Entries.{sectors_of}
use Rattle.log_format.specs.LogOf.{IsLogOf, log_sectors, next_sector}
use Rattle.log_store.specs.Store.{Store}
use Rattle.log_reader.specs.declared.fault.LogFault.{LogFault}
use Rattle.log_reader.specs.declared.fault.ReadDeviceError.TheVariants as reads
use Rattle.log_reader.specs.DiskLog.{IsReading}
use Rattle.replay.specs.Copies.{IsUnaligned, is_aligned_to, resized}
use Rattle.replay.specs.declared.fault.CopyError.{CopyError}
use Rattle.replay.specs.declared.fault.CopyError.TheVariants as copies
use Rattle.replay.specs.declared.fault.CopyFault.{CopyFault}
use Rattle.replay.specs.Refusals.{copy_refusal}
use Rattle.dmlw_files.specs.Files.{FileHoldsImage, IsImage, MatchesContents}
use Rattle.dmlw_commands.specs.Lists.{RefusesImage}
use Rattle.dmlw_commands.specs.Makings.{MakesImage, Making}
use Rattle.dmlw_commands.specs.Seen.{Effect}

-- The line that `copy` prints: how many entries it copied.
abbrev pub copied_line : ℕ → List ℕ
copied_line count = codes "copied " ++ (decimal count ++ codes "\n")

-- The log in the image `log` has `count` entries and no fault. The place and length in bytes of
-- each entry are multiples of 4,096.
--
-- `image` has `sectors` sectors and holds a log of the same entries in sectors of 4,096 bytes. Each
-- entry keeps its flags, its body, and its place and length in bytes.
pub record IsCopied (log : List ℕ) (count sectors : ℕ) (image : List ℕ) : Type 0 where
  pub head : Super
  pub entries : List Entry
  pub reading : IsReading log head entries None
  pub all : count ≡ length entries
  pub aligned : IsTrue (list_all (is_aligned_to head.sectorsize 4096) entries)
  pub size : length image ≡ 512 * sectors
  pub copied : IsLogOf sectors (sector_of image) 4096 (map (resized head.sectorsize 4096) entries)

-- The entry at index `place` doesn't fit the new log, after the entries before it. `from` is the
-- old log's sector size; the new log has sectors of 4,096 bytes, on a disk of `sectors` sectors.
pub record LacksRoom (from : ℕ) (es : List Entry) (place sectors : ℕ) : Type 0 where
  pub next : Entry
  pub there : slice_get es place ≡ Some next
  pub full : log_sectors 4096 sectors ≤ next_sector
      (map (resized from 4096) (take place es)) + sectors_of (resized from 4096 next)

-- Why a copy stopped after `applied` entries. The old log has the super block `head`, the entries
-- `es` and the fault `fault`. The new log's disk has `sectors` sectors. If memory ran out, nothing
-- more is claimed.
abbrev pub CopyHasStopCause : Super → List Entry → Option LogFault → ℕ → ℕ → CopyError → Type 0
CopyHasStopCause head es fault sectors applied (copies.Log (reads.Log found)) =
    (fault ≡ Some found) × (applied ≡ length es)
CopyHasStopCause head es fault sectors applied (copies.Log reads.Memory) = Unit {0}
CopyHasStopCause head es fault sectors applied copies.Unaligned =
    IsUnaligned head.sectorsize 4096 es applied
CopyHasStopCause head es fault sectors applied (copies.Store ends.Full) =
    LacksRoom head.sectorsize es applied sectors
CopyHasStopCause head es fault sectors applied (copies.Store ends.Memory) = Unit {0}
CopyHasStopCause head es fault sectors applied other = ⊥

-- The copy of the log in the image `log` to a disk of `sectors` sectors stopped with `stop`.
pub record StopsCopy (log : List ℕ) (sectors : ℕ) (stop : CopyFault) : Type 0 where
  pub head : Super
  pub entries : List Entry
  pub fault : Option LogFault
  pub reading : IsReading log head entries fault
  pub within : stop.applied ≤ length entries
  pub aligned : IsTrue (list_all (is_aligned_to head.sectorsize 4096) (take stop.applied entries))
  pub cause : CopyHasStopCause head entries fault sectors stop.applied stop.cause

-- The command's fault if a copy stopped.
abbrev pub copy_stopped : CopyFault → RunError
copy_stopped stop = StoppedAfter stop.applied (copy_refusal stop.cause)

-- Why the log in an image isn't copied: memory ran out, the image can't be opened as a log, or the
-- copy stopped.
pub data FailsOnImage (log : List ℕ) (sectors : ℕ) : RunError → Type 0 where
  memory : FailsOnImage log sectors memory_error
  unopened : (fault : RunError) → RefusesImage log fault
      → FailsOnImage log sectors fault
  stopped : (stop : CopyFault) → StopsCopy log sectors stop
      → FailsOnImage log sectors (copy_stopped stop)

-- Why the log in a file isn't copied.
-- - `file`: the file can't be used, or memory ran out. If the file is known to hold an image, the
--   fault is that memory ran out.
-- - `of_image`: the copy of the file's image fails.
pub data FailsCopy (log_file : Option (List ℕ)) (sectors : ℕ) : RunError → Type 0 where
  file : (fault : RunError) → IsFileError fault → (FileHoldsImage log_file → fault ≡ memory_error)
      → FailsCopy log_file sectors fault
  of_image : (log : List ℕ) (stop : RunError) → MatchesContents log_file log → IsImage log
      → FailsOnImage log sectors stop → FailsCopy log_file sectors stop

-- The log in a file was copied, with `count` entries. `image` is the new log's disk.
pub record IsCopiedFrom (log_file : Option (List ℕ)) (count sectors : ℕ)
    (image : List ℕ) : Type 0 where
  pub log : List ℕ
  pub log_read : MatchesContents log_file log
  pub log_image : IsImage log
  pub copied : IsCopied log count sectors image

-- What `copy` makes: the image of the new log's disk, and the line with the count. If it fails, it
-- prints nothing.
abbrev pub copying : Option (List ℕ) → ℕ → Making ℕ
copying log_file sectors = record {
  makes = λ count lines image.
      IsCopiedFrom log_file count sectors image × (lines ≡ copied_line count);
  fails = λ before after stop. FailsCopy log_file sectors stop × Keeps before after;
}

-- What `copy` does: it copies the log in the file `log` to a disk of `sectors` sectors. The file
-- `name` gets the disk's image.
abbrev pub Copies : List ℕ → List ℕ → ℕ → Effect ℕ
Copies log name sectors = MakesImage (λ files. copying (files log) sectors) log name

-- A finished copy, on disks in memory: what the new log's disk holds.

-- `store` is a new log with sectors of 4,096 bytes and no entries, on a disk of `sectors` sectors.
pub record IsBegun (sectors : ℕ) (store : Store) : Type 0 where
  pub size : store.device.size ≡ sectors
  pub sector_bytes : store.sector_bytes ≡ 4096
  pub placed : store.placed ≡ 0
  pub end : store.end ≡ None

-- The log in the image `log` has `count` entries and no fault. The place and length in bytes of
-- each entry are multiples of 4,096. The device `v` has `sectors` sectors, and holds a log of the
-- same entries in sectors of 4,096 bytes.
pub record IsCopiedOn (log : List ℕ) (count sectors : ℕ) (v : View) : Type 0 where
  pub head : Super
  pub entries : List Entry
  pub reading : IsReading log head entries None
  pub all : count ≡ length entries
  pub aligned : IsTrue (list_all (is_aligned_to head.sectorsize 4096) entries)
  pub size : v.size ≡ sectors
  pub copied : IsLogOf sectors v.content 4096 (map (resized head.sectorsize 4096) entries)
