-- The result of `replay`: the log in a file is replayed on the image in another file.
use Rattle.std.specs.Prelude.{◌≡◌, ℕ, ◌/◌, ◌<◌, ◌≤◌, List, ◌++◌, Option, None, Some, codes, length}
use Rattle.std.specs.Fmt.{decimal}
use Rattle.std.specs.Io.KnownBytes.{Keeps}
use Rattle.refusals.specs.declared.run_error.RunError.{RunError}
use Rattle.refusals.specs.declared.run_error.RunError.TheVariants.{StoppedAfter}
use Rattle.refusals.specs.Errors.{IsFileError, memory_error, refused_by}
use Rattle.refusals.specs.Words.{IsNumber}
use Rattle.bio.specs.Content.{AgreeBelow, sector_of}
use Rattle.bio.specs.declared.outcome.DevError.TheVariants as devices
use Rattle.blockdev.specs.View.{View}
use Rattle.log_format.specs.declared.decode.Super.{Super}
use Rattle.log_format.specs.declared.entry.Entry.{Entry}
use Rattle.log_format.specs.Replay.{replay}
use Rattle.log_reader.specs.declared.fault.LogFault.{LogFault}
use Rattle.log_reader.specs.declared.fault.ReadDeviceError.TheVariants as reads
use Rattle.log_reader.specs.DiskLog.{IsReading}
use Rattle.log_reader.specs.Refusals.{open_device_refusal}
use Rattle.replay.specs.declared.fault.ReplayError.{ReplayError}
use Rattle.replay.specs.declared.fault.ReplayError.TheVariants as replays
use Rattle.replay.specs.declared.fault.ReplayFault.{ReplayFault}
use Rattle.replay.specs.declared.replaying.Upto.{Upto}
use Rattle.replay.specs.declared.replaying.Upto.TheVariants as uptos
use Rattle.replay.specs.Refusals.{replay_refusal}
use Rattle.replay.specs.Replays.{AsksTooMany, EndsShort, IsUpto, LacksFlush, LacksMark, ReachesPast}
use Rattle.replay.specs.Replays.{entries_from}
use Rattle.headline.specs.declared.reopening.ReopenError.{ReopenError}
use Rattle.headline.specs.declared.reopening.ReopenError.TheVariants as reopens
use Rattle.dmlw_files.specs.Files.{FileHoldsImage, IsImage, MatchesContents}
use Rattle.dmlw_commands.specs.Lists.{RefusesImage}
use Rattle.dmlw_commands.specs.Makings.{MakesImage, Making}
use Rattle.dmlw_commands.specs.Seen.{Effect}

-- The line that `replay` prints: how many entries it replayed.
abbrev pub replayed_line : ℕ → List ℕ
replayed_line count = codes "replayed " ++ (decimal count ++ codes "\n")

-- `log` and `first` are images. The files hold them, as far as the files' contents are known.
pub record AreImages (log_file first_file : Option (List ℕ)) (log first : List ℕ) : Type 0 where
  pub log_read : MatchesContents log_file log
  pub log_image : IsImage log
  pub first_read : MatchesContents first_file first
  pub first_image : IsImage first

-- `upto` asks for the first `count` entries of the log in the image `log`. `image` has the size of
-- the image `first`, and the content of `first` after these entries are replayed.
pub record ImageIsReplayed (log first : List ℕ) (upto : Upto) (count : ℕ) (image : List ℕ) : Type 0 where
  pub head : Super
  pub entries : List Entry
  pub fault : Option LogFault
  pub reading : IsReading log head entries fault
  pub named : IsUpto upto entries 0 count
  pub within : 0 < count → count ≤ length entries
  pub size : length image ≡ length first
  pub content : AgreeBelow (length first / 512)
      (replay head.sectorsize (entries_from entries 0 count) (sector_of first)) (sector_of image)

-- Why a replay stopped after `applied` entries on a disk of `disk` sectors. The log has the super
-- block `head`, the entries `es` and the fault `fault`. Its reader had not failed before. If memory
-- ran out, nothing more is claimed.
abbrev pub ReplayHasStopCause : Upto → Super → List Entry → Option LogFault → ℕ → ℕ → ReplayError → Type 0
ReplayHasStopCause upto head es fault disk applied replays.PastEntries =
    (applied ≡ 0) × AsksTooMany upto head.count 0
ReplayHasStopCause upto head es fault disk applied replays.NoSuchMark =
    (applied ≡ 0) × LacksMark upto es 0 × (fault ≡ None)
ReplayHasStopCause upto head es fault disk applied replays.NoFlush =
    (applied ≡ 0) × LacksFlush upto es 0 × (fault ≡ None)
ReplayHasStopCause upto head es fault disk applied replays.PastTarget =
    ReachesPast head.sectorsize es applied disk
ReplayHasStopCause upto head es fault disk applied (replays.Log (reads.Log found)) =
    (fault ≡ Some found) × EndsShort upto es 0 applied
ReplayHasStopCause upto head es fault disk applied (replays.Log reads.Memory) = Unit {0}
ReplayHasStopCause upto head es fault disk applied (replays.Target devices.Memory) = Unit {0}
ReplayHasStopCause upto head es fault disk applied other = ⊥

-- The replay of the log in the image `log` on the image `first` stopped with `stop`.
pub record StopsReplay (log first : List ℕ) (upto : Upto) (stop : ReplayFault) : Type 0 where
  pub head : Super
  pub entries : List Entry
  pub fault : Option LogFault
  pub reading : IsReading log head entries fault
  pub within : 0 < stop.applied → stop.applied ≤ length entries
  pub cause : ReplayHasStopCause upto head entries fault (length first / 512) stop.applied stop.cause

-- The command's fault if a replay stopped.
abbrev pub replay_stopped : ReplayFault → RunError
replay_stopped stop = StoppedAfter stop.applied (replay_refusal stop.cause)

-- Why a log isn't replayed on a first image: memory ran out, the image can't be opened as a log, or
-- the replay stopped.
pub data FailsOnImages (log first : List ℕ) (upto : Upto) : RunError → Type 0 where
  memory : FailsOnImages log first upto memory_error
  unopened : (fault : RunError) → RefusesImage log fault
      → FailsOnImages log first upto fault
  stopped : (stop : ReplayFault) → StopsReplay log first upto stop
      → FailsOnImages log first upto (replay_stopped stop)

-- Why the log in a file isn't replayed.
-- - `file`: a file can't be used, or memory ran out. If both files are known to hold images, the
--   fault is that memory ran out.
-- - `images`: the replay of the files' images fails.
pub data FailsReplay (log_file first_file : Option (List ℕ)) (upto : Upto) : RunError → Type 0 where
  file : (fault : RunError) → IsFileError fault
      → (FileHoldsImage log_file → FileHoldsImage first_file → fault ≡ memory_error)
      → FailsReplay log_file first_file upto fault
  images : (log first : List ℕ) (stop : RunError) → AreImages log_file first_file log first
      → FailsOnImages log first upto stop
      → FailsReplay log_file first_file upto stop

-- `count` entries of the log in a file were replayed, and `image` is the result.
pub record IsReplayedFrom (log_file first_file : Option (List ℕ)) (upto : Upto) (count : ℕ)
    (image : List ℕ) : Type 0 where
  pub log : List ℕ
  pub first : List ℕ
  pub files : AreImages log_file first_file log first
  pub replayed : ImageIsReplayed log first upto count image

-- What `replay` makes: the resulting image, and the line with the count. If it fails, it prints
-- nothing.
abbrev pub replaying : Option (List ℕ) → Option (List ℕ) → Upto → Making ℕ
replaying log_file first_file upto = record {
  makes = λ count lines image.
      IsReplayedFrom log_file first_file upto count image × (lines ≡ replayed_line count);
  fails = λ before after stop. FailsReplay log_file first_file upto stop × Keeps before after;
}

-- What `replay` does: it replays the log in the file `log` on the image in the file `first`. The
-- file `name` gets the resulting image.
abbrev pub ReplaysLog : List ℕ → List ℕ → List ℕ → Upto → Effect ℕ
ReplaysLog log first name upto =
    MakesImage (λ files. replaying (files log) (files first) upto) log name

-- The word of `replay` that names the end of the replay.

-- The word names this end of a replay: a number of entries, the first mark with a text, or the
-- first flush.
abbrev pub IsWhat : List ℕ → Upto → Type 0
IsWhat word (uptos.Count n) =
    (digits : List ℕ) × (word ≡ codes "entries:" ++ digits) × IsNumber digits n
IsWhat word (uptos.Mark text) = word ≡ codes "mark:" ++ text.now
IsWhat word uptos.Flush = word ≡ codes "flush"

-- The word names no end of a replay.
abbrev pub IsNoWhat : List ℕ → Type 0
IsNoWhat word = (upto : Upto) → IsWhat word upto → ⊥

-- What a disk in memory holds after a replay, and why a replay stops.

-- `upto` asks for the first `count` entries of the log in the image `log`. The device `v` has the
-- size of the image `first`, and the content of `first` after these entries are replayed.
pub record IsReplayedOn (log first : List ℕ) (upto : Upto) (count : ℕ) (v : View) : Type 0 where
  pub head : Super
  pub entries : List Entry
  pub fault : Option LogFault
  pub reading : IsReading log head entries fault
  pub named : IsUpto upto entries 0 count
  pub within : 0 < count → count ≤ length entries
  pub size : v.size ≡ length first / 512
  pub content : AgreeBelow (length first / 512)
      (replay head.sectorsize (entries_from entries 0 count) (sector_of first)) v.content

-- The fault of `replay` if the log can't be opened, or if the replay stops.
abbrev pub stop_by : ReopenError → RunError
stop_by (reopens.Open error) = refused_by (open_device_refusal error)
stop_by (reopens.Replay stop) = replay_stopped stop
