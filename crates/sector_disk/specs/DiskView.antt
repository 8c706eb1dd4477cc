-- The view of a `SectorDisk`: its first content, its past, and the exact effect of each call.
use Rattle.std.specs.Prelude.{◌≡◌, ℕ, ◌/◌, ◌%◌, ◌<◌, ◌≤◌, false, Result, Ok, Err, List, [], ◌∷◌}
use Rattle.std.specs.Prelude.{length}
use Rattle.bio.specs.Content.{Content, discards, gather, writes}
use Rattle.bio.specs.declared.outcome.DevError.{DevError}
use Rattle.bio.specs.declared.outcome.DevError.TheVariants.{Io, Memory}
use Rattle.blockdev.specs.View.{Call, View}
use Rattle.blockdev.specs.View as calls
use Rattle.blockdev.specs.Law.{FlushDone}
use Rattle.sector_disk.specs.Candidates.{Cache, Flushes, Puts, PastStep, cache_after, view_of}
use Rattle.sector_disk.specs.declared.disk.SectorDisk.{SectorDisk}
use Rattle.sector_disk.specs.inside.Storage.{content_at, past_of}

-- the content when the disk's past began
abbrev pub start_of : SectorDisk → Content
start_of disk = content_at disk.calls.items disk.base.items

-- the steps of the disk's past, newest first
abbrev pub past_steps : SectorDisk → List PastStep
past_steps disk = past_of disk.calls.items disk.begun disk.flushed

-- the disk's content, and what a crash may leave of it
abbrev pub cache_of : SectorDisk → Cache
cache_of disk = cache_after (start_of disk) (past_steps disk)

-- the view of the disk in contracts
abbrev pub shown_of : SectorDisk → View
shown_of disk = view_of disk.sectors (start_of disk) (past_steps disk)

-- `new` has the past `steps`, and the size and first content of `old`
pub record HasPast (old new : SectorDisk) (steps : List PastStep) : Type 0 where
  pub sectors : new.sectors ≡ old.sectors
  pub start : start_of new ≡ start_of old
  pub past : past_steps new ≡ steps

-- the past after a flush; a flush that follows another adds nothing
abbrev pub flushed_after : List PastStep → List PastStep
flushed_after [] = Flushes ∷ []
flushed_after (Flushes ∷ past) = Flushes ∷ past
flushed_after (Puts patch fua ∷ past) = Flushes ∷ Puts patch fua ∷ past

-- The result of a call that takes memory. Either the result is an Ok with the time `now`, and
-- `done` holds. Or an allocation failed, and `unchanged` holds.
abbrev pub IsDoneOrRefused : ℕ → Result ℕ DevError → Type 0 → Type 0 → Type 0
IsDoneOrRefused now (Ok end) done unchanged = (end ≡ now) × done
IsDoneOrRefused now (Err Memory) done unchanged = unchanged
IsDoneOrRefused now (Err Io) done unchanged = ⊥

-- The exact effect and result of a call of a disk.
abbrev pub DoesOnDisk : SectorDisk → Call → ℕ → Result ℕ DevError → SectorDisk → Type 0
DoesOnDisk old (calls.Reads first before after) now result new =
    (result ≡ Ok now) × HasPast old new (past_steps old)
    × (after ≡ gather (cache_of old).now first (length before / 512))
DoesOnDisk old (calls.Writes first bytes fua) now result new =
    IsDoneOrRefused now result (HasPast old new (Puts (writes first bytes) fua ∷ past_steps old))
    (HasPast old new (past_steps old))
DoesOnDisk old (calls.Discards first count) now result new =
    IsDoneOrRefused now result (HasPast old new (Puts (discards first count) false ∷ past_steps old))
    (HasPast old new (past_steps old))
DoesOnDisk old calls.Flushes now result new =
    (result ≡ Ok now) × HasPast old new (flushed_after (past_steps old))

-- The sizes that a disk and its image may have, and the view of a disk whose past begins.

-- a disk may have `sectors` sectors
pub record IsDiskSize (sectors : ℕ) : Type 0 where
  pub some : 0 < sectors
  pub few : sectors ≤ 1048576

-- an image of a disk may have `length` bytes: 1 to 1,048,576 whole sectors
pub record IsImageSize (length : ℕ) : Type 0 where
  pub whole : length % 512 ≡ 0
  pub some : 0 < length
  pub few : length / 512 ≤ 1048576

-- The past of a device of `sectors` sectors begins with the content `start`: a crash leaves only
-- this content, and the clock is at 0.
pub record PastBegins (sectors : ℕ) (start : Content) (v : View) : Type 0 where
  pub size : v.size ≡ sectors
  pub content : (sector : ℕ) → sector < sectors → v.content sector ≡ start sector
  pub only : FlushDone v
  pub clock : v.clock ≡ 0
