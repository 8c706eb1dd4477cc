-- The view of a `RamDisk`, and the effect of each of its calls.
use Rattle.std.specs.Prelude.{◌≡◌, ◌<◌, ℕ, ◌/◌, List, Result, Ok, Err, false, length, true}
use Rattle.bio.specs.Content.{Content, HasWholeSectors, Patch, Patched, discards, gather, put}
use Rattle.bio.specs.Content.{sector_of, writes}
use Rattle.bio.specs.declared.outcome.DevError.{DevError}
use Rattle.bio.specs.declared.outcome.DevError.TheVariants.{Io, Memory}
use Rattle.blockdev.specs.OwnCounts.{sum_of}
use Rattle.blockdev.specs.View.{Call, IsLawful, View}
use Rattle.blockdev.specs.View as calls
use Rattle.sector_disk.specs.declared.disk.ram.RamDisk.{RamDisk}
use Rattle.std.proofs.Common.{arith}
use Rattle.sector_disk.specs.CandidateLaws.{value_at-whole}
use Rattle.sector_disk.specs.inside.Storage.{content_at, place_of}

-- The view of a disk of `size` sectors with this content, of which `faults` calls failed. A crash
-- may leave any content of whole sectors.
abbrev pub view_in : ℕ → Content → ℕ → View
view_in size content faults = record {
  size = size;
  origin = record { sector = 0; disk = size };
  content = content;
  crash = HasWholeSectors size;
  clock = 0;
  since = λ _. HasWholeSectors size;
  faults = faults;
  lies = 0;
  can_lie = false;
}

-- the view of the disk in contracts
abbrev pub ram_view : RamDisk → View
ram_view disk =
    view_in disk.sectors (content_at disk.calls.items disk.newest.items) disk.faults

-- the view has the size and the content of an image, and no call failed
pub record HoldsImage (image : List ℕ) (v : View) : Type 0 where
  pub size : v.size ≡ length image / 512
  pub content : (sector : ℕ) → sector < length image / 512 → v.content sector ≡ sector_of image sector
  pub faults : v.faults ≡ 0

-- The result of a call that puts values. With an Ok all of them are put, and otherwise some may be.
-- Lack of memory isn't counted as a fault.
abbrev pub PutsValues : Patch → ℕ → Result ℕ DevError → View → View → Type 0
PutsValues patch now (Ok end) old new =
    (end ≡ now) × ((sector : ℕ) → new.content sector ≡ put patch old.content sector)
    × (new.faults ≡ old.faults)
PutsValues patch now (Err Memory) old new =
    Patched patch old.content new.content × (new.faults ≡ old.faults)
PutsValues patch now (Err Io) old new = ⊥

-- the call failed and is counted, and the content is unchanged
pub record IsFailed (result : Result ℕ DevError) (old new : View) : Type 0 where
  pub error : result ≡ Err Io
  pub content : new.content ≡ old.content
  pub faults : new.faults ≡ sum_of old.faults 1

-- The effect and result of a call. What would have to be durable fails.
abbrev pub DoesInRam : RamDisk → Call → ℕ → Result ℕ DevError → RamDisk → Type 0
DoesInRam old (calls.Reads first before after) now result new =
    (result ≡ Ok now) × (new ≡ old)
    × (after ≡ gather (ram_view old).content first (length before / 512))
DoesInRam old (calls.Writes first bytes false) now result new =
    PutsValues (writes first bytes) now result (ram_view old) (ram_view new)
DoesInRam old (calls.Writes first bytes true) now result new =
    IsFailed result (ram_view old) (ram_view new)
DoesInRam old (calls.Discards first count) now result new =
    PutsValues (discards first count) now result (ram_view old) (ram_view new)
DoesInRam old calls.Flushes now result new = IsFailed result (ram_view old) (ram_view new)

pub ram_lawful : (disk : RamDisk) → IsLawful (ram_view disk)
ram_lawful disk = record {
  some_sectors = disk.kept.some;
  few_sectors = disk.kept.few;
  current = λ sector below. value_at-whole disk.calls.items (place_of disk.newest.items sector) sector;
  nested = λ reading left within may. may;
  only_now = λ left may. may;
  whole = λ reading left within may. may;
  faults = disk.counted;
  lies = omega arith;
}
