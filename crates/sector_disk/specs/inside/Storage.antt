-- How a disk stores its past: its calls in order, and for each sector the index of the newest call
-- that put a value there.
use Rattle.std.specs.Prelude.{replicate, slice_get, nat_lt, Bool, true, false, unwrap_or, List, []}
use Rattle.std.specs.Prelude.{◌≡◌, ◌⊎◌, ℕ, suc, zero, ◌*◌, ◌+◌, ◌∷◌, ◌++◌, length, ◌/◌, ◌-◌, ◌<◌}
use Rattle.std.specs.Prelude.{◌≤◌, ◌==◌, ◌&&◌, not, nat_le, Option, None, Some}
use Rattle.bio.specs.Content.{Content, Patch, discards, sector_of, writes}
use Rattle.sector_disk.specs.Candidates.{Cache, Flushes, Puts, PastStep, cache_after, left_by}
use Rattle.sector_disk.specs.declared.call.PastCall.{PastCall}
use Rattle.sector_disk.specs.declared.call.PastChange.{PastChange}
use Rattle.sector_disk.specs.declared.call.PastChange.TheVariants.{Write, Image, Discard}

-- the values that a change puts from sector `first` on
abbrev pub change_values : ℕ → PastChange → Patch
change_values first (Write bytes) = writes first bytes
change_values first (Image bytes) = writes first bytes
change_values first (Discard count) = discards first count

-- the values that a call puts
abbrev pub change_values_of : PastCall → Patch
change_values_of call = change_values call.first call.change

-- the value that a call puts in a sector; zeroes if it puts none or there is no call
abbrev pub value_in : Option PastCall → Content
value_in None sector = replicate 512 0
value_in (Some call) sector = unwrap_or (change_values_of call sector) (replicate 512 0)

-- the value that the call at index `place` puts in a sector
abbrev pub value_at : List PastCall → ℕ → Content
value_at calls place = value_in (slice_get calls place)

-- the index of the call whose value the sector had before this call; 0 if there is none
abbrev pub before_in : Option PastCall → ℕ → ℕ
before_in None sector = 0
before_in (Some call) sector = unwrap_or (slice_get call.before (sector - call.first)) 0

abbrev pub before_at : List PastCall → ℕ → ℕ → ℕ
before_at calls place = before_in (slice_get calls place)

-- there is a call, and it was done without FUA
abbrev pub is_plain : Option PastCall → Bool
is_plain None = false
is_plain (Some call) = not call.fua

-- The call at index `place` isn't durable: it has no FUA, and came after the last flush or crash.
-- `synced` is the number of calls at that flush or crash.
abbrev pub is_open : List PastCall → ℕ → ℕ → Bool
is_open calls synced place = nat_le synced place && is_plain (slice_get calls place)

-- the past, followed by a flush if the flag is true; newest first
abbrev pub flushed_if : Bool → List PastStep → List PastStep
flushed_if true past = Flushes ∷ past
flushed_if false past = past

-- the past, then a flush if one came before the call, then the call's step; newest first
abbrev pub step_after : Option PastCall → List PastStep → List PastStep
step_after None past = past
step_after (Some call) past = Puts (change_values_of call) call.fua ∷ flushed_if call.after_flush past

-- the steps of the `n` calls from index `begun` on, newest first
abbrev pub stored_steps : List PastCall → ℕ → ℕ → List PastStep
stored_steps calls begun zero = []
stored_steps calls begun (suc n) = step_after (slice_get calls (begun + n)) (stored_steps calls begun n)

-- the steps of a disk's calls from index `begun` on, followed by a flush if `flushed`; newest first
abbrev pub past_of : List PastCall → ℕ → Bool → List PastStep
past_of calls begun flushed = flushed_if flushed (stored_steps calls begun (length calls - begun))

-- the index that `places` has for a sector; 0, the first call's, if the table is empty or shorter
abbrev pub place_of : List ℕ → ℕ → ℕ
place_of places sector = unwrap_or (slice_get places sector) 0

-- the content in which each sector has the value of the call whose index `places` has for it
abbrev pub content_at : List PastCall → List ℕ → Content
content_at calls places sector = value_at calls (place_of places sector) sector

-- the content of a disk with these fields, and what a crash may leave of it
abbrev pub stored_cache : List PastCall → List ℕ → ℕ → Bool → Cache
stored_cache calls base begun flushed =
    cache_after (content_at calls base) (past_of calls begun flushed)

-- the index of the sector's call that is `n` of its calls before the call at `place`
abbrev pub walk : List PastCall → ℕ → ℕ → ℕ → ℕ
walk calls sector zero place = place
walk calls sector (suc n) place = walk calls sector n (before_at calls place sector)

-- the sector's last `n` values up to the call at `place`, oldest first
abbrev pub back : List PastCall → ℕ → ℕ → ℕ → List (List ℕ)
back calls sector zero place = []
back calls sector (suc n) place =
    back calls sector n (before_at calls place sector) ++ value_at calls place sector ∷ []

-- the sector has `n` calls up to the call at `place`: the oldest of them is durable, the others are
-- open
abbrev pub is_chain : List PastCall → ℕ → ℕ → ℕ → ℕ → Bool
is_chain calls synced sector zero place = false
is_chain calls synced sector (suc zero) place =
    nat_lt place (length calls) && not (is_open calls synced place)
is_chain calls synced sector (suc (suc n)) place =
    nat_lt place (length calls)
    && (is_open calls synced place
    && is_chain calls synced sector (suc n) (before_at calls place sector))

-- the call at `place` is the newest of a sector with the value `now` and the candidates `may`
pub record IsPlaced (calls : List PastCall) (synced sector place : ℕ) (now : List ℕ)
    (may : List (List ℕ)) : Type 0 where
  pub value : value_at calls place sector ≡ now
  pub values : back calls sector (length may) place ≡ may
  pub chain : is_chain calls synced sector (length may) place ≡ true
  pub few : length may ≤ length calls

-- for each of the first `sectors` sectors, `newest` has the index of its newest call
pub record ArePlaced (calls : List PastCall) (synced sectors : ℕ) (newest : List ℕ)
    (cache : Cache) : Type 0 where
  pub each : (sector : ℕ) → sector < sectors
      → IsPlaced calls synced sector (place_of newest sector) (cache.now sector) (cache.may sector)

-- each index in the table is the index of a call
pub record PlacesAreWithin (calls : List PastCall) (places : List ℕ) : Type 0 where
  pub each : (sector : ℕ) → place_of places sector < length calls

-- a table of this length has an entry for each of the `sectors` sectors, or is empty
abbrev pub is_table : ℕ → ℕ → Bool
is_table sectors zero = true
is_table sectors (suc n) = suc n == sectors

-- the invariant of a disk's fields
pub record IsStorage (sectors : ℕ) (calls : List PastCall) (newest base : List ℕ) (begun synced : ℕ)
    (flushed : Bool) : Type 0 where
  pub some : 0 < sectors
  pub few : sectors ≤ 1048576
  pub table : is_table sectors (length newest) ≡ true
  pub base_length : length base ≤ length newest
  pub begun_within : begun ≤ length calls
  pub synced_some : 0 < synced
  pub synced_within : synced ≤ length calls
  pub synced_now : flushed ≡ true → synced ≡ length calls
  pub base_within : PlacesAreWithin calls base
  pub placed : ArePlaced calls synced sectors newest (stored_cache calls base begun flushed)

-- the invariant of the fields of a `RamDisk`: the table has an index of a call for each sector
pub record IsRam (sectors : ℕ) (calls : List PastCall) (newest : List ℕ) : Type 0 where
  pub some : 0 < sectors
  pub few : sectors ≤ 1048576
  pub table : length newest ≡ sectors
  pub within : PlacesAreWithin calls newest

-- The number of sectors of a change, and the table of newest calls after a call is added.

-- the number of sectors that a change covers
abbrev pub change_count : PastChange → ℕ
change_count (Write bytes) = length bytes / 512
change_count (Image bytes) = length bytes / 512
change_count (Discard count) = count

-- `new` is `old`, except that each of the `count` sectors from `first` on has `place`
pub record IsFilled (first count place : ℕ) (old new : List ℕ) : Type 0 where
  pub size : length new ≡ length old
  pub within : (sector : ℕ) → first ≤ sector → sector < first + count → place_of new sector ≡ place
  pub outside : (sector : ℕ) → (sector < first) ⊎ (first + count ≤ sector)
      → place_of new sector ≡ place_of old sector

-- The table that `choose` makes: for each sector, the call whose value the picks of a crash leave.

-- `chosen` has, for each sector below `count`, the index of a call whose value in the sector is the
-- one that the picks leave
pub record AreChosen (calls : List PastCall) (cache : Cache) (picks : List ℕ) (count : ℕ)
    (chosen : List ℕ) : Type 0 where
  pub value : (sector : ℕ) → sector < count
      → value_at calls (place_of chosen sector) sector ≡ left_by cache picks sector
  pub within : (sector : ℕ) → sector < count → place_of chosen sector < length calls

-- The content of an image after later calls put their values over it. The image is the data of a
-- disk's first call; `later` are the calls after it.

-- the change is a write of `count` sectors
abbrev pub is_write_of : PastChange → ℕ → Bool
is_write_of (Write bytes) count = length bytes == count * 512
is_write_of (Image bytes) count = false
is_write_of (Discard n) count = false

-- the call is a write of `count` sectors from sector 0 on
abbrev pub is_image_in : Option PastCall → ℕ → Bool
is_image_in None count = false
is_image_in (Some call) count = (call.first == 0) && is_write_of call.change count

-- the sector's value by the call at index `place`: the image's value for the first call, or else
-- the value of a later call
abbrev pub left_at : List PastCall → List ℕ → ℕ → Content
left_at later image zero sector = sector_of image sector
left_at later image (suc place) sector = value_at later place sector

-- the content in which each sector has the value of the call whose index `places` has for it
abbrev pub put_over : List PastCall → List ℕ → List ℕ → Content
put_over later places image sector = left_at later image (place_of places sector) sector
