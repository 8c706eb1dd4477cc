-- Whole sectors, each stored without the bytes at the sector's end that repeat the byte before
-- them.
use Rattle.std.specs.Prelude.{slice_index, slice_range, ◌≡◌, ℕ, ◌+◌, ◌-◌, ◌*◌, ◌<◌, ◌≤◌, List, []}
use Rattle.std.specs.Prelude.{◌∷◌, ◌++◌, length, replicate}
use Rattle.bio.specs.Content.{AgreeBelow, Content, gather, sector_of}
use Rattle.sector_disk.specs.declared.runs.StoredNumbers.{StoredNumbers}
use Rattle.sector_disk.specs.declared.runs.StoredNumbers.TheVariants.{More, One}
use Rattle.sector_disk.specs.declared.runs.NumberRun.{NumberRun}

-- the sector that begins with `part`; the last byte of `part` fills the rest
abbrev pub refilled : List ℕ → List ℕ
refilled part = part ++ replicate (512 - length part) (slice_index part (length part - 1))

-- the stored bytes of a sector: the bytes between its bound and the next bound
abbrev pub part_at : List ℕ → List ℕ → ℕ → List ℕ
part_at bytes bounds sector =
    slice_range bytes (slice_index bounds sector) (slice_index bounds (sector + 1))

-- the sectors that `bytes` and `bounds` store
abbrev pub packed : List ℕ → List ℕ → Content
packed bytes bounds sector = refilled (part_at bytes bounds sector)

-- the bytes of all the sectors that `bytes` and `bounds` store
abbrev pub unpacked : List ℕ → List ℕ → List ℕ
unpacked bytes bounds = gather (packed bytes bounds) 0 (length bounds - 1)

-- the range from `from` to before `to` has at most 512 bytes, and is within `bytes`
pub record RangeIsPacked (bytes : List ℕ) (from to : ℕ) : Type 0 where
  pub order : from ≤ to
  pub few : to ≤ from + 512
  pub within : to ≤ length bytes

-- the range from each bound to the next has at most 512 bytes, and is within `bytes`
abbrev pub BoundsArePacked : List ℕ → List ℕ → Type 0
BoundsArePacked bytes bounds =
    (sector : ℕ) → sector + 1 < length bounds
    → RangeIsPacked bytes (slice_index bounds sector) (slice_index bounds (sector + 1))

-- `bytes` and `bounds` store at most 128 sectors
pub record ArePacked (bytes bounds : List ℕ) : Type 0 where
  pub some : 0 < length bounds
  pub few : length bounds ≤ 129
  pub parts : BoundsArePacked bytes bounds

-- `bytes` and `bounds` store the first `count` sectors of the image
pub record IsPackedTo (image bytes bounds : List ℕ) (count : ℕ) : Type 0 where
  pub counted : length bounds ≡ count + 1
  pub last : slice_index bounds count ≡ length bytes
  pub few : length bytes ≤ 512 * count
  pub parts : BoundsArePacked bytes bounds
  pub same : AgreeBelow count (sector_of image) (packed bytes bounds)

-- The list of numbers that `Runs` stores.

-- the numbers of the runs, one after another
abbrev pub unrolled : List NumberRun → List ℕ
unrolled [] = []
unrolled (run ∷ rest) = replicate run.count run.value ++ unrolled rest

-- the numbers that a `StoredNumbers` stores
abbrev pub held_values : StoredNumbers → List ℕ
held_values (One count value) = replicate count value
held_values (More runs) = unrolled runs.value.items
