-- The content of a device's sectors, and patches: the values that a write or a discard puts there.
use Rattle.std.specs.Prelude.{if◌then◌else◌, Some, None, unwrap_or, List, length, take, drop}
use Rattle.std.specs.Prelude.{replicate, ◌⊎◌, ◌≡◌, ℕ, ◌+◌, ◌-◌, ◌*◌, ◌/◌, ◌<◌, ◌≤◌, ◌&&◌, nat_le}
use Rattle.std.specs.Prelude.{nat_lt, Option}
use Rattle.bio.specs.Places.{collect}

-- The content of a device's sectors, and the values that a write or a discard puts there. The law
-- of block devices and the replay of logs are stated with these definitions.

-- the bytes of each sector of a device
abbrev pub Content : Type 0
Content = ℕ → List ℕ

-- the content of an image, with 512 bytes for each sector
abbrev pub sector_of : List ℕ → Content
sector_of bytes sector = take 512 (drop (512 * sector) bytes)

-- the bytes of the `count` sectors from `first` on, one after another
abbrev pub gather : Content → ℕ → ℕ → List ℕ
gather content first count = collect (λ place. content (first + place)) count

-- the content has the whole sectors of `bytes` from sector `first` on
abbrev pub HasBytes : Content → ℕ → List ℕ → Type 0
HasBytes content first bytes =
    (sector : ℕ) → sector < length bytes / 512 → content (first + sector) ≡ sector_of bytes sector

-- `old` and `new` are equal below sector `end`
abbrev pub AgreeBelow : ℕ → Content → Content → Type 0
AgreeBelow end old new = (sector : ℕ) → sector < end → new sector ≡ old sector

-- `old` and `new` are equal from sector `from` to before `to`
abbrev pub AgreeWithin : ℕ → ℕ → Content → Content → Type 0
AgreeWithin from to old new = (sector : ℕ) → from ≤ sector → sector < to → new sector ≡ old sector

-- the content without its first `offset` sectors: its sector 0 is sector `offset` of `content`
abbrev pub moved : ℕ → Content → Content
moved offset content sector = content (offset + sector)

-- each sector of a disk of `disk` sectors has 512 bytes
abbrev pub HasWholeSectors : ℕ → Content → Type 0
HasWholeSectors disk content = (sector : ℕ) → sector < disk → length (content sector) ≡ 512

-- the values that a call of a device puts: for each sector a value, or none
abbrev pub Patch : Type 0
Patch = ℕ → Option (List ℕ)

-- the patch has no values below sector `end`
abbrev pub HasNoneBelow : ℕ → Patch → Type 0
HasNoneBelow end patch = (sector : ℕ) → sector < end → patch sector ≡ None

-- each value of the patch has 512 bytes
abbrev pub HasWholeValues : Patch → Type 0
HasWholeValues patch =
    (sector : ℕ) (value : List ℕ) → patch sector ≡ Some value → length value ≡ 512

-- the patch that has `value k` for the sector `first + k`, for each `k` below `count`
unfoldable pub over : ℕ → ℕ → (ℕ → List ℕ) → Patch
over first count value sector =
    if nat_le first sector && nat_lt sector (first + count) then Some
    (value (sector - first)) else None

-- the values that a write puts: the whole sectors of `bytes`
abbrev pub writes : ℕ → List ℕ → Patch
writes first bytes = over first (length bytes / 512) (sector_of bytes)

-- the values that a discard puts: zeroes
abbrev pub discards : ℕ → ℕ → Patch
discards first count = over first count (λ _. replicate 512 0)

-- the patch of a call that changes nothing
abbrev pub nothing : Patch
nothing sector = None

-- the content after all values of the patch are put
abbrev pub put : Patch → Content → Content
put patch content sector = unwrap_or (patch sector) (content sector)

-- `new` is `old` with the patch's values in some of their sectors, in none or in all
abbrev pub Patched : Patch → Content → Content → Type 0
Patched patch old new =
    (sector : ℕ) → (new sector ≡ old sector) ⊎ (new sector ≡ put patch old sector)

-- Parts of a patch: its values below a sector or between two, and two parts that join to a whole.
-- Proofs about layers that do a call block by block, and about the writes of a log, use them.

-- the patch's values below sector `end`
abbrev pub below : ℕ → Patch → Patch
below end patch sector = if nat_lt sector end then patch sector else None

-- the patch's values from sector `from` to before `to`
abbrev pub between : ℕ → ℕ → Patch → Patch
between from to patch sector = if nat_le from sector && nat_lt sector to then patch sector else None

-- the patch has no values from sector `end` on
abbrev pub HasNoneFrom : ℕ → Patch → Type 0
HasNoneFrom end patch = (sector : ℕ) → end ≤ sector → patch sector ≡ None

-- the patches have the same values
abbrev pub SameValues : Patch → Patch → Type 0
SameValues patch other = (sector : ℕ) → patch sector ≡ other sector

-- for each sector, `part` has no value or the same as `whole`
abbrev pub IsPart : Patch → Patch → Type 0
IsPart part whole = (sector : ℕ) → (part sector ≡ None) ⊎ (part sector ≡ whole sector)

-- if `first` is put and then `second`, the values of `whole` are put
abbrev pub Joins : Patch → Patch → Patch → Type 0
Joins first second whole = (sector : ℕ) →
    ((second sector ≡ None) × (first sector ≡ whole sector))
    ⊎ ((value : List ℕ) × (second sector ≡ Some value) × (whole sector ≡ Some value))
