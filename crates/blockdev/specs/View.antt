-- The view of a block device in contracts, its calls, and calls one after another.
use Rattle.std.specs.Prelude.{◌≡◌, ◌⊎◌, ℕ, ◌+◌, ◌/◌, ◌%◌, Bool, List, [], ◌∷◌, Result, Ok, Err, ◌-◌}
use Rattle.std.specs.Prelude.{◌<◌, ◌≤◌, ◌^◌}
use Rattle.bio.specs.Content.{Content, HasWholeSectors}
use Rattle.bio.specs.declared.outcome.DevError.{DevError}

-- The view of a block device in contracts: its content, what a crash may leave, faults and lies.
-- `Law` defines how a call changes it; each `BlockDev` satisfies `IsLawful` at all times.

-- The position of a device on the disk below all layers: its first sector there, and the number of
-- sectors of that disk.
pub record Origin : Type 0 where
  pub sector : ℕ
  pub disk : ℕ

-- The view of a device in contracts. `clock` is the reading of the device's own clock, which only
-- contracts see.
pub record View : Type 1 where
  -- its number of sectors
  pub size : ℕ
  -- its position on the disk below all layers
  pub origin : Origin
  -- the content that a read returns
  pub content : Content
  -- the contents that a crash now may leave
  pub crash : Content → Type 0
  -- the reading of its clock
  pub clock : ℕ
  -- the contents that a crash may have left since the clock had this reading: between two calls, or
  -- during one
  pub since : ℕ → Content → Type 0
  -- the number of failed calls, and of calls reported done that weren't; both stop at 2^64 - 1
  pub faults : ℕ
  pub lies : ℕ
  -- whether it, or a device below it, may ever report a call done that wasn't
  pub can_lie : Bool

-- the maximum of a count of faults or lies
abbrev pub last_count : ℕ
last_count = 2 ^ 64 - 1

-- the properties that a device always has
pub record IsLawful (v : View) : Type 0 where
  pub some_sectors : 0 < v.size
  pub few_sectors : v.size ≤ 1048576
  -- a crash may leave the content
  pub current : v.crash v.content
  -- if a crash now may leave a content, a crash since any earlier reading may have left it
  pub nested : (reading : ℕ) (left : Content) → reading ≤ v.clock → v.crash left
      → v.since reading left
  -- if a crash since now may have left a content, a crash now may leave it
  pub only_now : (left : Content) → v.since v.clock left → v.crash left
  -- each content that a crash may have left has whole sectors
  pub whole : (reading : ℕ) (left : Content) → reading ≤ v.clock → v.since reading left
      → HasWholeSectors v.size left
  pub faults : v.faults < 2 ^ 64
  pub lies : v.lies < 2 ^ 64

-- The calls of a block device, and the ranges of sectors that they may name. The contracts of
-- `BlockDev` (src/device) use them, and so does each layer's statement of what it does.

-- A call of a device. `Reads` has the bytes of the buffer before and after the call.
pub data Call : Type 0 where
  Reads : (first : ℕ) (before after : List ℕ) → Call
  Writes : (first : ℕ) (bytes : List ℕ) (fua : Bool) → Call
  Discards : (first count : ℕ) → Call
  Flushes : Call

-- the range of `count` sectors has at least one, and is within the device of `size` sectors
pub record IsRange (size first count : ℕ) : Type 0 where
  pub some : 0 < count
  pub within : first + count ≤ size

-- `length` bytes are whole sectors, at least one, and their range is within the device of `size`
-- sectors
pub record IsByteRange (size first length : ℕ) : Type 0 where
  pub whole : length % 512 ≡ 0
  pub some : 0 < length
  pub within : first + length / 512 ≤ size

-- Calls of a device, one after another.

-- a device does a call at the time `now`, and the call returns Ok
abbrev pub EndsWell : {D : Type 0} → (D → Call → ℕ → Result ℕ DevError → D → Type 0) → ℕ → Call → D
    → D → Type 0
EndsWell does now call old new = (end : ℕ) × does old call now (Ok end) new

-- A device does the calls in turn, each at the time `now`. Either each call returns Ok. Or a call
-- fails: it is the last one done, and its error is the result.
abbrev pub DoesInTurn : {D : Type 0} → (D → Call → ℕ → Result ℕ DevError → D → Type 0) → ℕ
    → List Call → D → Result (Unit {0}) DevError → D → Type 0
DoesInTurn does now [] old (Ok done) new = new ≡ old
DoesInTurn does now [] old (Err error) new = ⊥
DoesInTurn {D} does now (call ∷ calls) old (Ok done) new =
    (mid : D) × EndsWell does now call old mid × DoesInTurn does now calls mid (Ok done) new
DoesInTurn {D} does now (call ∷ calls) old (Err error) new =
    does old call now (Err error) new
    ⊎ ((mid : D) × EndsWell does now call old mid × DoesInTurn does now calls mid (Err error) new)
