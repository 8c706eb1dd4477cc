-- The list of bad blocks, and how a call goes over a device block by block.
use Rattle.std.specs.Prelude.{if◌then◌else◌, true, Err, ◌≡◌, ℕ, ◌==◌, ◌&&◌, nat_le, zero, suc, ◌+◌}
use Rattle.std.specs.Prelude.{◌-◌, ◌*◌, ◌/◌, ◌<◌, ◌≤◌, min, max, Bool, Result, false, List, length}
use Rattle.std.specs.Prelude.{take, drop, Some, is_some, nat_lt, Option, None, unwrap_or, Ok}
use Rattle.std.specs.BTreeMap.{get}
use Rattle.std.specs.Ordering.{nat_cmp}
use Rattle.bio.specs.Content.{Patch, discards, nothing, writes}
use Rattle.bio.specs.declared.outcome.DevError.{DevError}
use Rattle.blockdev.specs.Law.{HasCause}
use Rattle.blockdev.specs.View.{Call, Discards, Flushes, Reads, View, Writes}
use Rattle.dust_layer.specs.declared.bad_blocks.BadBlocks.{BadBlocks}
use Rattle.dust_layer.specs.declared.parts.PartChange.{PartChange}
use Rattle.dust_layer.specs.declared.parts.PartChange.TheVariants as changes
use Rattle.dust_layer.specs.declared.parts.Stop.{Stop}
use Rattle.dust_layer.specs.declared.parts.Stop.TheVariants.{Below, Struck}

-- The list of bad blocks, and how a call changes it.

-- the count of each listed block: how many writes and discards it still fails
abbrev pub Bad : Type 0
Bad = ℕ → Option ℕ

-- the counts of the blocks that `blocks` lists
abbrev pub listed_counts : BadBlocks → Bad
listed_counts blocks = get nat_cmp blocks.counts

-- both list the same blocks, with the same counts
abbrev pub IsList : Bad → Bad → Type 0
IsList new old = (block : ℕ) → new block ≡ old block

-- no block is listed
abbrev pub IsNoList : Bad → Type 0
IsNoList bad = (block : ℕ) → bad block ≡ None

-- the count that a block has left: 0 if it isn't listed
abbrev pub count_left : Bad → ℕ → ℕ
count_left bad block = unwrap_or (bad block) 0

-- the list `bad`, but with `entry` as the entry of block `place`
abbrev pub with_entry : ℕ → Option ℕ → Bad → Bad
with_entry place entry bad block = if place == block then entry else bad block

-- the list `bad` without the blocks from `from` to before `to`
abbrev pub list_without : ℕ → ℕ → Bad → Bad
list_without from to bad block = if nat_le from block && nat_lt block to then None else bad block

-- How a call goes over a device block by block.

-- the first sector of a call, and its number of sectors
abbrev pub first_of : Call → ℕ
first_of (Reads first before after) = first
first_of (Writes first bytes fua) = first
first_of (Discards first count) = first
first_of Flushes = 0

abbrev pub listed_count : Call → ℕ
listed_count (Reads first before after) = length before / 512
listed_count (Writes first bytes fua) = length bytes / 512
listed_count (Discards first count) = count
listed_count Flushes = 0

-- the values that a call writes to its sectors
abbrev pub patch_of : Call → Patch
patch_of (Reads first before after) = nothing
patch_of (Writes first bytes fua) = writes first bytes
patch_of (Discards first count) = discards first count
patch_of Flushes = nothing

-- the first block that a range of sectors touches, and the block after the last one
abbrev pub block_of_first : ℕ → ℕ → ℕ
block_of_first block first = first / block

abbrev pub block_behind : ℕ → ℕ → ℕ → ℕ
block_behind block first count = suc ((first + count - 1) / block)

-- the number of blocks that a call touches
abbrev pub blocks_of : ℕ → Call → ℕ
blocks_of block call =
    block_behind block (first_of call) (listed_count call) - block_of_first block (first_of call)

-- the first block that a call touches
abbrev pub begin_of : ℕ → Call → ℕ
begin_of block call = block_of_first block (first_of call)

-- the first sector of block `place`, but at least `first` and at most `first + count`
abbrev pub reach : ℕ → ℕ → ℕ → ℕ → ℕ
reach block first count place = min (first + count) (max first (place * block))

-- the bytes of the sectors from `from` to before `to`; `bytes` begins at sector `first`
abbrev pub bytes_within : ℕ → ℕ → ℕ → List ℕ → List ℕ
bytes_within first from to bytes = take (512 * (to - from)) (drop (512 * (from - first)) bytes)

-- the part of a call with the sectors from `from` to before `to`
abbrev pub part_within : ℕ → ℕ → Call → Call
part_within from to (Reads first before after) =
    Reads from (bytes_within first from to before) (bytes_within first from to after)
part_within from to (Writes first bytes fua) = Writes from (bytes_within first from to bytes) fua
part_within from to (Discards first count) = Discards from (to - from)
part_within from to Flushes = Flushes

-- the part of a call that lies in one block
abbrev pub call_part : ℕ → Call → ℕ → Call
call_part block call place =
    part_within (reach block (first_of call) (listed_count call) place)
    (reach block (first_of call) (listed_count call) (suc place)) call

-- The parts of `count` blocks, from block `begin` on, are done one after another. Each part ends
-- Ok, and starts at the time at which the part before it ended. `does` describes the lower device.
abbrev pub DoesParts : {D : Type 0} → (D → Call → ℕ → Result ℕ DevError → D → Type 0) → (ℕ → Call)
    → ℕ → ℕ → D → ℕ → D → ℕ → Type 0
DoesParts does part begin zero old now new end = (new ≡ old) × (end ≡ now)
DoesParts {D} does part begin (suc count) old now new end =
    (mid : D) × (at : ℕ) × DoesParts does part begin count old now mid at
    × does mid (part (begin + count)) at (Ok end) new

-- Whether the block `place` stops a call. A listed block stops a read. A block with a count above 0
-- stops a write or a discard.
abbrev pub stops : Call → Bad → ℕ → Bool
stops (Reads first before after) bad place = is_some (bad place)
stops (Writes first bytes fua) bad place = nat_lt 0 (count_left bad place)
stops (Discards first count) bad place = nat_lt 0 (count_left bad place)
stops Flushes bad place = false

-- The list after the parts of `count` blocks, from block `begin` on, were done. A read doesn't
-- change the list. A write or a discard removes these blocks from it.
abbrev pub list_passed : Call → ℕ → ℕ → Bad → Bad
list_passed (Reads first before after) begin count bad = bad
list_passed (Writes first bytes fua) begin count bad = list_without begin (begin + count) bad
list_passed (Discards first count) begin blocks bad = list_without begin (begin + blocks) bad
list_passed Flushes begin count bad = bad

-- The list after the block `place` stopped a call. A read doesn't change the list. A write or a
-- discard lowers the block's count by one.
abbrev pub list_struck : Call → ℕ → Bad → Bad
list_struck (Reads first before after) place bad = bad
list_struck (Writes first bytes fua) place bad = with_entry place (Some (count_left bad place - 1)) bad
list_struck (Discards first count) place bad = with_entry place (Some (count_left bad place - 1)) bad
list_struck Flushes place bad = bad

-- The first `count` blocks of a call don't stop it, and their parts are done.
pub record Passes {D : Type 0} (does : D → Call → ℕ → Result ℕ DevError → D → Type 0) (block : ℕ)
    (call : Call) (bad : Bad) (count : ℕ)
    (old : D) (now : ℕ) (new : D) (end : ℕ) : Type 0 where
  pub free : (place : ℕ) → begin_of block call ≤ place → place < begin_of block call + count
      → stops call bad place ≡ false
  pub parts : DoesParts does (call_part block call) (begin_of block call) count old now new end

-- The call is done: no block stops it, and all its parts are done.
pub record IsDone {D : Type 0} (does : D → Call → ℕ → Result ℕ DevError → D → Type 0) (block : ℕ)
    (call : Call) (bad after : Bad)
    (old : D) (now : ℕ) (new : D) (end : ℕ) : Type 0 where
  pub passes : Passes does block call bad (blocks_of block call) old now new end
  pub list : IsList after (list_passed call (begin_of block call) (blocks_of block call) bad)

-- If the call is a read, the bytes of its buffer after its first `count` blocks don't change.
abbrev pub KeepsRest : ℕ → Call → ℕ → Type 0
KeepsRest block (Reads first before after) count =
    drop (512 * (reach block first (length before / 512)
    (block_of_first block first + count) - first)) after
    ≡ drop (512 * (reach block first (length before / 512)
    (block_of_first block first + count) - first)) before
KeepsRest block (Writes first bytes fua) count = Unit {0}
KeepsRest block (Discards first sectors) count = Unit {0}
KeepsRest block Flushes count = Unit {0}

-- A bad block stops the call. The parts of the `count` blocks before it are done, and no others. A
-- read doesn't change the rest of its buffer.
pub record StopsAtBadBlock {D : Type 0} (does : D → Call → ℕ → Result ℕ DevError → D → Type 0) (block : ℕ)
    (call : Call) (bad after : Bad)
    (old : D) (now : ℕ) (new : D) : Type 0 where
  pub count : ℕ
  pub end : ℕ
  pub passes : Passes does block call bad count old now new end
  -- the block after the first `count` blocks stops the call
  pub within : count < blocks_of block call
  pub stopped : stops call bad (begin_of block call + count) ≡ true
  pub rest : KeepsRest block call count
  pub list : IsList after (list_struck call (begin_of block call + count)
      (list_passed call (begin_of block call) count bad))

-- The lower device fails a part of the call. The parts of the `count` blocks before it are done,
-- and no part after it.
pub record FailsBelow {D : Type 0} (does : D → Call → ℕ → Result ℕ DevError → D → Type 0)
    (block : ℕ) (call : Call) (bad after : Bad)
    (old : D) (now : ℕ) (new : D) (error : DevError) : Type 0 where
  pub count : ℕ
  pub mid : D
  pub end : ℕ
  pub passes : Passes does block call bad count old now mid end
  -- the block after the first `count` blocks doesn't stop the call, but its part fails
  pub within : count < blocks_of block call
  pub free : stops call bad (begin_of block call + count) ≡ false
  pub fails : does mid (call_part block call (begin_of block call + count)) end (Err error) new
  -- a read doesn't change its buffer after the part that failed
  pub rest : KeepsRest block call (suc count)
  pub list : IsList after (list_passed call (begin_of block call) count bad)

-- The call goes block by block, and changes the list of bad blocks from `bad` to `after`.
abbrev pub ByBlock : {D : Type 0} → (D → Call → ℕ → Result ℕ DevError → D → Type 0) → ℕ → Call → Bad
    → Bad → D → ℕ → D → Result ℕ Stop → Type 0
ByBlock does block call bad after old now new (Ok end) =
    IsDone does block call bad after old now new end
ByBlock does block call bad after old now new (Err Struck) =
    StopsAtBadBlock does block call bad after old now new
ByBlock does block call bad after old now new (Err (Below error)) =
    FailsBelow does block call bad after old now new error

-- Unless a bad block stopped the call, `HasCause` holds for the lower device and the result.
abbrev pub HasCauseBelow : ℕ → View → View → Result ℕ Stop → Type 0
HasCauseBelow now v w (Ok end) = HasCause now v w (Ok end)
HasCauseBelow now v w (Err Struck) = Unit {0}
HasCauseBelow now v w (Err (Below error)) = HasCause now v w (Err error)

-- block `place` has sectors among the `count` sectors from `first` on
pub record IsTouched (block first count place : ℕ) : Type 0 where
  pub low : block_of_first block first ≤ place
  pub high : place < block_behind block first count

-- The call that a `PartChange` asks for, and whether it is durable.

-- the write from `first` on, or the discard of `count` sectors from `first` on
abbrev pub change_call : ℕ → ℕ → PartChange → Call
change_call first count (changes.Write bytes fua) = Writes first bytes.now fua
change_call first count changes.Discard = Discards first count

-- whether the change is durable when it ends
abbrev pub fua_of : PartChange → Bool
fua_of (changes.Write bytes fua) = fua
fua_of changes.Discard = false
