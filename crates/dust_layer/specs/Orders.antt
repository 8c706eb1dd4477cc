-- The orders that a device with bad blocks takes as messages. For each order: the words that ask
-- for it, the answers, and the state after it.
use Rattle.std.proofs.Common.{refl, arith}
use Rattle.std.specs.Prelude.{Result, Ok, Err, codes, is_some, ◌≡◌, ℕ, ◌*◌, ◌<◌, ◌≤◌, Bool, true}
use Rattle.std.specs.Prelude.{false, List, [], ◌∷◌, Some, None}
use Rattle.std.specs.Int.{is_power_of_two}
use Rattle.std.specs.List.{join_with_byte}
use Rattle.refusals.specs.Words.{IsNumber}
use Rattle.blockdev.specs.declared.message.MessageError.{MessageError}
use Rattle.blockdev.specs.declared.message.MessageError.TheVariants as errors
use Rattle.dust_layer.specs.Walk.{Bad, IsList, with_entry}
use Rattle.dust_layer.specs.declared.mode.Mode.{Mode}
use Rattle.dust_layer.specs.declared.mode.Mode.TheVariants.{Bypass, FailReadOnBadBlock}
use Rattle.dust_layer.specs.declared.order.Order.{Order}
use Rattle.dust_layer.specs.declared.order.Order.TheVariants as orders

-- ---- words

-- the words, with one space between each two
abbrev pub spaced : List (List ℕ) → List ℕ
spaced words = join_with_byte 32 words

-- no word means count 0, and one word is a count from 0 to 255
abbrev pub IsCount : List (List ℕ) → ℕ → Type 0
IsCount [] count = count ≡ 0
IsCount (word ∷ []) count = IsNumber word count × (count ≤ 255)
IsCount (word ∷ more ∷ words) count = ⊥

-- The text asks to list a block: it is the order's word, the block's number, and a count or none.
pub record AsksToAdd (text : List ℕ) (block count : ℕ) : Type 0 where
  pub block_word : List ℕ
  pub count_words : List (List ℕ)
  pub number : IsNumber block_word block
  pub counted : IsCount count_words count
  pub spelled : text ≡ spaced (codes "addbadblock" ∷ block_word ∷ count_words)

-- The text asks to remove a block from the list: it is the order's word and the block's number.
pub record AsksToRemove (text : List ℕ) (block : ℕ) : Type 0 where
  pub block_word : List ℕ
  pub number : IsNumber block_word block
  pub spelled : text ≡ spaced (codes "removebadblock" ∷ block_word ∷ [])

-- the text asks for this order
abbrev pub AsksFor : List ℕ → Order → Type 0
AsksFor text (orders.Add block count) = AsksToAdd text block count
AsksFor text (orders.Remove block) = AsksToRemove text block
AsksFor text orders.Clear = text ≡ codes "clearbadblocks"
AsksFor text orders.Enable = text ≡ codes "enable"
AsksFor text orders.Disable = text ≡ codes "disable"

-- ---- answers

-- The first sector of a block is within a layer. A block has `size` sectors, and the layer has
-- `sectors`.
abbrev pub BlockIsWithin : ℕ → ℕ → ℕ → Type 0
BlockIsWithin block size sectors = block * size < sectors

-- the block is listed
abbrev pub ListsBlock : Bad → ℕ → Type 0
ListsBlock bad block = is_some (bad block) ≡ true

abbrev pub IsUnlisted : Bad → ℕ → Type 0
IsUnlisted bad block = is_some (bad block) ≡ false

-- The order can be done if memory suffices. The block of Add or Remove must be within the layer,
-- unlisted for Add, and listed for Remove.
abbrev pub CanBeDone : ℕ → ℕ → Order → Bad → Type 0
CanBeDone size sectors (orders.Add block count) bad =
    BlockIsWithin block size sectors × IsUnlisted bad block
CanBeDone size sectors (orders.Remove block) bad = BlockIsWithin block size sectors × ListsBlock bad block
CanBeDone size sectors orders.Clear bad = Unit {0}
CanBeDone size sectors orders.Enable bad = Unit {0}
CanBeDone size sectors orders.Disable bad = Unit {0}

-- Why an order is refused. Add and Remove fail with BadMessage if the block isn't within the layer.
-- If the block is within the layer, Add fails with AlreadyBad if it is listed, and otherwise only
-- with Memory. Remove fails with NotBad if the block is unlisted. No other order is refused.
abbrev pub RefusesOrder : ℕ → ℕ → Order → Bad → MessageError → Type 0
RefusesOrder size sectors (orders.Add block count) bad errors.BadMessage = sectors ≤ block * size
RefusesOrder size sectors (orders.Add block count) bad errors.AlreadyBad =
    BlockIsWithin block size sectors × ListsBlock bad block
RefusesOrder size sectors (orders.Add block count) bad errors.NotBad = ⊥
RefusesOrder size sectors (orders.Add block count) bad errors.Memory =
    BlockIsWithin block size sectors × IsUnlisted bad block
RefusesOrder size sectors (orders.Remove block) bad errors.BadMessage = sectors ≤ block * size
RefusesOrder size sectors (orders.Remove block) bad errors.AlreadyBad = ⊥
RefusesOrder size sectors (orders.Remove block) bad errors.NotBad =
    BlockIsWithin block size sectors × IsUnlisted bad block
RefusesOrder size sectors (orders.Remove block) bad errors.Memory = ⊥
RefusesOrder size sectors orders.Clear bad error = ⊥
RefusesOrder size sectors orders.Enable bad error = ⊥
RefusesOrder size sectors orders.Disable bad error = ⊥

-- the list after an order that is done
abbrev pub list_ordered : Order → Bad → Bad
list_ordered (orders.Add block count) bad = with_entry block (Some count) bad
list_ordered (orders.Remove block) bad = with_entry block None bad
list_ordered orders.Clear bad = λ block. None
list_ordered orders.Enable bad = bad
list_ordered orders.Disable bad = bad

-- whether bad blocks fail calls after an order that is done
abbrev pub mode_ordered : Order → Bool → Bool
mode_ordered (orders.Add block count) enabled = enabled
mode_ordered (orders.Remove block) enabled = enabled
mode_ordered orders.Clear enabled = enabled
mode_ordered orders.Enable enabled = true
mode_ordered orders.Disable enabled = false

-- The answer to an order over blocks of `size` sectors in a layer of `sectors`, and the state after
-- it. If the order is refused, nothing changes.
abbrev pub AnswersOrder : ℕ → ℕ → Order → Result (Unit {0}) MessageError → Bad → Bool → Bad → Bool
    → Type 0
AnswersOrder size sectors order (Ok done) old was new enabled =
    CanBeDone size sectors order old × IsList new (list_ordered order old)
    × (enabled ≡ mode_ordered order was)
AnswersOrder size sectors order (Err error) old was new enabled =
    RefusesOrder size sectors order old error × IsList new old × (enabled ≡ was)

-- The sizes of blocks, and the words for the two modes.

-- the bytes of a dust device's block: a power of two, from 512 to 1,073,741,824
pub record IsBlockSize (bytes : ℕ) : Type 0 where
  pub power : is_power_of_two bytes ≡ true
  pub some : 512 ≤ bytes
  pub few : bytes ≤ 1073741824

-- the sectors of a block: at least one, and at most 2,097,152
pub record IsBlock (sectors : ℕ) : Type 0 where
  pub some : 0 < sectors
  pub few : sectors ≤ 2097152

-- a mode's word
abbrev pub mode_text : Mode → List ℕ
mode_text Bypass = codes "bypass"
mode_text FailReadOnBadBlock = codes "fail_read_on_bad_block"

-- blocks may have 512 bytes, and 1,024 bytes
pub of_512 : IsBlockSize 512
unfolding lib.Count.ones
of_512 = record { power = refl; some = omega arith; few = omega arith }

pub of_1024 : IsBlockSize 1024
unfolding lib.Count.ones
of_1024 = record { power = refl; some = omega arith; few = omega arith }
