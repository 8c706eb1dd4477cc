-- What a device with bad blocks does with a call, and with a message.
use Rattle.std.specs.Prelude.{◌≡◌, ◌⊎◌, ℕ, Bool, true, false, List, Ok, Err, Result}
use Rattle.bio.specs.declared.outcome.DevError.{DevError}
use Rattle.bio.specs.declared.outcome.DevError.TheVariants.{Io}
use Rattle.blockdev.specs.View.{Call, Discards, Flushes, Reads, Writes}
use Rattle.blockdev.specs.declared.message.MessageError.{MessageError}
use Rattle.blockdev.specs.declared.message.MessageError.TheVariants.{BadMessage}
use Rattle.blockdev.specs.OwnCounts.{one_more}
use Rattle.dust_layer.specs.Walk.{Bad, ByBlock, IsList, listed_counts}
use Rattle.dust_layer.specs.declared.dust.Dust.{Dust}
use Rattle.dust_layer.specs.declared.mode.Mode.{Mode}
use Rattle.dust_layer.specs.declared.mode.Mode.TheVariants.{Bypass, FailReadOnBadBlock}
use Rattle.dust_layer.specs.declared.order.Order.{Order}
use Rattle.dust_layer.specs.declared.parts.Stop.{Stop}
use Rattle.dust_layer.specs.declared.parts.Stop.TheVariants.{Below, Struck}
use Rattle.dust_layer.specs.Orders.{AsksFor, AnswersOrder}

-- What a device with bad blocks does with a call.

-- The parts of a device with bad blocks that its calls change: the lower device, the list, and how
-- many calls bad blocks failed.
pub record DustState (D : Type 0) : Type 0 where
  pub lower : D
  pub bad : Bad
  pub faults : ℕ

abbrev pub held : {D : Type 0} → Dust D → DustState D
held device = record { lower = device.lower; bad = listed_counts device.bad; faults = device.faults }

-- The lower device does the call. The list and the count of faults stay.
pub record IsForwarded {D : Type 0} (does : D → Call → ℕ → Result ℕ DevError → D → Type 0)
    (call : Call) (now : ℕ) (result : Result ℕ DevError)
    (old new : DustState D) : Type 0 where
  pub below : does old.lower call now result new.lower
  pub list : IsList new.bad old.bad
  pub faults : new.faults ≡ old.faults

-- the answer to a call that went block by block: Io if a bad block stopped it
abbrev pub answer_of : Result ℕ Stop → Result ℕ DevError
answer_of (Ok end) = Ok end
answer_of (Err Struck) = Err Io
answer_of (Err (Below error)) = Err error

-- the count of faults after the call: one more if a bad block stopped it
abbrev pub faults_after : Result ℕ Stop → ℕ → ℕ
faults_after (Ok end) faults = faults
faults_after (Err Struck) faults = one_more faults
faults_after (Err (Below error)) faults = faults

-- The call goes block by block, over blocks of `block` sectors.
pub record IsChecked {D : Type 0} (does : D → Call → ℕ → Result ℕ DevError → D → Type 0) (block : ℕ)
    (call : Call) (now : ℕ) (result : Result ℕ DevError)
    (old new : DustState D) : Type 0 where
  pub stop : Result ℕ Stop
  pub blocks : ByBlock does block call old.bad new.bad old.lower now new.lower stop
  pub answer : result ≡ answer_of stop
  pub faults : new.faults ≡ faults_after stop old.faults

-- In bypass every call is passed. In the other mode a flush is passed, and a read, a write or a
-- discard goes block by block.
abbrev pub IsDoneBy : {D : Type 0} → (D → Call → ℕ → Result ℕ DevError → D → Type 0) → Mode → ℕ
    → Call → ℕ → Result ℕ DevError → DustState D → DustState D → Type 0
IsDoneBy does Bypass block call now result old new = IsForwarded does call now result old new
IsDoneBy does FailReadOnBadBlock block (Reads first before after) now result old new =
    IsChecked does block (Reads first before after) now result old new
IsDoneBy does FailReadOnBadBlock block (Writes first bytes fua) now result old new =
    IsChecked does block (Writes first bytes fua) now result old new
IsDoneBy does FailReadOnBadBlock block (Discards first count) now result old new =
    IsChecked does block (Discards first count) now result old new
IsDoneBy does FailReadOnBadBlock block Flushes now result old new =
    IsForwarded does Flushes now result old new

-- The device does the call as its mode says (`IsDoneBy`). The mode and the block size stay.
pub record IsDusted {D : Type 0} (does : D → Call → ℕ → Result ℕ DevError → D → Type 0)
    (call : Call) (now : ℕ) (result : Result ℕ DevError)
    (old new : Dust D) : Type 0 where
  pub done : IsDoneBy does old.mode old.block call now result (held old) (held new)
  pub block : new.block ≡ old.block
  pub mode : new.mode ≡ old.mode

-- What a device with bad blocks does with a message.

-- whether bad blocks fail calls in this mode
abbrev pub is_enabled : Mode → Bool
is_enabled Bypass = false
is_enabled FailReadOnBadBlock = true

-- The message is to layer 1 and asks for an order. The device answers that order (`AnswersOrder`).
pub record IsObeyed {D : Type 0} (sectors layer : ℕ) (text : List ℕ)
    (result : Result (Unit {0}) MessageError) (old new : Dust D) : Type 0 where
  pub order : Order
  pub own : layer ≡ 1
  pub asked : AsksFor text order
  pub answered : AnswersOrder old.block sectors order result (listed_counts old.bad) (is_enabled old.mode)
      (listed_counts new.bad) (is_enabled new.mode)

-- The message isn't to layer 1, or asks for no order. It is refused, and the list and the mode
-- stay.
pub record IsNoOrder {D : Type 0} (layer : ℕ) (text : List ℕ)
    (result : Result (Unit {0}) MessageError) (old new : Dust D) : Type 0 where
  pub none : (order : Order) → layer ≡ 1 → AsksFor text order → ⊥
  pub refused : result ≡ Err BadMessage
  pub list : IsList (listed_counts new.bad) (listed_counts old.bad)
  pub mode : new.mode ≡ old.mode

-- The message is answered (`IsObeyed`) or refused (`IsNoOrder`). Everything but the list and the
-- mode stays.
pub record IsMessageDone {D : Type 0} (sectors layer : ℕ) (text : List ℕ)
    (result : Result (Unit {0}) MessageError) (old new : Dust D) : Type 0 where
  pub answer : IsObeyed sectors layer text result old new ⊎ IsNoOrder layer text result old new
  pub lower : new.lower ≡ old.lower
  pub block : new.block ≡ old.block
  pub faults : new.faults ≡ old.faults
