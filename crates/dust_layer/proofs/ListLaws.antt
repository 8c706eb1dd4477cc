-- How calls and messages change the list, the mode and the counts, and which blocks a call that
-- ends Ok touched.
use Rattle.std.proofs.Common.{List, length, Option, Some, None, refl, arith, ◌≡◌, ℕ, ◌/◌}
use Rattle.std.proofs.Common.{◌*◌, ◌<◌, Bool, false, Ok, Err}
use Rattle.std.specs.Prelude.{Result, is_some, nat_lt}
use Rattle.std.proofs.lemmas.Bool.{cases_lt, lt-ltb}
use Rattle.bio.specs.declared.outcome.DevError.{DevError}
use Rattle.blockdev.specs.View.{Call, Discards, Reads, Writes}
use Rattle.blockdev.specs.declared.message.MessageError.{MessageError}
use Rattle.blockdev.specs.declared.message.MessageError.TheVariants as errors
use Rattle.dust_layer.specs.Walk.{Bad, ByBlock, IsList, IsTouched, listed_count, first_of}
use Rattle.dust_layer.specs.Walk.{count_left, listed_counts, stops, with_entry}
use Rattle.dust_layer.specs.declared.dust.Dust.{Dust}
use Rattle.dust_layer.specs.declared.mode.Mode.TheVariants.{Bypass, FailReadOnBadBlock}
use Rattle.dust_layer.specs.declared.order.Order.{Order}
use Rattle.dust_layer.specs.declared.order.Order.TheVariants as orders
use Rattle.dust_layer.specs.declared.parts.Stop.{Stop}
use Rattle.dust_layer.specs.declared.parts.Stop.TheVariants.{Below, Struck}
use Rattle.dust_layer.specs.DustRule.{IsDusted, IsMessageDone, IsNoOrder, answer_of}
use Rattle.dust_layer.specs.Orders.{AsksFor, AnswersOrder}

-- whether a call can change a device so: device before, call, time, result, device after
abbrev Doing : Type 0 → Type 1
Doing D = D → Call → ℕ → Result ℕ DevError → D → Type 0

-- In bypass, the lower device does the call, and the list and the count of faults don't change.
bypass-keeps : {D : Type 0} (does : Doing D) (call : Call) (now : ℕ) (result : Result ℕ DevError)
    (old new : Dust D) → old.mode ≡ Bypass
    → IsDusted does call now result old new
    → does old.lower call now result new.lower × IsList (listed_counts new.bad) (listed_counts old.bad)
    × (new.faults ≡ old.faults)
bypass-keeps does call now result old new mode dusted = grind arith

mode-stays : {D : Type 0} (does : Doing D) (call : Call) (now : ℕ) (result : Result ℕ DevError)
    (old new : Dust D)
    → IsDusted does call now result old new → (new.mode ≡ old.mode) × (new.block ≡ old.block)
mode-stays does call now result old new dusted = (dusted.mode, dusted.block)

refused-stays : (size sectors : ℕ) (order : Order) (error : MessageError) (old : Bad) (was : Bool)
    (new : Bad) (enabled : Bool)
    → AnswersOrder size sectors order (Err error) old was new enabled
    → IsList new old × (enabled ≡ was)
refused-stays size sectors order error old was new enabled (refused, list, mode) = (list, mode)

-- An added block is within the layer and wasn't listed before.
added : (size sectors block count : ℕ) (done : Unit {0}) (old : Bad) (was : Bool) (new : Bad)
    (enabled : Bool)
    → AnswersOrder size sectors (orders.Add block count) (Ok done) old was new enabled
    → (block * size < sectors) × (is_some (old block) ≡ false)
    × IsList new (with_entry block (Some count) old) × (enabled ≡ was)
added size sectors block count done old was new enabled ((within, fresh), list, mode) = grind arith

no-memory : (size sectors block count : ℕ) (old : Bad) (was : Bool) (new : Bad) (enabled : Bool)
    → AnswersOrder size sectors (orders.Add block count) (Err errors.Memory) old was new enabled
    → (block * size < sectors) × (is_some (old block) ≡ false)
no-memory size sectors block count old was new enabled (could, list, mode) = could

no-order : {D : Type 0} (text : List ℕ) (result : Result (Unit {0}) MessageError) (old new : Dust D)
    (order : Order) → AsksFor text order
    → IsNoOrder 1 text result old new → ⊥
no-order text result old new order asked is = is.none order refl asked

-- A message to layer 2 is refused, and changes neither the list nor the mode.
to-no-layer : {D : Type 0} (sectors : ℕ) (text : List ℕ) (result : Result (Unit {0}) MessageError)
    (old new : Dust D)
    → IsMessageDone sectors 2 text result old new
    → (result ≡ Err errors.BadMessage) × IsList (listed_counts new.bad) (listed_counts old.bad)
    × (new.mode ≡ old.mode)
to-no-layer sectors text result old new done = grind arith

rest-stays : {D : Type 0} (sectors layer : ℕ) (text : List ℕ)
    (result : Result (Unit {0}) MessageError) (old new : Dust D)
    → IsMessageDone sectors layer text result old new
    → (new.lower ≡ old.lower) × (new.block ≡ old.block) × (new.faults ≡ old.faults)
rest-stays sectors layer text result old new done = (done.lower, done.block, done.faults)

ended : {D : Type 0} (does : D → Call → ℕ → Result ℕ DevError → D → Type 0) (block : ℕ)
    (call : Call) (bad after : Bad) (old : D) (now : ℕ) (new : D)
    (stop : Result ℕ Stop) (end place : ℕ) → Ok end ≡ answer_of stop
    → ByBlock does block call bad after old now new stop
    → IsTouched block (first_of call) (listed_count call) place → stops call bad place ≡ false
ended does block call bad after old now new (Ok at) end place is blocks touched = grind arith
ended does block call bad after old now new (Err Struck) end place is blocks touched = absurd (cc)
ended does block call bad after old now new (Err (Below error)) end place is blocks touched =
    absurd (cc)

none-left : (count : ℕ) → nat_lt 0 count ≡ false → count ≡ 0
none-left count is = grind (arith, cases_lt, lt-ltb)

not-listed : (entry : Option ℕ) → is_some entry ≡ false → entry ≡ None
not-listed None is = refl
not-listed (Some count) is = absurd (cc)

pub good_writes : {D : Type 0} (does : D → Call → ℕ → Result ℕ DevError → D → Type 0)
    (old new : Dust D) (first : ℕ) (bytes : List ℕ) (fua : Bool)
    (now end place : ℕ) → old.mode ≡ FailReadOnBadBlock
    → IsDusted does (Writes first bytes fua) now (Ok end) old new
    → IsTouched old.block first (length bytes / 512) place → count_left (listed_counts old.bad) place ≡ 0
good_writes does old new first bytes fua now end place mode dusted touched =
    grind (arith, none-left)

pub good_discards : {D : Type 0} (does : D → Call → ℕ → Result ℕ DevError → D → Type 0)
    (old new : Dust D) (first count : ℕ)
    (now end place : ℕ) → old.mode ≡ FailReadOnBadBlock
    → IsDusted does (Discards first count) now (Ok end) old new
    → IsTouched old.block first count place → count_left (listed_counts old.bad) place ≡ 0
good_discards does old new first count now end place mode dusted touched = grind (arith, none-left)

pub good_reads : {D : Type 0} (does : D → Call → ℕ → Result ℕ DevError → D → Type 0)
    (old new : Dust D) (first : ℕ) (before after : List ℕ)
    (now end place : ℕ) → old.mode ≡ FailReadOnBadBlock
    → IsDusted does (Reads first before after) now (Ok end) old new
    → IsTouched old.block first (length before / 512) place → listed_counts old.bad place ≡ None
good_reads does old new first before after now end place mode dusted touched =
    grind (arith, not-listed)
