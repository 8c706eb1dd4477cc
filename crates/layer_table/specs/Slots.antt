-- A slot for a layer: its view, and the effect of its calls and messages.
use Rattle.std.specs.Prelude.{◌≡◌, ℕ, ◌-◌, ◌<◌, Bool, true, false, List, Err, [], ◌∷◌, Result}
use Rattle.std.specs.List.{list_all}
use Rattle.bio.specs.declared.outcome.DevError.{DevError}
use Rattle.blockdev.specs.View.{Call, View}
use Rattle.blockdev.specs.declared.device.BlockDev.{Ghosts}
use Rattle.blockdev.specs.declared.message.MessageError.{MessageError}
use Rattle.blockdev.specs.declared.message.MessageError.TheVariants.{BadMessage}
use Rattle.blockdev.specs.OwnCounts.{counted}
use Rattle.fault_layers.specs.Decision.{IsDecided, call_kind}
use Rattle.fault_layers.specs.declared.linear.Linear.{Linear}
use Rattle.fault_layers.specs.Verdicts.{drops_writes, loaded_after, rule_verdict}
use Rattle.fault_layers.specs.Window.{call_from, window}
use Rattle.dust_layer.specs.DustRule.{IsDusted, IsMessageDone}
use Rattle.layer_table.specs.declared.slot.Slot.{Slot}
use Rattle.layer_table.specs.declared.slot.Slot.TheVariants as slots

-- A slot for a layer: its view, and the effect of its calls.

-- A slot without a layer has the view of the device below. A layer shows its range of that device.
-- A fault rule adds its faults and lies, and a dust layer adds its faults.
abbrev pub slot_shown : {D : Type 0} {g : Ghosts D} → Slot D g → View
slot_shown {D} {g} (slots.Bare device) = g.shown device
slot_shown {D} {g} (slots.Dusted layer) =
    counted (window (g.shown layer.lower.lower) layer.lower.offset layer.lower.length)
    layer.faults 0 false
slot_shown {D} {g} (slots.Decided layer) =
    counted (window (g.shown layer.lower.lower) layer.lower.offset layer.lower.length)
    layer.faults layer.lies (drops_writes layer.fault_rule.target)

-- the device below does the call, shifted by the range's offset, and the range stays
abbrev pub CallIsShifted : {D : Type 0} {g : Ghosts D} → Linear D g → Call → ℕ → Result ℕ DevError
    → Linear D g → Type 0
CallIsShifted {D} {g} range call now result after =
    g.does range.lower (call_from range.offset call) now result after.lower
    × (after.offset ≡ range.offset) × (after.length ≡ range.length)

-- A slot without a layer passes the call to the device below. A layer with a fault rule does what
-- the fault rule decides. A dust layer goes by its mode and list (`IsDusted`).
abbrev pub slot_does : {D : Type 0} {g : Ghosts D} → Slot D g → Call → ℕ → Result ℕ DevError
    → Slot D g → Type 0
slot_does {D} {g} (slots.Bare device) call now result (slots.Bare after) =
    g.does device call now result after
slot_does {D} {g} (slots.Decided layer) call now result (slots.Decided after) =
    IsDecided (rule_verdict layer.fault_rule (call_kind call) now)
    (λ begun. CallIsShifted layer.lower call begun result after.lower) call now result layer after
    × (after.fault_rule ≡ loaded_after layer.fault_rule (call_kind call) now)
slot_does {D} {g} (slots.Dusted layer) call now result (slots.Dusted after) =
    IsDusted CallIsShifted call now result layer after
slot_does {D} {g} slot call now result after = ⊥

-- whether the slot has a layer
abbrev pub has_layer : {D : Type 0} {g : Ghosts D} → Slot D g → Bool
has_layer {D} {g} (slots.Bare device) = false
has_layer {D} {g} (slots.Decided layer) = true
has_layer {D} {g} (slots.Dusted layer) = true

-- the device below
abbrev pub device_of : {D : Type 0} {g : Ghosts D} → Slot D g → D
device_of {D} {g} (slots.Bare device) = device
device_of {D} {g} (slots.Decided layer) = layer.lower.lower
device_of {D} {g} (slots.Dusted layer) = layer.lower.lower

-- whether each slot has a layer, the top first; `beneath` says it for the slots of the device below
abbrev pub shape_with : {D : Type 0} {g : Ghosts D} → (D → List Bool) → Slot D g → List Bool
shape_with {D} {g} beneath slot = has_layer slot ∷ beneath (device_of slot)

-- if a slot has a layer, each slot below it has one
abbrev pub has_no_gap : List Bool → Bool
has_no_gap [] = true
has_no_gap (false ∷ shape) = has_no_gap shape
has_no_gap (true ∷ shape) = list_all (λ has. has) shape

-- The effect of a message: which layer it goes to, and what stays.

-- the message is refused with BadMessage, and nothing is changed
pub record IsNoMessage {S : Type 0} (result : Result (Unit {0}) MessageError)
    (old new : S) : Type 0 where
  pub refused : result ≡ Err BadMessage
  pub stays : new ≡ old

-- A dust layer does its message as `IsMessageDone` says. A slot with another layer, or none,
-- refuses the message.
abbrev pub AnswersItself : {D : Type 0} {g : Ghosts D} → Slot D g → List ℕ
    → Result (Unit {0}) MessageError → Slot D g → Type 0
AnswersItself {D} {g} (slots.Dusted layer) text result (slots.Dusted after) =
    IsMessageDone layer.lower.length 1 text result layer after
AnswersItself {D} {g} slot text result after = IsNoMessage result slot after

-- the device below a range answers the message, and the range stays
abbrev pub RangeAnswers : {D : Type 0} {g : Ghosts D}
    → (D → ℕ → List ℕ → Result (Unit {0}) MessageError → D → Type 0) → Linear D g → ℕ → List ℕ
    → Result (Unit {0}) MessageError → Linear D g → Type 0
RangeAnswers below range layer text result after =
    below range.lower layer text result after.lower × (after.offset ≡ range.offset)
    × (after.length ≡ range.length)

-- the device below a slot answers the message, and the layer in the slot stays
abbrev pub AnswersBelow : {D : Type 0} {g : Ghosts D}
    → (D → ℕ → List ℕ → Result (Unit {0}) MessageError → D → Type 0) → Slot D g → ℕ → List ℕ
    → Result (Unit {0}) MessageError → Slot D g → Type 0
AnswersBelow {D} {g} below (slots.Bare device) layer text result (slots.Bare after) =
    below device layer text result after
AnswersBelow {D} {g} below (slots.Decided ruled) layer text result (slots.Decided after) =
    RangeAnswers below ruled.lower layer text result after.lower × (after.fault_rule ≡ ruled.fault_rule)
    × (after.faults ≡ ruled.faults) × (after.lies ≡ ruled.lies)
AnswersBelow {D} {g} below (slots.Dusted dust) layer text result (slots.Dusted after) =
    RangeAnswers below dust.lower layer text result after.lower × (after.block ≡ dust.block)
    × (after.bad ≡ dust.bad) × (after.mode ≡ dust.mode)
    × (after.faults ≡ dust.faults)
AnswersBelow {D} {g} below slot layer text result after = ⊥

-- A message to layer 1 goes to the slot's own layer. A message to a higher number goes to the
-- device below, with the number lowered by one. A message to layer 0 is refused.
pub record SlotAnswers {D : Type 0} {g : Ghosts D}
    (below : D → ℕ → List ℕ → Result (Unit {0}) MessageError → D → Type 0) (old : Slot D g)
    (layer : ℕ)
    (text : List ℕ) (result : Result (Unit {0}) MessageError) (new : Slot D g) : Type 0 where
  pub none : layer ≡ 0 → IsNoMessage result old new
  pub own : layer ≡ 1 → AnswersItself old text result new
  pub others : 1 < layer → AnswersBelow below old (layer - 1) text result new
