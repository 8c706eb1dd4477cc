-- The effect of a message to a layer of a stack.
use Rattle.std.proofs.Common.{◌≡◌, ℕ, zero, suc, ◌-◌, ◌<◌, ◌≤◌, Bool, true, List, [], ◌∷◌, Result}
use Rattle.std.proofs.Common.{refl, ap, ◌∙◌, arith}
use Rattle.std.specs.Prelude.{◌⊎◌}
use Rattle.blockdev.specs.declared.device.BlockDev.{Ghosts}
use Rattle.blockdev.specs.declared.message.MessageError.{MessageError}
use Rattle.fault_layers.specs.declared.linear.Linear.{Linear}
use Rattle.layer_table.specs.declared.slot.Slot.{Slot}
use Rattle.layer_table.specs.declared.slot.Slot.TheVariants as slots
use Rattle.layer_table.specs.declared.stack.Stack.{Stack}
use Rattle.layer_table.specs.Levels.{shape_of, shape_one, shape_three, shape_two}
use Rattle.layer_table.specs.OneLevel.{one_answers, DiskAnswers}
use Rattle.layer_table.specs.Slots.{AnswersBelow, AnswersItself, IsNoMessage, SlotAnswers}
use Rattle.layer_table.specs.Slots.{device_of, has_layer, has_no_gap, shape_with}
use Rattle.layer_table.specs.ThreeLevel.{three_answers}
use Rattle.layer_table.specs.TwoLevel.{two_answers}

-- The layers count from 1: layer 1 is the slot over the disk, and layer 4 is the top slot. A
-- message to any other number is refused.
pub record StackAnswers (old : Stack) (layer : ℕ) (text : List ℕ)
    (result : Result (Unit {0}) MessageError) (new : Stack) : Type 0 where
  pub within : 1 ≤ layer → layer ≤ 4
      → SlotAnswers three_answers old.top (5 - layer) text result new.top
  pub outside : (layer ≡ 0) ⊎ (4 < layer) → IsNoMessage result old new

-- ---- a message keeps the slots that have a layer

-- no message to a device changes its value of `f`
abbrev pub KeepsByMessage : {D A : Type 0}
    → (D → ℕ → List ℕ → Result (Unit {0}) MessageError → D → Type 0) → (D → A) → Type 0
KeepsByMessage {D} {A} answers f =
    (device : D) (layer : ℕ) (text : List ℕ) (result : Result (Unit {0}) MessageError) (after : D)
    → answers device layer text result after → f after ≡ f device

-- the value of `f` for the device below stays, and whether the slot has a layer
abbrev IsSlotKept : {D A : Type 0} {g : Ghosts D} → (D → A) → Slot D g → Slot D g → Type 0
IsSlotKept f slot after =
    (f (device_of after) ≡ f (device_of slot)) × (has_layer after ≡ has_layer slot)

nothing_kept : {D A : Type 0} {g : Ghosts D} (f : D → A) (slot after : Slot D g)
    (result : Result (Unit {0}) MessageError)
    → IsNoMessage result slot after → IsSlotKept f slot after
nothing_kept f slot after result is = (ap (λ s. f (device_of s)) is.stays, ap has_layer is.stays)

own_kept : {D A : Type 0} {g : Ghosts D} (f : D → A) (slot : Slot D g) (text : List ℕ)
    (result : Result (Unit {0}) MessageError) (after : Slot D g)
    → AnswersItself slot text result after → IsSlotKept f slot after
own_kept {D} {A} {g} f (slots.Bare device) text result after is =
    nothing_kept f (slots.Bare device) after result is
own_kept {D} {A} {g} f (slots.Decided it) text result after is =
    nothing_kept f (slots.Decided it) after result is
own_kept {D} {A} {g} f (slots.Dusted it) text result (slots.Bare after) is =
    nothing_kept f (slots.Dusted it) (slots.Bare after) result is
own_kept {D} {A} {g} f (slots.Dusted it) text result (slots.Decided after) is =
    nothing_kept f (slots.Dusted it) (slots.Decided after) result is
own_kept {D} {A} {g} f (slots.Dusted it) text result (slots.Dusted after) is =
    (ap (λ (range : Linear D g). f range.lower) is.lower, refl)

below_kept : {D A : Type 0} {g : Ghosts D} (f : D → A)
    (below : D → ℕ → List ℕ → Result (Unit {0}) MessageError → D → Type 0) → KeepsByMessage below f
    → (slot : Slot D g) (layer : ℕ) (text : List ℕ) (result : Result (Unit {0}) MessageError)
    (after : Slot D g)
    → AnswersBelow below slot layer text result after → IsSlotKept f slot after
below_kept {D} {A} {g} f below kept (slots.Bare device) layer text result (slots.Bare after) is =
    (kept device layer text result after is, refl)
below_kept {D} {A} {g} f below kept (slots.Bare device) layer text result (slots.Decided after) is =
    absurd is
below_kept {D} {A} {g} f below kept (slots.Bare device) layer text result (slots.Dusted after) is =
    absurd is
below_kept {D} {A} {g} f below kept (slots.Decided it) layer text result (slots.Bare after) is =
    absurd is
below_kept {D} {A} {g} f below kept (slots.Decided it) layer text result (slots.Decided after) is =
    (kept it.lower.lower layer text result after.lower.lower is.0.0, refl)
below_kept {D} {A} {g} f below kept (slots.Decided it) layer text result (slots.Dusted after) is =
    absurd is
below_kept {D} {A} {g} f below kept (slots.Dusted it) layer text result (slots.Bare after) is =
    absurd is
below_kept {D} {A} {g} f below kept (slots.Dusted it) layer text result (slots.Decided after) is =
    absurd is
below_kept {D} {A} {g} f below kept (slots.Dusted it) layer text result (slots.Dusted after) is =
    (kept it.lower.lower layer text result after.lower.lower is.0.0, refl)

-- Any message keeps the value of `f`, if each message to the device below does. It never changes
-- whether the slot has a layer.
message_kept : {D A : Type 0} {g : Ghosts D} (f : D → A)
    (below : D → ℕ → List ℕ → Result (Unit {0}) MessageError → D → Type 0) → KeepsByMessage below f
    → (slot : Slot D g) (layer : ℕ) (text : List ℕ) (result : Result (Unit {0}) MessageError)
    (after : Slot D g)
    → SlotAnswers below slot layer text result after → IsSlotKept f slot after
message_kept f below kept slot zero text result after is =
    nothing_kept f slot after result (is.none refl)
message_kept f below kept slot (suc zero) text result after is =
    own_kept f slot text result after (is.own refl)
message_kept f below kept slot (suc (suc layer)) text result after is =
    below_kept f below kept slot (suc (suc layer) - 1) text result after (is.others (omega arith))

shape_answered : {D : Type 0} {g : Ghosts D} (f : D → List Bool)
    (below : D → ℕ → List ℕ → Result (Unit {0}) MessageError → D → Type 0)
    → KeepsByMessage below f
    → KeepsByMessage (SlotAnswers {D = D} {g = g} below) (shape_with f)
shape_answered f below kept slot layer text result after is =
    let same = message_kept f below kept slot layer text result after is in
    ap (λ (has : Bool). has ∷ f (device_of after)) same.1
    ∙ ap (λ (shape : List Bool). has_layer slot ∷ shape) same.0

one_answered : KeepsByMessage one_answers shape_one
one_answered level layer text result after is =
    shape_answered (λ disk. []) DiskAnswers
    (λ disk layer text result after is. refl) level.top layer text result after.top is

two_answered : KeepsByMessage two_answers shape_two
two_answered level layer text result after is =
    shape_answered shape_one one_answers one_answered level.top layer text result after.top is

three_answered : KeepsByMessage three_answers shape_three
three_answered level layer text result after is =
    shape_answered shape_two two_answers two_answered level.top layer text result after.top is

-- a message leaves no gap
pub no_gap_answered : (old : Stack) (layer : ℕ) (text : List ℕ)
    (result : Result (Unit {0}) MessageError) (top : _)
    → SlotAnswers three_answers old.top layer text result top → has_no_gap (shape_of top) ≡ true
no_gap_answered old layer text result top is =
    ap has_no_gap (shape_answered shape_three three_answers three_answered old.top layer text result
    top is) ∙ old.filled
