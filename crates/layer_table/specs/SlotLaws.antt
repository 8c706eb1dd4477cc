-- If the device below is lawful, a slot over it is lawful. A call doesn't change whether a slot has
-- a layer.
use Rattle.std.proofs.Common.{◌≡◌, ℕ, Bool, false, List, ◌∷◌, Result, refl, ap, ◌∙◌}
use Rattle.bio.specs.declared.outcome.DevError.{DevError}
use Rattle.bio.specs.Moments.{later_by}
use Rattle.blockdev.specs.declared.device.BlockDev.{Ghosts}
use Rattle.blockdev.specs.View.{Call, IsLawful}
use Rattle.blockdev.specs.OwnCounts.{lawful_counted}
use Rattle.fault_layers.specs.declared.fault_rule.CallVerdict.{CallVerdict}
use Rattle.fault_layers.specs.declared.fault_rule.CallVerdict.TheVariants.{Delay, Drop, Fail, Pass}
use Rattle.fault_layers.specs.declared.ruled.Ruled.{Ruled}
use Rattle.fault_layers.specs.declared.linear.Linear.{Linear}
use Rattle.fault_layers.specs.Window.{window}
use Rattle.fault_layers.specs.WindowLaws.{lawful_window}
use Rattle.fault_layers.specs.Decision.{call_kind, IsDecided}
use Rattle.dust_layer.specs.declared.dust.Dust.{Dust}
use Rattle.dust_layer.specs.CarryLaws.{done_carried}
use Rattle.dust_layer.specs.DustRule.{held, IsDusted}
use Rattle.layer_table.specs.declared.slot.Slot.{Slot}
use Rattle.layer_table.specs.declared.slot.Slot.TheVariants as slots
use Rattle.fault_layers.specs.Verdicts.{drops_writes, rule_verdict}
use Rattle.layer_table.specs.Slots.{device_of, has_layer, shape_with, slot_does, slot_shown}
use Rattle.layer_table.specs.Slots.{CallIsShifted}

pub slot_lawful : {D : Type 0} {g : Ghosts D} → ((device : D) → IsLawful (g.shown device))
    → (slot : Slot D g) → IsLawful (slot_shown slot)
slot_lawful {D} {g} lawful (slots.Bare device) = lawful device
slot_lawful {D} {g} lawful (slots.Decided layer) =
    lawful_counted (window (g.shown layer.lower.lower) layer.lower.offset layer.lower.length)
    layer.faults layer.lies (drops_writes layer.fault_rule.target)
    (lawful_window (g.shown layer.lower.lower) layer.lower.offset layer.lower.length
    layer.lower.fits (lawful layer.lower.lower))
slot_lawful {D} {g} lawful (slots.Dusted layer) =
    lawful_counted (window (g.shown layer.lower.lower) layer.lower.offset layer.lower.length)
    layer.faults 0 false
    (lawful_window (g.shown layer.lower.lower) layer.lower.offset layer.lower.length
    layer.lower.fits (lawful layer.lower.lower))

-- no call of a device changes its value of `f`
abbrev pub KeepsValue : {D A : Type 0} → Ghosts D → (D → A) → Type 0
KeepsValue {D} {A} g f =
    (device : D) (call : Call) (now : ℕ) (result : Result ℕ DevError) (after : D)
    → g.does device call now result after → f after ≡ f device

-- if the call of the range keeps the value of `f`, the call of a layer with a fault rule keeps it
pub decided_keeps : {D A : Type 0} {g : Ghosts D} (f : Linear D g → A) (verdict : CallVerdict)
    (below : ℕ → Type 0) (call : Call) (now : ℕ)
    (result : Result ℕ DevError)
    (layer after : Ruled (Linear D g) (Unit {0}))
    → IsDecided verdict below call now result layer after
    → ((begun : ℕ) → below begun → f after.lower ≡ f layer.lower) → f after.lower ≡ f layer.lower
decided_keeps f Pass below call now result layer after is passed = passed now (is.passes refl).0
decided_keeps f (Delay by) below call now result layer after is passed =
    passed (later_by now by) (is.delays by refl).0
decided_keeps f Fail below call now result layer after is passed = ap f (is.fails refl).3
decided_keeps f Drop below call now result layer after is passed = ap f (is.drops refl).3

-- if each call of the range keeps the value of `f`, each call of a dust layer keeps it
pub dusted_keeps : {D A : Type 0} {g : Ghosts D} (f : Linear D g → A)
    → ((range : Linear D g) (call : Call) (now : ℕ) (result : Result ℕ DevError)
    (after : Linear D g) → CallIsShifted range call now result after
    → f after ≡ f range) → (call : Call) (now : ℕ) (result : Result ℕ DevError)
    (layer after : Dust (Linear D g))
    → IsDusted CallIsShifted call now result layer after → f after.lower ≡ f layer.lower
dusted_keeps {D} {A} {g} f kept call now result layer after is =
    (done_carried CallIsShifted (λ (old : Unit {0}) call now result new. Unit {0})
    (λ range. f range ≡ f layer.lower) (λ range. tt)
    (λ old call now result new holds does. (tt, kept old call now result new does ∙ holds))
    layer.mode layer.block call now result (held layer) (held after) refl is.done).1

-- If each call of the device below keeps the value of `f`, a call of the slot keeps it too. A call
-- never changes whether the slot has a layer.
pub slot_kept : {D A : Type 0} {g : Ghosts D} (f : D → A) → KeepsValue g f
    → (slot : Slot D g) (call : Call) (now : ℕ) (result : Result ℕ DevError)
    (after : Slot D g) → slot_does slot call now result after
    → (f (device_of after) ≡ f (device_of slot)) × (has_layer after ≡ has_layer slot)
slot_kept {D} {A} {g} f kept (slots.Bare device) call now result (slots.Bare after) does =
    (kept device call now result after does, refl)
slot_kept {D} {A} {g} f kept (slots.Bare device) call now result (slots.Decided after) does =
    absurd does
slot_kept {D} {A} {g} f kept (slots.Bare device) call now result (slots.Dusted after) does =
    absurd does
slot_kept {D} {A} {g} f kept (slots.Decided layer) call now result (slots.Bare after) does =
    absurd does
slot_kept {D} {A} {g} f kept (slots.Decided layer) call now result (slots.Decided after) does = (
  decided_keeps (λ (range : Linear D g). f range.lower)
      (rule_verdict layer.fault_rule (call_kind call) now) _ call now result layer after does.0
      (λ begun below. kept layer.lower.lower _ begun result after.lower.lower below.0),
  refl,
)
slot_kept {D} {A} {g} f kept (slots.Decided layer) call now result (slots.Dusted after) does =
    absurd does
slot_kept {D} {A} {g} f kept (slots.Dusted layer) call now result (slots.Bare after) does =
    absurd does
slot_kept {D} {A} {g} f kept (slots.Dusted layer) call now result (slots.Decided after) does =
    absurd does
slot_kept {D} {A} {g} f kept (slots.Dusted layer) call now result (slots.Dusted after) does = (
  dusted_keeps (λ (range : Linear D g). f range.lower)
      (λ range call now result next below. kept range.lower _ now result next.lower below.0)
      call now result layer after does,
  refl,
)

-- A call of a slot keeps its shape: which slots, from this one down, have a layer.
pub shape_kept : {D : Type 0} {g : Ghosts D} (f : D → List Bool) → KeepsValue g f
    → (slot : Slot D g) (call : Call) (now : ℕ) (result : Result ℕ DevError)
    (after : Slot D g) → slot_does slot call now result after
    → shape_with f after ≡ shape_with f slot
shape_kept f kept slot call now result after does =
    let same = slot_kept f kept slot call now result after does in
    ap (λ (has : Bool). has ∷ f (device_of after)) same.1
    ∙ ap (λ (shape : List Bool). has_layer slot ∷ shape) same.0
