-- Proves laws of layers that are put over a stack, and of what a message keeps of a stack.
use Rattle.std.proofs.Common.{subst, sym, ◌∙◌, inl, inr, arith, ◌≡◌, ℕ, false, ◌+◌, ◌<◌, ◌≤◌, List}
use Rattle.std.proofs.Common.{[], ◌∷◌, ◌++◌, length, refl}
use Rattle.std.specs.Prelude.{◌↔◌, ◌⊎◌, Err, IfErr, IsErrAnd, Ok, Result}
use Rattle.std.proofs.lemmas.Bool.{or_parts}
use Rattle.std.proofs.lemmas.List.{append_assoc}
use Rattle.std.proofs.Math.Bool.{or-false}
use Rattle.std.specs.List.{AllByRecursion}
use Rattle.bio.specs.Content.{Content}
use Rattle.blockdev.specs.declared.device.BlockDev.{Ghosts}
use Rattle.blockdev.specs.declared.message.MessageError.{MessageError}
use Rattle.blockdev.specs.View.{Origin, View}
use Rattle.fault_layers.specs.Window.{SeenFrom}
use Rattle.layer_table.specs.declared.layer_spec.LayerSpec.{LayerSpec}
use Rattle.layer_table.specs.declared.slot.Slot.{Slot}
use Rattle.layer_table.specs.declared.slot.Slot.TheVariants as slots
use Rattle.layer_table.specs.declared.stack.Stack.{Stack}
use Rattle.layer_table.specs.Layers.{layers_with, AreOver, LayersAreAllowed, IsPartlyUnder, IsLayerPut, Layer}
use Rattle.layer_table.specs.Layers.{disk_of, layer_asked, layers_of, layers_under, some_drops}
use Rattle.layer_table.specs.Layers.{stack_shown, top_origin, top_sectors}
use Rattle.layer_table.specs.TableLines.{IsLayerSpec}
use Rattle.layer_table.specs.Slots.{AnswersBelow, AnswersItself, IsNoMessage}
use Rattle.layer_table.specs.StackMessages.{StackAnswers}
use Rattle.layer_table.specs.ThreeLevel.{three_answers}

-- The layers `specs` except the last ones, `rest`, are put over `old`; the result is `stack`.
pub record AreUnder (specs rest : List LayerSpec) (load : ℕ) (old stack : Stack) : Type 0 where
  put : List LayerSpec
  are : specs ≡ put ++ rest
  stands : layers_of stack ≡ layers_under put load (layers_of old)
  asked : AllByRecursion IsLayerSpec rest
  layers : layers_under rest load (layers_of stack) ≡ layers_under specs load (layers_of old)
  disk : disk_of stack ≡ disk_of old
  size : top_sectors (stack_shown stack).size rest ≡ top_sectors (stack_shown old).size specs
  origin : top_origin (stack_shown stack).origin.sector rest
      ≡ top_origin (stack_shown old).origin.sector specs
  disk_sectors : (stack_shown stack).origin.disk ≡ (stack_shown old).origin.disk
  clock : (stack_shown stack).clock ≡ (stack_shown old).clock
  faults : (stack_shown stack).faults ≡ (stack_shown old).faults
  lies : (stack_shown stack).lies ≡ (stack_shown old).lies
  drops : some_drops specs ≡ false
      → (some_drops rest ≡ false) × ((stack_shown stack).can_lie ≡ (stack_shown old).can_lie)
  stand : LayersAreAllowed (stack_shown old).size specs → LayersAreAllowed (stack_shown stack).size rest
  count : length (layers_of stack) + length rest ≡ length (layers_of old) + length specs

pub none_under : (specs : List LayerSpec) (load : ℕ) (old : Stack)
    → AllByRecursion IsLayerSpec specs → AreUnder specs specs load old old
none_under specs load old asked = record {
  put = [];
  are = refl;
  stands = refl;
  asked = asked;
  layers = refl;
  disk = refl;
  size = refl;
  origin = refl;
  disk_sectors = refl;
  clock = refl;
  faults = refl;
  lies = refl;
  drops = λ none. (none, refl);
  stand = λ stand. stand;
  count = refl;
}

pub first_asked : (specs rest : List LayerSpec) (spec : LayerSpec) (above : List LayerSpec)
    (load : ℕ) (old stack : Stack) → rest ≡ spec ∷ above
    → AreUnder specs rest load old stack → IsLayerSpec spec
first_asked specs rest spec above load old stack is are = grind arith

under_one_more : (put : List LayerSpec) (spec : LayerSpec) (load : ℕ) (layers : List Layer)
    → layers_under (put ++ spec ∷ []) load layers
    ≡ layer_asked spec load ∷ layers_under put load layers
under_one_more [] spec load layers = refl
under_one_more (first ∷ put) spec load layers =
    under_one_more put spec load (layer_asked first load ∷ layers)

pub one_under : (specs rest : List LayerSpec) (spec : LayerSpec) (above : List LayerSpec) (load : ℕ)
    (old stack next : Stack) → rest ≡ spec ∷ above
    → AreUnder specs rest load old stack → layers_of next ≡ layer_asked spec load ∷ layers_of stack
    → disk_of next ≡ disk_of stack
    → IsLayerPut spec (stack_shown stack) (stack_shown next) → AreUnder specs above load old next
one_under specs rest spec above load old stack next is before layers disk put =
    let are = rw is at before in
    record {
      put = are.put ++ spec ∷ [];
      are = are.are ∙ sym (append_assoc are.put (spec ∷ []) above);
      stands =
          layers ∙ rw are.stands (sym (under_one_more are.put spec load (layers_of old)));
      asked = are.asked.1;
      layers = rw layers are.layers;
      disk = disk ∙ are.disk;
      size = rw put.size are.size;
      origin = rw put.origin are.origin;
      disk_sectors = rw put.origin are.disk_sectors;
      clock = put.clock ∙ are.clock;
      faults = put.faults ∙ are.faults;
      lies = put.lies ∙ are.lies;
      drops = λ none.
          grind (arith, or_parts, or-false);
      stand = λ stand. subst (λ (n : ℕ). LayersAreAllowed n above) (sym put.size) (are.stand stand).2;
      count =
          grind (arith, length);
    }

same_origin : (origin : Origin) (sector : ℕ) {disk : ℕ} → origin.sector ≡ sector → origin.disk ≡ disk
    → origin ≡ record { sector = sector; disk = disk }
same_origin origin sector {disk} here there = rw (sym here, sym there) refl

pub all_under : (specs rest : List LayerSpec) (load : ℕ) (old stack : Stack) → length rest ≡ 0
    → AreUnder specs rest load old stack
    → (layers_of stack ≡ layers_under specs load (layers_of old)) × (disk_of stack ≡ disk_of old)
    × AreOver specs (stack_shown old) (stack_shown stack)
all_under specs [] load old stack none are = (
  are.layers,
  are.disk,
  record {
    size = are.size;
    origin = same_origin _ _ are.origin are.disk_sectors;
    clock = are.clock;
    faults = are.faults;
    lies = are.lies;
    can_lie = λ none. (are.drops none).1;
  },
)
all_under specs (spec ∷ rest) load old stack none are = absurd (omega arith)

-- If the layers are allowed and the slots suffice, no layer is refused.
pub none_refused : (specs rest : List LayerSpec) (spec : LayerSpec) (above : List LayerSpec)
    (load : ℕ) (old stack : Stack) → rest ≡ spec ∷ above
    → AreUnder specs rest load old stack → LayersAreAllowed (stack_shown old).size specs
    → length (layers_of old) + length specs ≤ 4
    → ((stack_shown stack).size < spec.offset + spec.length) ⊎ (length (layers_of stack) ≡ 4) → ⊥
none_refused specs rest spec above load old stack is before stand few (inl past) = grind arith
none_refused specs rest spec above load old stack is before stand few (inr full) = grind arith

pub partly_under : (specs rest : List LayerSpec) (spec : LayerSpec) (above : List LayerSpec)
    (load : ℕ) (old stack back : Stack) → rest ≡ spec ∷ above
    → AreUnder specs rest load old stack → back ≡ stack
    → ((stack_shown stack).size < spec.offset + spec.length) ⊎ (length (layers_of stack) ≡ 4)
    → IsPartlyUnder specs load old back
partly_under specs rest spec above load old stack back is before same refused = grind arith

pub of_error : {T E : Type 0} {Q P : E → Type 0} (r : Result T E) → IsErrAnd r Q
    → ((e : E) → Q e → P e) → IfErr r P
of_error (Ok value) is each = absurd is
of_error (Err error) is each = each error is

no-layer-0 : (old new : Stack) (text : List ℕ) (result : Result (Unit {0}) MessageError)
    → StackAnswers old 0 text result new → IsNoMessage result old new
no-layer-0 old new text result is = is.outside (inl refl)

no-layer-5 : (old new : Stack) (text : List ℕ) (result : Result (Unit {0}) MessageError)
    → StackAnswers old 5 text result new → IsNoMessage result old new
no-layer-5 old new text result is = is.outside (inr (omega arith))

-- Layer 4 is the top slot, and layer 3 is the slot below it.
layer-4 : (old new : Stack) (text : List ℕ) (result : Result (Unit {0}) MessageError)
    → StackAnswers old 4 text result new
    → AnswersItself old.top text result new.top
layer-4 old new text result is = (is.within (omega arith) (omega arith)).own refl

layer-3 : (old new : Stack) (text : List ℕ) (result : Result (Unit {0}) MessageError)
    → StackAnswers old 3 text result new
    → AnswersBelow three_answers old.top 1 text result new.top
layer-3 old new text result is = (is.within (omega arith) (omega arith)).others (omega arith)

-- The layers of a slot if the device below has none: the slot's own layer, if it has one.
abbrev alone : {D : Type 0} {g : Ghosts D} → Slot D g → List Layer
alone slot = layers_with (λ device. []) slot

layer-stays : {D : Type 0} {g : Ghosts D}
    (below : D → ℕ → List ℕ → Result (Unit {0}) MessageError → D → Type 0) (slot : Slot D g)
    (layer : ℕ) (text : List ℕ)
    (result : Result (Unit {0}) MessageError) (after : Slot D g)
    → AnswersBelow below slot layer text result after → alone after ≡ alone slot
layer-stays below (slots.Bare it) layer text result (slots.Bare after) is = refl
layer-stays below (slots.Bare it) layer text result (slots.Decided after) is = absurd is
layer-stays below (slots.Bare it) layer text result (slots.Dusted after) is = absurd is
layer-stays below (slots.Decided it) layer text result (slots.Bare after) is = absurd is
layer-stays below (slots.Decided it) layer text result (slots.Decided after) is = grind arith
layer-stays below (slots.Decided it) layer text result (slots.Dusted after) is = absurd is
layer-stays below (slots.Dusted it) layer text result (slots.Bare after) is = absurd is
layer-stays below (slots.Dusted it) layer text result (slots.Decided after) is = absurd is
layer-stays below (slots.Dusted it) layer text result (slots.Dusted after) is = grind arith

put-shows : (spec : LayerSpec) (v w : View) → IsLayerPut spec v w → (sector : ℕ)
    → w.content sector ≡ v.content (spec.offset + sector)
put-shows spec v w put = put.content

put-crash : (spec : LayerSpec) (v w : View) → IsLayerPut spec v w → (left : Content)
    → w.crash left ↔ SeenFrom spec.offset v.crash left
put-crash spec v w put = put.crash

put-since : (spec : LayerSpec) (v w : View) → IsLayerPut spec v w → (reading : ℕ) (left : Content)
    → w.since reading left ↔ SeenFrom spec.offset (v.since reading) left
put-since spec v w put = put.since
