-- The layers of a stack, and the disk below them.
-- Layers over a device, each over the one before it, from the lowest up.
use Rattle.std.specs.Prelude.{List, [], ◌∷◌, ◌++◌, None, Result, Err, Ok, ◌≡◌, ◌↔◌, ℕ, zero, suc}
use Rattle.std.specs.Prelude.{length, ◌⊎◌, ◌+◌, ◌/◌, ◌<◌, ◌≤◌, Bool, ◌||◌, false}
use Rattle.std.specs.List.{list_any}
use Rattle.bio.specs.Content.{Content}
use Rattle.bio.specs.declared.outcome.DevError.{DevError}
use Rattle.bio.specs.declared.outcome.DevError.TheVariants.{Io}
use Rattle.bio.specs.Moments.{later_by}
use Rattle.blockdev.specs.View.{Call, View}
use Rattle.blockdev.specs.declared.device.BlockDev.{Ghosts}
use Rattle.blockdev.specs.OwnCounts.{counted, one_more}
use Rattle.sector_disk.specs.declared.disk.SectorDisk.{SectorDisk}
use Rattle.sector_disk.specs.DiskView.{DoesOnDisk}
use Rattle.fault_layers.specs.Decision.{call_kind, KeepsBuffer}
use Rattle.fault_layers.specs.declared.fault_rule.CallVerdict.{CallVerdict}
use Rattle.fault_layers.specs.declared.fault_rule.CallVerdict.TheVariants.{Delay, Drop, Fail, Pass}
use Rattle.fault_layers.specs.declared.fault_rule.Target.{Target}
use Rattle.fault_layers.specs.declared.fault_rule.Target.TheVariants as targets
use Rattle.fault_layers.specs.Verdicts.{drops_writes, loaded_after, rule_verdict, Loaded}
use Rattle.fault_layers.specs.Window.{call_from, window, SeenFrom}
use Rattle.dust_layer.specs.Walk.{Bad, listed_counts}
use Rattle.dust_layer.specs.declared.mode.Mode.{Mode}
use Rattle.dust_layer.specs.declared.mode.Mode.TheVariants.{Bypass}
use Rattle.dust_layer.specs.DustRule.{IsDoneBy}
use Rattle.layer_table.specs.declared.layer_spec.LayerSpec.{LayerSpec}
use Rattle.layer_table.specs.declared.levels.one.One.{One}
use Rattle.layer_table.specs.declared.levels.three.Three.{Three}
use Rattle.layer_table.specs.declared.levels.two.Two.{Two}
use Rattle.layer_table.specs.declared.slot.Slot.{Slot}
use Rattle.layer_table.specs.declared.slot.Slot.TheVariants as slots
use Rattle.layer_table.specs.declared.stack.Stack.{Stack}
use Rattle.layer_table.specs.Levels.{disk_three}
use Rattle.layer_table.specs.TableLines.{IsLayerSpec}
use Rattle.layer_table.specs.Slots.{device_of, slot_does, slot_shown}

-- the number of sectors of the top layer, or `sectors` if there is no layer
abbrev pub top_sectors : ℕ → List LayerSpec → ℕ
top_sectors sectors [] = sectors
top_sectors sectors (layer ∷ layers) = top_sectors layer.length layers

-- the disk's sector that is the top layer's first sector, if the device below the layers begins at
-- the disk's sector `origin`
abbrev pub top_origin : ℕ → List LayerSpec → ℕ
top_origin origin [] = origin
top_origin origin (layer ∷ layers) = top_origin (origin + layer.offset) layers

-- The layers can be put over a device of `sectors` sectors. The values of each layer are in their
-- ranges, and each layer is within the device or the layer below it.
abbrev pub LayersAreAllowed : ℕ → List LayerSpec → Type 0
LayersAreAllowed sectors [] = Unit {0}
LayersAreAllowed sectors (layer ∷ layers) =
    IsLayerSpec layer × (layer.offset + layer.length ≤ sectors) × LayersAreAllowed layer.length layers

-- whether one of the layers may drop writes, discards and flushes and report them as done
abbrev pub some_drops : List LayerSpec → Bool
some_drops = list_any (λ layer. drops_writes layer.target)

-- The rule of a layer for its calls. `Deciding`: a fault rule decides about each call. `Dusting`:
-- calls go by the list `bad` of blocks of `block` sectors, and by the mode.
pub data Rule : Type 0 where
  Deciding : (fault_rule : Loaded) → Rule
  Dusting : (block : ℕ) (bad : Bad) (mode : Mode) → Rule

-- A layer: its range of the device below, its rule, and how many calls the layer itself failed and
-- dropped.
pub record Layer : Type 0 where
  pub offset : ℕ
  pub length : ℕ
  pub rule : Rule
  pub faults : ℕ
  pub lies : ℕ

-- the layer in a slot, if it has one, and then the layers of the device below
abbrev pub layers_with : {D : Type 0} {g : Ghosts D} → (D → List Layer) → Slot D g → List Layer
layers_with {D} {g} beneath (slots.Bare device) = beneath device
layers_with {D} {g} beneath (slots.Decided layer) =
    record {
      offset = layer.lower.offset;
      length = layer.lower.length;
      rule = Deciding layer.fault_rule;
      faults = layer.faults;
      lies = layer.lies;
    } ∷ beneath layer.lower.lower
layers_with {D} {g} beneath (slots.Dusted layer) =
    record {
      offset = layer.lower.offset;
      length = layer.lower.length;
      rule = Dusting layer.block (listed_counts layer.bad) layer.mode;
      faults = layer.faults;
      lies = 0;
    } ∷ beneath layer.lower.lower

-- the layers of the lowest slot, of the two lowest and of the three lowest, the top first
abbrev pub layers_one : One → List Layer
layers_one level = layers_with (λ disk. []) level.top

abbrev pub layers_two : Two → List Layer
layers_two level = layers_with layers_one level.top

abbrev pub layers_three : Three → List Layer
layers_three level = layers_with layers_two level.top

-- the layers of a stack, the top first, and the disk below them
abbrev pub layers_of : Stack → List Layer
layers_of stack = layers_with layers_three stack.top

abbrev pub disk_of : Stack → SectorDisk
disk_of stack = disk_three (device_of stack.top)

-- The rule of a target that is loaded at `load`. A dust layer has blocks of `bytes / 512` sectors.
-- At first it has no bad block, and is in bypass.
abbrev pub rule_asked : Target → ℕ → Rule
rule_asked (targets.Dust bytes) load = Dusting (bytes / 512) (λ block. None) Bypass
rule_asked target load = Deciding (record { target = target; load = load })

-- the layer that `spec` asks for, loaded at `load`
abbrev pub layer_asked : LayerSpec → ℕ → Layer
layer_asked spec load =
    record {
      offset = spec.offset;
      length = spec.length;
      rule = rule_asked spec.target load;
      faults = 0;
      lies = 0;
    }

-- the layers, the top first, after the layers `specs` were put over `layers` in their order
abbrev pub layers_under : List LayerSpec → ℕ → List Layer → List Layer
layers_under [] load layers = layers
layers_under (spec ∷ specs) load layers = layers_under specs load (layer_asked spec load ∷ layers)

-- ---- views

-- the view of a stack: that of its top slot
abbrev pub stack_shown : Stack → View
stack_shown stack = slot_shown stack.top

-- The view of a layer over a device with the view `v`: its range of the device. A fault rule adds
-- its faults and lies, and a dust layer adds its faults.
abbrev pub layer_over : Rule → Layer → View → View
layer_over (Dusting block bad mode) layer v =
    counted (window v layer.offset layer.length) layer.faults 0 false
layer_over (Deciding fault_rule) layer v =
    counted (window v layer.offset layer.length) layer.faults layer.lies (drops_writes fault_rule.target)

-- the view of layers over a device with the view `v`
abbrev pub layers_over : List Layer → View → View
layers_over [] v = v
layers_over (layer ∷ layers) v = layer_over layer.rule layer (layers_over layers v)

-- two devices with the views `v` and `w` look the same
pub record IsSeenAs (v w : View) : Type 0 where
  pub size : w.size ≡ v.size
  pub origin : w.origin ≡ v.origin
  pub content : (sector : ℕ) → w.content sector ≡ v.content sector
  pub crash : (left : Content) → w.crash left ↔ v.crash left
  pub clock : w.clock ≡ v.clock
  pub since : (reading : ℕ) (left : Content) → w.since reading left ↔ v.since reading left
  pub faults : w.faults ≡ v.faults
  pub lies : w.lies ≡ v.lies
  pub can_lie : w.can_lie ≡ v.can_lie

-- `w` is the view of a new layer, as `spec` asks for it, over a device with the view `v`.
pub record IsLayerPut (spec : LayerSpec) (v w : View) : Type 0 where
  pub size : w.size ≡ spec.length
  pub origin : w.origin ≡ record { sector = v.origin.sector + spec.offset; disk = v.origin.disk }
  pub content : (sector : ℕ) → w.content sector ≡ v.content (spec.offset + sector)
  pub crash : (left : Content) → w.crash left ↔ SeenFrom spec.offset v.crash left
  pub clock : w.clock ≡ v.clock
  pub since : (reading : ℕ) (left : Content)
      → w.since reading left ↔ SeenFrom spec.offset (v.since reading) left
  pub faults : w.faults ≡ v.faults
  pub lies : w.lies ≡ v.lies
  -- the layer can lie if the device below can, or if the layer's target may drop writes
  pub can_lie : w.can_lie ≡ v.can_lie || drops_writes spec.target

-- `w` is the view of new layers over a device with the view `v`. None of these layers has failed or
-- dropped a call.
pub record AreOver (specs : List LayerSpec) (v w : View) : Type 0 where
  pub size : w.size ≡ top_sectors v.size specs
  pub origin : w.origin ≡ record { sector = top_origin v.origin.sector specs; disk = v.origin.disk }
  pub clock : w.clock ≡ v.clock
  pub faults : w.faults ≡ v.faults
  pub lies : w.lies ≡ v.lies
  -- if none of the layers may drop writes, they can lie exactly if the device below can
  pub can_lie : some_drops specs ≡ false → w.can_lie ≡ v.can_lie

-- The stack `back` is `old` with the first layers of `specs`, which are `put`. The layer `next`
-- after them is refused.
pub record IsPartlyUnder (specs : List LayerSpec) (load : ℕ) (old back : Stack) : Type 0 where
  pub put : List LayerSpec
  pub next : LayerSpec
  pub above : List LayerSpec
  pub are : specs ≡ put ++ next ∷ above
  pub layers : layers_of back ≡ layers_under put load (layers_of old)
  pub disk : disk_of back ≡ disk_of old
  -- `next` doesn't fit on `back`, or `back` has four layers
  pub refused : ((stack_shown back).size < next.offset + next.length)
      ⊎ (length (layers_of back) ≡ 4)

-- `w` is the view of a part of the disk with the view `v`: the sectors from `w`'s origin on. If a
-- crash leaves a content of the disk, it may leave that content's part of `w`.
pub record IsPartOf (v w : View) : Type 0 where
  pub disk : w.origin.disk ≡ v.size
  pub within : w.origin.sector + w.size ≤ v.size
  pub content : (sector : ℕ) → w.content sector ≡ v.content (w.origin.sector + sector)
  pub crash : (left : Content) → v.crash left
      → (seen : Content) × w.crash seen
      × ((sector : ℕ) → seen sector ≡ left (w.origin.sector + sector))
  -- the clocks of `v` and `w` have the same reading
  pub clock : w.clock ≡ v.clock
  -- For each content of the disk that a crash since a reading of the clock may leave, `w` may be
  -- left with its part. `w` may be left with no other contents.
  pub since : (reading : ℕ) (left : Content) → v.since reading left
      → (seen : Content) × w.since reading seen
      × ((sector : ℕ) → seen sector ≡ left (w.origin.sector + sector))
  pub only : (reading : ℕ) (seen : Content) → w.since reading seen
      → (left : Content) × v.since reading left
      × ((sector : ℕ) → seen sector ≡ left (w.origin.sector + sector))

-- ---- what calls do

-- the effect of a call of a stack: that of its top slot
abbrev pub stack_does : Stack → Call → ℕ → Result ℕ DevError → Stack → Type 0
stack_does old call now result new = slot_does old.top call now result new.top

-- a stack, as contracts see a device
abbrev pub on_stack : Ghosts Stack
on_stack = record { shown = stack_shown; does = stack_does }

-- The effect of a call at a layer, by its fault rule's verdict. `below begun` says that the device
-- below did the call at the time `begun`. `same` says that the device below is unchanged.
pub record Decides (verdict : CallVerdict) (below : ℕ → Type 0) (same : Type 0) (call : Call) (now : ℕ)
    (result : Result ℕ DevError) (layer after : Layer) : Type 0 where
  pub passes : verdict ≡ Pass
      → below now × (after.faults ≡ layer.faults) × (after.lies ≡ layer.lies)
  pub delays : (by : ℕ) → verdict ≡ Delay by
      → below (later_by now by) × (after.faults ≡ layer.faults) × (after.lies ≡ layer.lies)
      × ((end : ℕ) → result ≡ Ok end → later_by now by ≤ end)
  pub fails : verdict ≡ Fail
      → (result ≡ Err Io) × (after.faults ≡ one_more layer.faults) × (after.lies ≡ layer.lies)
      × same × KeepsBuffer call
  pub drops : verdict ≡ Drop
      → (result ≡ Ok now) × (after.faults ≡ layer.faults) × (after.lies ≡ one_more layer.lies)
      × same

-- Layers, the top first, and the disk below them.
pub record Under : Type 0 where
  pub layers : List Layer
  pub disk : SectorDisk

-- `does` for calls that are shifted by `offset` sectors
abbrev pub shifted : (Under → Call → ℕ → Result ℕ DevError → Under → Type 0) → ℕ → Under → Call → ℕ
    → Result ℕ DevError → Under → Type 0
shifted does offset old call now result new = does old (call_from offset call) now result new

-- The effect of a call at a dust layer, by its mode. The list of bad blocks and the count of faults
-- may change. The block size, the mode and the lies stay.
pub record Dusts (does : Under → Call → ℕ → Result ℕ DevError → Under → Type 0) (block : ℕ)
    (bad : Bad) (mode : Mode) (old : Under) (call : Call) (now : ℕ)
    (result : Result ℕ DevError)
    (new : Under) (layer after : Layer) : Type 0 where
  pub list : Bad
  pub rule : after.rule ≡ Dusting block list mode
  pub done : IsDoneBy does mode block call now result
      (record { lower = old; bad = bad; faults = layer.faults })
      (record { lower = new; bad = list; faults = after.faults })
  pub lies : after.lies ≡ layer.lies

-- the effect of a call at a layer by its rule; `does` is the effect of calls of the device below
abbrev pub DoesAt : (Under → Call → ℕ → Result ℕ DevError → Under → Type 0) → Rule → Under → Call
    → ℕ → Result ℕ DevError → Under → Layer → Layer → Type 0
DoesAt does (Deciding fault_rule) old call now result new layer after =
    Decides (rule_verdict fault_rule (call_kind call) now)
    (λ begun. shifted does layer.offset old call begun result new)
    (new ≡ old) call now result layer after
    × (after.rule ≡ Deciding (loaded_after fault_rule (call_kind call) now))
DoesAt does (Dusting block bad mode) old call now result new layer after =
    Dusts (shifted does layer.offset) block bad mode old call now result new layer after

-- the effect of a call at the top of at least one layer; the top's range stays
abbrev pub DoesAtTop : (Under → Call → ℕ → Result ℕ DevError → Under → Type 0) → List Layer
    → SectorDisk → Call → ℕ → Result ℕ DevError → List Layer
    → SectorDisk → Type 0
DoesAtTop does [] disk call now result after new = ⊥
DoesAtTop does (layer ∷ layers) disk call now result [] new = ⊥
DoesAtTop does (layer ∷ layers) disk call now result (after ∷ others) new =
    DoesAt does layer.rule (record { layers = layers; disk = disk }) call now result
    (record { layers = others; disk = new }) layer after
    × (after.offset ≡ layer.offset) × (after.length ≡ layer.length)

-- The effect of a call on `count` layers over a disk. The top layer does the call by its rule.
-- Calls to the layers below are shifted by the top's offset.
abbrev pub CountedLayersDo : ℕ → Under → Call → ℕ → Result ℕ DevError → Under → Type 0
CountedLayersDo zero old call now result new =
    (old.layers ≡ []) × (new.layers ≡ []) × DoesOnDisk old.disk call now result new.disk
CountedLayersDo (suc count) old call now result new =
    DoesAtTop (CountedLayersDo count) old.layers old.disk call now result new.layers new.disk

abbrev pub LayersDo : List Layer → SectorDisk → Call → ℕ → Result ℕ DevError → List Layer
    → SectorDisk → Type 0
LayersDo layers disk call now result after new =
    CountedLayersDo (length layers) (record { layers = layers; disk = disk }) call now result
    (record { layers = after; disk = new })

-- The effect of a call on layers over a disk, by the top's verdict. `next` is the top after the
-- call, except for its counts.
pub record Follows (verdict : CallVerdict) (next : Layer) (layers : List Layer) (old : SectorDisk)
    (call : Call) (now : ℕ) (result : Result ℕ DevError)
    (after : List Layer) (new : SectorDisk) : Type 0 where
  -- The layers below did the call at `now`, shifted by the top's offset.
  pub passes : verdict ≡ Pass
      → (others : List Layer) × (after ≡ next ∷ others)
      × LayersDo layers old (call_from next.offset call) now result others new
  -- The layers below did the call, shifted, at the later time. If the call ends Ok, it doesn't end
  -- before that time.
  pub delays : (by : ℕ) → verdict ≡ Delay by → (others : List Layer) × (after ≡ next ∷ others)
      × LayersDo layers old (call_from next.offset call) (later_by now by) result others new
      × ((end : ℕ) → result ≡ Ok end → later_by now by ≤ end)
  -- The call failed with Io and counts as a fault, and nothing below changed.
  pub fails : verdict ≡ Fail
      → (result ≡ Err Io) × (after ≡ record next { faults = one_more next.faults } ∷ layers)
      × (new ≡ old) × KeepsBuffer call
  -- The call ended Ok at `now` and counts as a lie, and nothing below changed.
  pub drops : verdict ≡ Drop
      → (result ≡ Ok now) × (after ≡ record next { lies = one_more next.lies } ∷ layers)
      × (new ≡ old)

-- The effect of a call if the top is a dust layer. At the top, only the list and the count of
-- faults may change. Calls below are shifted by the top's offset.
pub record FollowsBlocks (block : ℕ) (bad : Bad) (mode : Mode) (layer : Layer) (layers : List Layer)
    (old : SectorDisk) (call : Call) (now : ℕ)
    (result : Result ℕ DevError) (after : List Layer) (new : SectorDisk) : Type 0 where
  pub others : List Layer
  pub list : Bad
  pub faults : ℕ
  pub stays : after ≡ record layer { rule = Dusting block list mode; faults = faults } ∷ others
  pub done : IsDoneBy (shifted (CountedLayersDo (length layers)) layer.offset) mode block call now
      result
      (record { lower = record { layers = layers; disk = old }; bad = bad; faults = layer.faults })
      (record { lower = record { layers = others; disk = new }; bad = list; faults = faults })
