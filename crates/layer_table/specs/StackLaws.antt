-- Laws of layers and stacks: their view, their calls, their parts, and the rule of the top layer.
use Rattle.std.proofs.Common.{subst, sym, ◌∙◌, arith, ◌≡◌, ℕ, ◌+◌, suc, ◌<◌, Bool, true, false}
use Rattle.std.proofs.Common.{List, [], ◌∷◌, length, Result, refl, ap}
use Rattle.bio.specs.Content.{moved}
use Rattle.bio.specs.declared.outcome.DevError.{DevError}
use Rattle.bio.specs.Moments.{later_by}
use Rattle.blockdev.specs.View.{Call, IsLawful, IsRange, View}
use Rattle.blockdev.specs.declared.device.BlockDev.{Ghosts}
use Rattle.sector_disk.specs.declared.disk.SectorDisk.{SectorDisk}
use Rattle.sector_disk.specs.DiskView.{shown_of, DoesOnDisk}
use Rattle.fault_layers.specs.Decision.{call_kind}
use Rattle.fault_layers.specs.declared.linear.Linear.{Linear}
use Rattle.fault_layers.specs.Verdicts.{loaded_after, rule_verdict, Loaded}
use Rattle.fault_layers.specs.Window.{call_from, window}
use Rattle.dust_layer.specs.Walk.{Bad, listed_counts}
use Rattle.dust_layer.specs.CarryLaws.{done_carried}
use Rattle.dust_layer.specs.declared.dust.Dust.{Dust}
use Rattle.dust_layer.specs.declared.mode.Mode.{Mode}
use Rattle.dust_layer.specs.DustRule.{held}
use Rattle.layer_table.specs.declared.levels.one.One.{One}
use Rattle.layer_table.specs.declared.levels.three.Three.{Three}
use Rattle.layer_table.specs.declared.levels.two.Two.{Two}
use Rattle.layer_table.specs.declared.slot.Slot.{Slot}
use Rattle.layer_table.specs.declared.slot.Slot.TheVariants as slots
use Rattle.layer_table.specs.declared.stack.Stack.{Stack}
use Rattle.layer_table.specs.Layers.{CountedLayersDo, Under, FollowsBlocks, Layer, layers_with}
use Rattle.layer_table.specs.Layers.{shifted, Deciding, DoesAt, Dusting, Follows, LayersDo, Rule}
use Rattle.layer_table.specs.Layers.{layers_two, stack_does, stack_shown, IsPartOf, IsSeenAs}
use Rattle.layer_table.specs.Layers.{disk_of, layers_of, layers_one, layers_over, layers_three}
use Rattle.layer_table.specs.Levels.{disk_one, disk_three, disk_two, shape_of, shape_one}
use Rattle.layer_table.specs.Levels.{shape_three, shape_two}
use Rattle.layer_table.specs.OneLevel.{one_does, one_shown}
use Rattle.layer_table.specs.SlotLaws.{decided_keeps, dusted_keeps, slot_kept, shape_kept}
use Rattle.layer_table.specs.SlotLaws.{slot_lawful, KeepsValue}
use Rattle.layer_table.specs.Slots.{device_of, has_layer, has_no_gap, slot_does, slot_shown}
use Rattle.layer_table.specs.Slots.{CallIsShifted}
use Rattle.layer_table.specs.ThreeLevel.{three_does, three_lawful, three_shown}
use Rattle.layer_table.specs.TwoLevel.{two_does, two_shown}

-- Laws of layers: the view and the calls of a slot, parts of a disk, and calls by the rule of the
-- top layer.

-- The view and the calls of a slot, in terms of its layers.

-- ---- views

-- The view of a slot is the view of its layers over the base's view, given the same for the device
-- below.
pub shown_with : {D : Type 0} {g : Ghosts D} (layers : D → List Layer) (base : D → View)
    → ((device : D) → g.shown device ≡ layers_over (layers device) (base device))
    → (slot : Slot D g) → slot_shown slot
    ≡ layers_over (layers_with layers slot) (base (device_of slot))
shown_with {D} {g} layers base same (slots.Bare device) = same device
shown_with {D} {g} layers base same (slots.Decided layer) = grind arith
shown_with {D} {g} layers base same (slots.Dusted layer) = grind arith

-- ---- what calls do

-- the layers of a device, and the disk below them
abbrev pub under_of : {D : Type 0} → (D → List Layer) → (D → SectorDisk) → D → Under
under_of layers disk device = record { layers = layers device; disk = disk device }

-- rules with equal parts are equal
same_dust : {D : Type 0} (layer after : Dust D) → after.block ≡ layer.block
    → after.mode ≡ layer.mode
    → Dusting after.block (listed_counts after.bad) after.mode
    ≡ Dusting layer.block (listed_counts after.bad) layer.mode
same_dust layer after block mode = rw (block, mode) refl

-- If a slot does a call, the layers of the slot do it (`LayersDo`), given the same for the device
-- below. No call of that device may change its number of layers.
pub does_with : {D : Type 0} {g : Ghosts D} (layers : D → List Layer) (disk : D → SectorDisk)
    → KeepsValue g (λ device. length (layers device))
    → ((device : D) (call : Call) (now : ℕ) (result : Result ℕ DevError) (after : D)
    → g.does device call now result after
    → LayersDo (layers device) (disk device) call now result (layers after) (disk after))
    → (slot : Slot D g) (call : Call) (now : ℕ) (result : Result ℕ DevError) (after : Slot D g)
    → slot_does slot call now result after
    → LayersDo (layers_with layers slot) (disk (device_of slot)) call now result
    (layers_with layers after) (disk (device_of after))
does_with {D} {g} layers disk kept below (slots.Bare device) call now result
    (slots.Bare after) does =
    below device call now result after does
does_with {D} {g} layers disk kept below (slots.Bare device) call now result (slots.Decided after)
    does = absurd does
does_with {D} {g} layers disk kept below (slots.Bare device) call now result (slots.Dusted after)
    does = absurd does
does_with {D} {g} layers disk kept below (slots.Decided layer) call now result (slots.Bare after)
    does = absurd does
does_with {D} {g} layers disk kept below (slots.Decided layer) call now result
    (slots.Decided after) does =
    let verdict = rule_verdict layer.fault_rule (call_kind call) now in (
      (
        record {
          passes = λ is.
              grind arith;
          delays = λ by is.
              let done = does.0.delays by is in (
                below layer.lower.lower (call_from layer.lower.offset call)
                    (later_by now by) result after.lower.lower done.0.0,
                done.1,
                done.2,
                done.3,
              );
          fails = λ is.
              grind arith;
          drops = λ is.
              grind arith;
        },
        ap Deciding does.1,
      ),
      decided_keeps (λ (range : Linear D g). range.offset) verdict _ call now result layer after
          does.0 (λ begun did. did.1),
      decided_keeps (λ (range : Linear D g). range.length) verdict _ call now result layer after
          does.0 (λ begun did. did.2),
    )
does_with {D} {g} layers disk kept below (slots.Decided layer) call now result (slots.Dusted after)
    does = absurd does
does_with {D} {g} layers disk kept below (slots.Dusted layer) call now result (slots.Bare after)
    does = absurd does
does_with {D} {g} layers disk kept below (slots.Dusted layer) call now result (slots.Decided after)
    does = absurd does
does_with {D} {g} layers disk kept below (slots.Dusted layer) call now result
    (slots.Dusted after) does = (
      record {
        list = listed_counts after.bad;
        rule = same_dust layer after does.block does.mode;
        done =
            (done_carried CallIsShifted (shifted
            (CountedLayersDo (length (layers layer.lower.lower))) layer.lower.offset)
            (λ range. (length (layers range.lower) ≡ length (layers layer.lower.lower))
            × (range.offset ≡ layer.lower.offset))
            (λ range. under_of layers disk range.lower)
            (λ range call now result next holds did. (
              rw (← holds.1) (subst (λ (count : ℕ). CountedLayersDo count (under_of layers disk
                  range.lower) (call_from range.offset call) now result (under_of layers disk
                  next.lower)) holds.0 (below range.lower (call_from range.offset call) now result
                  next.lower did.0)),
              (
                kept range.lower (call_from range.offset call) now result next.lower
                    did.0 ∙ holds.0,
                did.1 ∙ holds.1,
              ),
            ))
            layer.mode layer.block call now result (held layer) (held after)
            (refl, refl) does.done).0;
        lies = refl;
      },
      dusted_keeps (λ (range : Linear D g). range.offset)
          (λ range call now result next did. did.1) call now result layer after does,
      dusted_keeps (λ (range : Linear D g). range.length)
          (λ range call now result next did. did.2) call now result layer after does,
    )

-- `count`, plus one if the slot has a layer
abbrev pub count_with : Bool → ℕ → ℕ
count_with true count = suc count
count_with false count = count

pub counted_with : {D : Type 0} {g : Ghosts D} (layers : D → List Layer) (slot : Slot D g)
    → length (layers_with layers slot)
    ≡ count_with (has_layer slot) (length (layers (device_of slot)))
counted_with {D} {g} layers (slots.Bare device) = refl
counted_with {D} {g} layers (slots.Decided layer) = refl
counted_with {D} {g} layers (slots.Dusted layer) = refl

-- a device without layers keeps their number 0
pub none_kept : {D : Type 0} (g : Ghosts D) → KeepsValue g (λ device. length {A = Layer} [])
none_kept g device call now result after did = refl

-- a slot's call keeps the number of layers
pub count_kept : {D : Type 0} {g : Ghosts D} (layers : D → List Layer)
    → KeepsValue g (λ device. length (layers device))
    → (slot : Slot D g) (call : Call) (now : ℕ) (result : Result ℕ DevError) (after : Slot D g)
    → slot_does slot call now result after
    → length (layers_with layers after) ≡ length (layers_with layers slot)
count_kept {D} {g} layers kept slot call now result after does =
    let same = slot_kept (λ device. length (layers device)) kept slot call now result after does in
    counted_with layers after ∙ ap (λ (count : ℕ). count_with (has_layer after) count) same.0
    ∙ ap (λ (has : Bool). count_with has (length (layers (device_of slot)))) same.1
    ∙ sym (counted_with layers slot)

-- A stack of layers over a disk is a part of the disk.

-- a disk is a part of itself
pub disk_part : (disk : SectorDisk) → IsPartOf (shown_of disk) (shown_of disk)
disk_part disk = record {
  disk = refl;
  within = omega arith;
  content = λ sector. ap (shown_of disk).content (omega arith);
  crash = λ left may. (left, may, λ sector. ap left (omega arith));
  clock = refl;
  since = λ reading left may. (left, may, λ sector. ap left (omega arith));
  only = λ reading left may. (left, may, λ sector. ap left (omega arith));
}

-- a range of a part is a part
window_part : (v w : View) (offset length : ℕ) → IsRange w.size offset length → IsPartOf v w
    → IsPartOf v (window w offset length)
window_part v w offset length fits is = record {
  disk = is.disk;
  within = let a = fits.within in let b = is.within in omega arith;
  content = λ sector. is.content (offset + sector) ∙ ap v.content (omega arith);
  crash = λ left may.
      let below = is.crash left may in (
        moved offset below.0,
        (below.0, below.1, λ sector. refl),
        λ sector. below.2 (offset + sector) ∙ ap left (omega arith),
      );
  clock = is.clock;
  since = λ reading left may.
      let below = is.since reading left may in (
        moved offset below.0,
        (below.0, below.1, λ sector. refl),
        λ sector. below.2 (offset + sector) ∙ ap left (omega arith),
      );
  only = λ reading seen may.
      let below = is.only reading may.0 may.1 in (
        below.0,
        below.1,
        λ sector. may.2 sector ∙ (below.2 (offset + sector) ∙ ap below.0 (omega arith)),
      );
}

-- a slot is a part of the disk if the device below is one
pub part_with : {D : Type 0} {g : Ghosts D} (disk : D → View)
    → ((device : D) → IsPartOf (disk device) (g.shown device))
    → (slot : Slot D g) → IsPartOf (disk (device_of slot)) (slot_shown slot)
part_with {D} {g} disk below (slots.Bare device) = below device
part_with {D} {g} disk below (slots.Dusted layer) =
    let is =
    window_part (disk layer.lower.lower)
    (g.shown layer.lower.lower) layer.lower.offset layer.lower.length layer.lower.fits
    (below layer.lower.lower) in
    record {
      disk = is.disk;
      within = is.within;
      content = is.content;
      crash = is.crash;
      clock = is.clock;
      since = is.since;
      only = is.only;
    }
part_with {D} {g} disk below (slots.Decided layer) =
    let is =
    window_part (disk layer.lower.lower)
    (g.shown layer.lower.lower) layer.lower.offset layer.lower.length layer.lower.fits
    (below layer.lower.lower) in
    record {
      disk = is.disk;
      within = is.within;
      content = is.content;
      crash = is.crash;
      clock = is.clock;
      since = is.since;
      only = is.only;
    }

-- The effect of a call on layers over a disk, by the rule of the top layer.

-- layers with equal fields are equal
same_values : (o p l m : ℕ) (g h : Rule) (f e i k : ℕ) → o ≡ p → l ≡ m → g ≡ h → f ≡ e → i ≡ k
    → ◌≡◌ {A = Layer} (record { offset = o; length = l; rule = g; faults = f; lies = i })
    (record { offset = p; length = m; rule = h; faults = e; lies = k })
same_values o p l m g h f e i k offset length rule faults lies = grind arith

same_layer : (a b : Layer) → a.offset ≡ b.offset → a.length ≡ b.length → a.rule ≡ b.rule
    → a.faults ≡ b.faults → a.lies ≡ b.lies → a ≡ b
same_layer a b offset length rule faults lies = grind (arith, same_values)

-- lists with equal tops and equal rests are equal
same_top : (a b : Layer) (layers others : List Layer) → a ≡ b → layers ≡ others
    → a ∷ layers ≡ b ∷ others
same_top a b layers others top rest = grind arith

-- a call at the top has the effect of the top's rule
at_top : (layer : Layer) (layers : List Layer) (old : SectorDisk) (call : Call) (now : ℕ)
    (result : Result ℕ DevError) (top : Layer)
    (others : List Layer) (new : SectorDisk) (rule : Rule) → layer.rule ≡ rule
    → LayersDo (layer ∷ layers) old call now result (top ∷ others) new
    → DoesAt (CountedLayersDo (length layers)) rule
    (record { layers = layers; disk = old }) call now result
    (record { layers = others; disk = new }) layer top
at_top layer layers old call now result top others new rule is does = grind arith

-- If the top layer has a fault rule, it does what the fault rule's verdict says (`Follows`).
pub rule_top : (layer : Layer) (layers : List Layer) (old : SectorDisk) (call : Call) (now : ℕ)
    (result : Result ℕ DevError) (after : List Layer)
    (new : SectorDisk)
    (fault_rule : Loaded) → layer.rule ≡ Deciding fault_rule
    → LayersDo (layer ∷ layers) old call now result after new
    → Follows (rule_verdict fault_rule (call_kind call) now)
    (record layer {
      rule = Deciding
          (loaded_after fault_rule (call_kind call) now);
    }) layers old call now result after new
rule_top layer layers old call now result [] new fault_rule is does = absurd does
rule_top layer layers old call now result (top ∷ others) new fault_rule is does =
    let done = at_top layer layers old call now result top others new (Deciding fault_rule) is does in
    record {
      passes = λ pass.
          grind (
            arith,
            same_top top _ others others (same_layer top _ does.1 does.2 done.1
                (done.0.passes pass).1 (done.0.passes pass).2),
          );
      delays = λ by delay.
          let did = done.0.delays by delay in (
            others,
            same_top top _ others others
                (same_layer top _ does.1 does.2 done.1 did.1 did.2) refl,
            did.0,
            did.3,
          );
      fails = λ fail.
          let did = done.0.fails fail in (
            did.0,
            same_top top _ others layers (same_layer top _ does.1 does.2 done.1 did.1 did.2)
                (ap (λ (it : Under). it.layers) did.3),
            ap (λ (it : Under). it.disk) did.3,
            did.4,
          );
      drops = λ drop.
          let did = done.0.drops drop in (
            did.0,
            same_top top _ others layers (same_layer top _ does.1 does.2 done.1 did.1 did.2)
                (ap (λ (it : Under). it.layers) did.3),
            ap (λ (it : Under). it.disk) did.3,
          );
    }

-- If the top layer is a dust layer, a call goes by its list and its mode (`FollowsBlocks`).
pub dust_top : (layer : Layer) (layers : List Layer) (old : SectorDisk) (call : Call) (now : ℕ)
    (result : Result ℕ DevError) (after : List Layer)
    (new : SectorDisk)
    (block : ℕ) (bad : Bad) (mode : Mode) → layer.rule ≡ Dusting block bad mode
    → LayersDo (layer ∷ layers) old call now result after new
    → FollowsBlocks block bad mode layer layers old call now result after new
dust_top layer layers old call now result [] new block bad mode is does = absurd does
dust_top layer layers old call now result (top ∷ others) new block bad mode is does =
    let done = at_top layer layers old call now result top others new
    (Dusting block bad mode) is does in
    record {
      others = others;
      list = done.list;
      faults = top.faults;
      stays =
          same_top top _ others others
          (same_layer top _ does.1 does.2 done.rule refl done.lies) refl;
      done = done.done;
    }

-- Laws of stacks.

-- a stack keeps the law of a device
pub stack_lawful : (stack : Stack) → IsLawful (stack_shown stack)
stack_lawful stack = slot_lawful three_lawful stack.top

-- the disk and the three lower slots, as devices
abbrev pub on_disk : Ghosts SectorDisk
on_disk = record { shown = shown_of; does = DoesOnDisk }

abbrev on_one : Ghosts One
on_one = record { shown = one_shown; does = one_does }

abbrev on_two : Ghosts Two
on_two = record { shown = two_shown; does = two_does }

abbrev on_three : Ghosts Three
on_three = record { shown = three_shown; does = three_does }

-- ---- a call leaves no gap

one_shape : KeepsValue on_one shape_one
one_shape level call now result after does =
    shape_kept (λ disk. []) (λ disk call now result after did. refl) level.top call now result
    after.top does

two_shape : KeepsValue on_two shape_two
two_shape level call now result after does =
    shape_kept shape_one one_shape level.top call now result after.top does

three_shape : KeepsValue on_three shape_three
three_shape level call now result after does =
    shape_kept shape_two two_shape level.top call now result after.top does

pub no_gap_kept : (old : Stack) (call : Call) (now : ℕ) (result : Result ℕ DevError) (top : _)
    → slot_does old.top call now result top
    → has_no_gap (shape_of top) ≡ true
no_gap_kept old call now result top does =
    ap has_no_gap (shape_kept shape_three three_shape old.top call now result top does) ∙ old.filled

-- ---- the view of a stack is that of its layers over the view of the disk below

one_by_layers : (level : One)
    → one_shown level ≡ layers_over (layers_one level) (shown_of (disk_one level))
one_by_layers level = shown_with (λ disk. []) shown_of (λ disk. refl) level.top

two_by_layers : (level : Two)
    → two_shown level ≡ layers_over (layers_two level) (shown_of (disk_two level))
two_by_layers level = shown_with layers_one (λ one. shown_of (disk_one one)) one_by_layers level.top

three_by_layers : (level : Three)
    → three_shown level ≡ layers_over (layers_three level) (shown_of (disk_three level))
three_by_layers level =
    shown_with layers_two (λ two. shown_of (disk_two two)) two_by_layers level.top

pub shown_by_layers : (stack : Stack)
    → stack_shown stack ≡ layers_over (layers_of stack) (shown_of (disk_of stack))
shown_by_layers stack =
    shown_with layers_three (λ three. shown_of (disk_three three)) three_by_layers stack.top

-- ---- a stack's call is one of its layers over the disk below

one_count : KeepsValue on_one (λ level. length (layers_one level))
one_count level call now result after does = grind (arith, count_kept, none_kept)

two_count : KeepsValue on_two (λ level. length (layers_two level))
two_count level call now result after does = grind (arith, count_kept, one_count)

three_count : KeepsValue on_three (λ level. length (layers_three level))
three_count level call now result after does =
    count_kept layers_two two_count level.top call now result after.top does

one_done : (old : One) (call : Call) (now : ℕ) (result : Result ℕ DevError) (new : One)
    → one_does old call now result new
    → LayersDo (layers_one old) (disk_one old) call now result (layers_one new) (disk_one new)
one_done old call now result new does =
    does_with (λ disk. []) (λ disk. disk) (none_kept on_disk)
    (λ disk call now result after did. (refl, refl, did)) old.top call now result new.top does

two_done : (old : Two) (call : Call) (now : ℕ) (result : Result ℕ DevError) (new : Two)
    → two_does old call now result new
    → LayersDo (layers_two old) (disk_two old) call now result (layers_two new) (disk_two new)
two_done old call now result new does =
    does_with layers_one disk_one one_count one_done old.top call now result new.top does

three_done : (old : Three) (call : Call) (now : ℕ) (result : Result ℕ DevError) (new : Three)
    → three_does old call now result new
    → LayersDo (layers_three old) (disk_three old) call now result (layers_three new)
    (disk_three new)
three_done old call now result new does =
    does_with layers_two disk_two two_count two_done old.top call now result new.top does

pub done_by_layers : (old : Stack) (call : Call) (now : ℕ) (result : Result ℕ DevError)
    (new : Stack) → stack_does old call now result new
    → LayersDo (layers_of old) (disk_of old) call now result (layers_of new) (disk_of new)
done_by_layers old call now result new does =
    does_with layers_three disk_three three_count three_done old.top call now result new.top does

-- if two views are equal, they look the same (`IsSeenAs`)
pub seen_as : (v w : View) → w ≡ v → IsSeenAs v w
seen_as v w same = subst (λ (x : View). IsSeenAs x w) same (record {
  size = refl;
  origin = refl;
  content = λ sector. refl;
  crash = λ left. (λ may. may, λ may. may);
  clock = refl;
  since = λ reading left. (λ may. may, λ may. may);
  faults = refl;
  lies = refl;
  can_lie = refl;
})

pub seen_by_layers : (stack : Stack)
    → IsSeenAs (layers_over (layers_of stack) (shown_of (disk_of stack))) (stack_shown stack)
seen_by_layers stack = seen_as _ _ (shown_by_layers stack)

-- a stack is a part of the disk below it
one_part : (level : One) → IsPartOf (shown_of (disk_one level)) (one_shown level)
one_part level = part_with shown_of disk_part level.top

two_part : (level : Two) → IsPartOf (shown_of (disk_two level)) (two_shown level)
two_part level = part_with (λ one. shown_of (disk_one one)) one_part level.top

three_part : (level : Three) → IsPartOf (shown_of (disk_three level)) (three_shown level)
three_part level = part_with (λ two. shown_of (disk_two two)) two_part level.top

pub part_of_disk : (stack : Stack) → IsPartOf (shown_of (disk_of stack)) (stack_shown stack)
part_of_disk stack = part_with (λ three. shown_of (disk_three three)) three_part stack.top

-- the number of layers is the number of slots that have a layer
counted_in : (stack : Stack)
    → let three = device_of stack.top in
    let two = device_of three.top in
    let one = device_of two.top in
    length (layers_of stack)
    ≡ count_with (has_layer stack.top)
    (count_with (has_layer three.top)
    (count_with (has_layer two.top) (count_with (has_layer one.top) 0)))
counted_in stack =
    let three = device_of stack.top in
    let two = device_of three.top in
    let one = device_of two.top in
    counted_with layers_three stack.top
    ∙ ap (count_with (has_layer stack.top)) (counted_with layers_two three.top
    ∙ ap (count_with (has_layer three.top)) (counted_with layers_one two.top
    ∙ ap (count_with (has_layer two.top)) (counted_with (λ disk. []) one.top)))

-- If the top slot has a layer and there is no gap, all four slots have one. If the top slot has no
-- layer, at most three slots have one.
four_full : (a b c d : Bool) → a ≡ true → has_no_gap (a ∷ b ∷ c ∷ d ∷ []) ≡ true
    → count_with a (count_with b (count_with c (count_with d 0))) ≡ 4
four_full true true true true is whole = refl
four_full true true true false is whole = absurd (cc)
four_full true true false d is whole = absurd (cc)
four_full true false c d is whole = absurd (cc)
four_full false b c d is whole = absurd (cc)

three_left : (a b c d : Bool) → a ≡ false
    → count_with a (count_with b (count_with c (count_with d 0))) < 4
three_left false true true true is = omega arith
three_left false true true false is = omega arith
three_left false true false true is = omega arith
three_left false true false false is = omega arith
three_left false false true true is = omega arith
three_left false false true false is = omega arith
three_left false false false true is = omega arith
three_left false false false false is = omega arith
three_left true b c d is = absurd (cc)

pub full_stack : (stack : Stack) → has_layer stack.top ≡ true → length (layers_of stack) ≡ 4
full_stack stack is = grind (arith, counted_in, four_full)

pub free_stack : (stack : Stack) → has_layer stack.top ≡ false → length (layers_of stack) < 4
free_stack stack is = grind (arith, counted_in, three_left)
