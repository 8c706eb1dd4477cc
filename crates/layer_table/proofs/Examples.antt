-- Examples of layers, slots, views and table lines: what holds, and what doesn't.
use Rattle.std.proofs.Common.{◌≡◌, List, ℕ, ◌+◌, true, false, [], ◌∷◌, Result, Ok, Err, replicate}
use Rattle.std.proofs.Common.{refl, sym, true≢false, arith}
use Rattle.std.specs.Prelude.{codes}
use Rattle.refusals.specs.Words.{words_of}
use Rattle.bio.specs.Content.{Content}
use Rattle.blockdev.specs.View.{Flushes, View}
use Rattle.fault_layers.specs.declared.fault_rule.Feature.TheVariants as features
use Rattle.fault_layers.specs.declared.fault_rule.CallVerdict.TheVariants.{Drop}
use Rattle.fault_layers.specs.declared.fault_rule.Target.{Target}
use Rattle.fault_layers.specs.declared.fault_rule.Target.TheVariants as targets
use Rattle.fault_layers.specs.Verdicts.{IsCycle, Loaded}
use Rattle.dust_layer.specs.Orders.{IsBlockSize}
use Rattle.layer_table.specs.declared.layer_spec.LayerSpec.{LayerSpec}
use Rattle.layer_table.specs.declared.table_error.TableError.{TableError}
use Rattle.layer_table.specs.declared.table_error.TableError.TheVariants.{WrongCount}
use Rattle.layer_table.specs.Layers.{top_origin, top_sectors, LayersAreAllowed, IsLayerPut, IsSeenAs, Layer}
use Rattle.layer_table.specs.Layers.{some_drops, AreOver, layer_asked, layers_over, Deciding}
use Rattle.layer_table.specs.Layers.{Decides, IsPartOf}
use Rattle.layer_table.specs.TableLines.{IsLayerSpec, line_answer}
use Rattle.layer_table.specs.Slots.{has_no_gap}

abbrev fault_rule : Target → Loaded
fault_rule target = record { target = target; load = 3000 }

asked : layer_asked (record { length = 8; offset = 4; target = targets.Fuse 3 }) 3000
    ≡ record {
      offset = 4;
      length = 8;
      rule = Deciding (fault_rule (targets.Fuse 3));
      faults = 0;
      lies = 0;
    }
asked = refl

abbrev over_eight : Target → LayerSpec
over_eight target = record { length = 8; offset = 0; target = target }

one-drops : some_drops (over_eight targets.Linear ∷ over_eight
    (targets.Flakey 0 5 features.DropWrites) ∷ []) ≡ true
one-drops = refl

none-drops : some_drops (over_eight targets.Error ∷ over_eight
    (targets.Flakey 0 5 features.ErrorWrites) ∷ over_eight (targets.Fuse 0) ∷ []) ≡ false
none-drops = refl

two-lowest : has_no_gap (false ∷ false ∷ true ∷ true ∷ []) ≡ true
two-lowest = refl

none : has_no_gap (false ∷ false ∷ false ∷ false ∷ []) ≡ true
none = refl

gap-beneath : has_no_gap (false ∷ true ∷ false ∷ true ∷ []) ≡ false
gap-beneath = refl

abbrev four-on : Layer
four-on =
    record {
      offset = 4;
      length = 8;
      rule = Deciding (fault_rule targets.Linear);
      faults = 0;
      lies = 0;
    }

abbrev two-on : Layer
two-on =
    record {
      offset = 2;
      length = 3;
      rule = Deciding (fault_rule (targets.Fuse 3));
      faults = 5;
      lies = 0;
    }

-- The top layer's sector 1 is sector 7 of `v`. Its size is the top layer's length.
top-sector : (v : View) → (layers_over (two-on ∷ four-on ∷ []) v).content 1 ≡ v.content 7
top-sector v = refl

top-size : (v : View) → (layers_over (two-on ∷ four-on ∷ []) v).size ≡ 3
top-size v = refl

no-layer : (v : View) → (layers_over [] v).content 1 ≡ v.content 1
no-layer v = refl

-- Views and calls that `IsSeenAs`, `IsLayerPut`, `AreOver`, `IsPartOf` or `Decides` refuses because
-- of one clause. Also some that they accept.

-- content of one value in each sector
all : ℕ → Content
all value sector = replicate 512 value

-- a crash leaves zeroes, or 2s
Zeroes : Content → Type 0
Zeroes left = (sector : ℕ) → left sector ≡ all 0 sector

-- a device of 8 sectors of zeroes, and the four of them from the third one on
still : View
still =
    record {
      size = 8;
      origin = record { sector = 0; disk = 8 };
      content = all 0;
      crash = Zeroes;
      clock = 1;
      since = λ reading. Zeroes;
      faults = 1;
      lies = 1;
      can_lie = false;
    }

top : View
top =
    record {
      size = 4;
      origin = record { sector = 2; disk = 8 };
      content = all 0;
      crash = Zeroes;
      clock = 1;
      since = λ reading. Zeroes;
      faults = 1;
      lies = 1;
      can_lie = false;
    }

seen : IsSeenAs still still
seen = grind arith

seen_size : IsSeenAs still (record still { size = 9 }) → ⊥
unfolding still
seen_size same = let is = same.size in omega arith

abbrev four_on : Target → LayerSpec
four_on target = record { length = 4; offset = 2; target = target }

put_size : IsLayerPut (four_on targets.Linear) still (record top { size = 6 }) → ⊥
unfolding still top
put_size put = let is = put.size in omega arith

over : AreOver (four_on targets.Linear ∷ []) still top
unfolding still top
over = grind arith

over_size : AreOver (four_on targets.Linear ∷ []) still (record top { size = 8 }) → ⊥
unfolding still top
over_size put = let is = put.size in omega arith

part : IsPartOf still top
unfolding still top Zeroes all
part = record {
  disk = refl;
  within = omega arith;
  content = λ sector. refl;
  crash = λ left may. (all 0, λ sector. refl, λ sector. sym (may (2 + sector)));
  clock = refl;
  since = λ reading left may. (all 0, λ sector. refl, λ sector. sym (may (2 + sector)));
  only = λ reading seen may. (all 0, λ sector. refl, may);
}

part_within : IsPartOf still (record top { size = 7 }) → ⊥
unfolding still top
part_within is = let fits = is.within in omega arith

-- a layer with these counts of faults and lies
layer : ℕ → ℕ → Layer
layer faults lies =
    record {
      offset = 0;
      length = 8;
      rule = Deciding (record { target = targets.Linear; load = 0 });
      faults = faults;
      lies = lies;
    }

drop_below : Decides Drop (λ begun. Unit {0}) ⊥ Flushes 5 (Ok 5) (layer 0 0) (layer 0 1) → ⊥
drop_below told = (told.drops refl).3

-- Examples of table lines: lines that ask for a layer, and lines that fail a test.

-- what a line asks for, or the first test that it fails
abbrev answer : List ℕ → Result LayerSpec TableError
answer line = line_answer (words_of line)

-- a layer of 16 sectors
abbrev line_layer : ℕ → Target → Result LayerSpec TableError
line_layer offset target = Ok (record { length = 16; offset = offset; target = target })

lying : answer (codes "0 16 flakey disk 8 10 5 1 drop_writes")
    ≡ line_layer 8 (targets.Flakey 10 5 features.DropWrites)
lying = refl

short : answer (codes "0 16") ≡ Err WrongCount
short = refl

half_a_set : answer (codes "0 16 delay a 0 1 a 0") ≡ Err WrongCount
half_a_set = refl

a-block : IsBlockSize 1024
unfolding lib.Count.ones
a-block = record { power = refl; some = omega arith; few = omega arith }

no-block : IsBlockSize 1536 → ⊥
unfolding lib.Count.ones
no-block size = true≢false (sym size.power)

-- no seconds at all are no cycle
no-cycle : IsCycle 0 0 → ⊥
no-cycle cycle = let some = cycle.some in omega arith

-- up and down are counted together
whole-cycle : IsCycle 4294967290 5
whole-cycle = record { some = omega arith; few = omega arith }

-- 8 sectors from sector 4 on, and of these 3 from sector 2 on
abbrev eight : LayerSpec
eight = record { length = 8; offset = 4; target = targets.Linear }

abbrev three : LayerSpec
three = record { length = 3; offset = 2; target = targets.Fuse 1 }

their-top : top_sectors 16 (eight ∷ three ∷ []) ≡ 3
their-top = refl

their-origin : top_origin 0 (eight ∷ three ∷ []) ≡ 6
their-origin = refl

no-layers : top_sectors 16 [] ≡ 16
no-layers = refl

they-stand : LayersAreAllowed 12 (eight ∷ three ∷ [])
they-stand = grind arith

-- past the device's end, and past the end of the layer beneath
not-on-eleven : LayersAreAllowed 11 (eight ∷ three ∷ []) → ⊥
not-on-eleven stand = let within = stand.1 in omega arith

not-on-three : LayersAreAllowed 16 (three ∷ eight ∷ []) → ⊥
not-on-three stand = let within = stand.2.1 in omega arith

-- each is one that a line may ask for
each-is-asked : (sectors : ℕ) (line_layer : LayerSpec) (layers : List LayerSpec)
    → LayersAreAllowed sectors (line_layer ∷ layers) → IsLayerSpec line_layer
each-is-asked sectors line_layer layers stand = stand.0
