-- Examples of `BlockIsWithin`, and stops that `StopsAtBadBlock` refuses.
use Rattle.std.proofs.Common.{◌≡◌, ℕ, ◌+◌, false, arith}
use Rattle.std.specs.Prelude.{Result}
use Rattle.bio.specs.declared.outcome.DevError.{DevError}
use Rattle.blockdev.specs.View.{Call}
use Rattle.dust_layer.specs.Walk.{Bad, StopsAtBadBlock, begin_of, blocks_of, stops}
use Rattle.dust_layer.specs.Orders.{BlockIsWithin}

-- Examples of `BlockIsWithin`: blocks that begin within a layer, and blocks that don't.

none_of_none : BlockIsWithin 0 1 0 → ⊥
none_of_none within = omega arith

first_of_one : BlockIsWithin 0 1 1
first_of_one = omega arith

-- `StopsAtBadBlock` refuses a stop after the last block, and a stop at a block that doesn't stop
-- the call.

-- No call is stopped after its last block.
never_stopped_behind : {D : Type 0} (does : D → Call → ℕ → Result ℕ DevError → D → Type 0)
    (block : ℕ) (call : Call) (bad after : Bad) (old : D) (now : ℕ) (new : D)
    → (is : StopsAtBadBlock does block call bad after old now new) → is.count ≡ blocks_of block call → ⊥
never_stopped_behind does block call bad after old now new is behind = grind arith

-- No call is stopped at a block that doesn't stop it.
never_stopped_freely : {D : Type 0} (does : D → Call → ℕ → Result ℕ DevError → D → Type 0)
    (block : ℕ) (call : Call) (bad after : Bad) (old : D) (now : ℕ) (new : D)
    → (is : StopsAtBadBlock does block call bad after old now new)
    → stops call bad (begin_of block call + is.count) ≡ false → ⊥
never_stopped_freely does block call bad after old now new is free = grind arith
