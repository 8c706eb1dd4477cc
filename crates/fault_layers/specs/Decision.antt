-- `IsDecided`: what a `Ruled` device does with a call, given the verdict of its fault rule.
use Rattle.std.specs.Prelude.{◌≡◌, ◌≤◌, ℕ, Err, Ok, Result}
use Rattle.bio.specs.declared.outcome.DevError.{DevError}
use Rattle.bio.specs.declared.outcome.DevError.TheVariants.{Io}
use Rattle.bio.specs.Moments.{later_by}
use Rattle.blockdev.specs.View as calls
use Rattle.blockdev.specs.View.{Call}
use Rattle.blockdev.specs.OwnCounts.{one_more}
use Rattle.fault_layers.specs.declared.fault_rule.CallKind.{CallKind}
use Rattle.fault_layers.specs.declared.fault_rule.CallKind.TheVariants.{Discard, Flush, Read, Write}
use Rattle.fault_layers.specs.declared.fault_rule.CallVerdict.{CallVerdict}
use Rattle.fault_layers.specs.declared.fault_rule.CallVerdict.TheVariants.{Delay, Drop, Fail, Pass}
use Rattle.fault_layers.specs.declared.ruled.Ruled.{Ruled}

-- The kind of a call.
abbrev pub call_kind : Call → CallKind
call_kind (calls.Reads first before after) = Read
call_kind (calls.Writes first bytes fua) = Write
call_kind (calls.Discards first count) = Discard
call_kind calls.Flushes = Flush

-- If the call is a read, its buffer is unchanged.
abbrev pub KeepsBuffer : Call → Type 0
KeepsBuffer (calls.Reads first before after) = after ≡ before
KeepsBuffer (calls.Writes first bytes fua) = Unit {0}
KeepsBuffer (calls.Discards first count) = Unit {0}
KeepsBuffer calls.Flushes = Unit {0}

-- What a device does with `call` at `now`, given the verdict. `below begun` says that the lower
-- device did the call at the time `begun`, with the same result.
pub record IsDecided {D K : Type 0} (verdict : CallVerdict) (below : ℕ → Type 0) (call : Call) (now : ℕ)
    (result : Result ℕ DevError) (old new : Ruled D K) : Type 0 where
  -- If the verdict is Pass, the lower device did the call at `now`, and the counts stay.
  pub passes : verdict ≡ Pass → below now × (new.faults ≡ old.faults) × (new.lies ≡ old.lies)
  -- If the verdict is Delay, the lower device did the call at the delayed time, and the counts
  -- stay. If the call ends Ok, it doesn't end before the delayed time.
  pub delays : (by : ℕ) → verdict ≡ Delay by
      → below (later_by now by) × (new.faults ≡ old.faults) × (new.lies ≡ old.lies)
      × ((end : ℕ) → result ≡ Ok end → later_by now by ≤ end)
  -- If the verdict is Fail, the call fails with Io, and counts as a fault. The lies, the lower
  -- device and a read's buffer stay.
  pub fails : verdict ≡ Fail
      → (result ≡ Err Io) × (new.faults ≡ one_more old.faults) × (new.lies ≡ old.lies)
      × (new.lower ≡ old.lower) × KeepsBuffer call
  -- If the verdict is Drop, the call ends Ok at `now`, and counts as a lie. The faults and the
  -- lower device stay.
  pub drops : verdict ≡ Drop
      → (result ≡ Ok now) × (new.faults ≡ old.faults) × (new.lies ≡ one_more old.lies)
      × (new.lower ≡ old.lower)
