-- What a crash leaves of the log of a shared recorder, in the headline's plain definitions.
use Rattle.std.specs.Prelude.{ℕ, ◌+◌, ◌≤◌, true, List, Ok, Result}
use Rattle.bio.specs.Content.{Content}
use Rattle.bio.specs.declared.event.CoreEvent.{CoreEvent}
use Rattle.bio.specs.declared.outcome.DevError.{DevError}
use Rattle.blockdev.specs.View.{Call, View, Writes}
use Rattle.log_format.specs.LogOf.{first_sector}
use Rattle.lock_state.specs.Comparison.{Receipt}
use Rattle.pending.specs.Plain.{LeavesPlainLog}

-- Creating a log with sectors of `bytes` bytes may take its device from `old` to `made`. Creation
-- is a write with FUA of a super block that counts no entries.
abbrev pub IsCreated : {D : Type 0} → (D → Call → ℕ → Result ℕ DevError → D → Type 0) → ℕ → D → D
    → Type 0
IsCreated does bytes old made =
    (end : ℕ) × does old (Writes 0 (first_sector bytes 0) true) 0 (Ok end) made

-- The log began when the clock of its device had a reading, one of `begins`. `LeavesPlainLog` holds
-- for each content that a crash may have left since then: while threads ran, inside a call too.
pub record CrashesLeavePlainLogs (begins : ℕ → Type 0) (bytes : ℕ) (device : View)
    (events : List CoreEvent) : Type 0 where
  pub begun : ℕ
  pub one : begins begun
  pub past : begun ≤ device.clock
  pub leaves : (left : Content) → device.since begun left
      → LeavesPlainLog bytes device.size 0 events left

-- The receipt was made when the clock of the log's device had the reading `receipt.reading`. Each
-- content that a crash may have left since then, while threads ran and inside a call too, has the
-- receipt's entry.
pub record KeepsPlainReceipt (bytes : ℕ) (device : View) (events : List CoreEvent)
    (receipt : Receipt) : Type 0 where
  pub past : receipt.reading ≤ device.clock
  pub leaves : (left : Content) → device.since receipt.reading left
      → LeavesPlainLog bytes device.size (receipt.number + 1) events left
