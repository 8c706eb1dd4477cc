-- What a receipt shows of the log's device.
use Rattle.std.specs.Prelude.{◌≡◌, ℕ, ◌<◌, ◌≤◌, ◌+◌, List, Option, Some, slice_get}
use Rattle.bio.specs.Content.{Content}
use Rattle.blockdev.specs.View.{View}
use Rattle.log_format.specs.declared.entry.Entry.{Entry}
use Rattle.log_store.specs.Store.{IsLogPrefix}
use Rattle.lock_state.specs.Comparison.{Receipt}
use Rattle.lock_state.specs.PlacedItems.{read_code}

-- One of the handles holds the reading and the number of the receipt.
abbrev pub HoldsReading : List (Option ℕ) → Receipt → Type 0
HoldsReading reads receipt = (receipt.number < 18446744073709551616)
    × (k : ℕ) × (slice_get reads k ≡ Some (Some (read_code receipt.reading receipt.number)))

-- Each content that a crash may have left since the receipt was made, inside a call too, has a log
-- of the first entries of `es`, with the receipt's entry. The device has this view.
pub record KeepsReceipt (bytes : ℕ) (view : View) (es : List Entry) (receipt : Receipt)
    : Type 0 where
  pub past : receipt.reading ≤ view.clock
  pub leaves : (left : Content) → view.since receipt.reading left
      → IsLogPrefix view.size bytes es (receipt.number + 1) left
