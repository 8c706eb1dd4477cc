use Rattle.std.proofs.Common.{ℕ, IsTrue, List, arith}
use Rattle.std.proofs.Math.Nat.{div-mul-le_self}
use Rattle.bio.specs.Content.{AgreeBelow, Content}
use Rattle.bio.specs.declared.event.CoreEvent.{CoreEvent}
use Rattle.log_format.specs.Entries.{is_sector_size}
use Rattle.log_format.specs.EntryLaws.{sector_size_bounds}
use Rattle.pending.specs.Plain.{HasPlainLog}
use Rattle.headline.proofs.laws.crashed_logs_are_held.Goals as goal

-- a log ends within its disk, so only the disk's sectors matter
log_within : (S : ℕ) (events : List CoreEvent) (ids : List ℕ) (disk : ℕ) (old new : Content)
    → IsTrue (is_sector_size S) → AgreeBelow disk old new → HasPlainLog S events ids disk old
    → HasPlainLog S events ids disk new
log_within S events ids disk old new right agree log =
    grind (arith, sector_size_bounds, div-mul-le_self)

pub returns : goal.returns
returns g c = grind (arith, log_within)
