-- When a delayed call of a disk in memory ends.
use Rattle.std.proofs.Common.{◌≡◌, ℕ, Ok, refl}
use Rattle.bio.specs.Moments.{later_by}
use Rattle.blockdev.specs.View.{Call, Discards, Flushes, Reads, Writes}
use Rattle.sector_disk.specs.DiskView.{DoesOnDisk}
use Rattle.sector_disk.specs.declared.disk.SectorDisk.{SectorDisk}
use Rattle.fault_layers.specs.declared.ruled.Ruled.{Ruled}
use Rattle.fault_layers.specs.Decision.{call_kind, IsDecided}
use Rattle.fault_layers.specs.Verdicts.{delay_of, delay_verdict, Delays}

-- If a call of a disk in memory ends Ok, it ends at the time at which it began.
pub ends_at_once : (old new : SectorDisk) (call : Call) (now end : ℕ)
    → DoesOnDisk old call now (Ok end) new → end ≡ now
ends_at_once old new (Reads first before after) now end (same, past, read) = cc
ends_at_once old new (Writes first bytes fua) now end (same, past) = same
ends_at_once old new (Discards first count) now end (same, past) = same
ends_at_once old new Flushes now end (same, past) = cc

-- If a delayed call of a disk in memory ends Ok, it ends at `now` plus the delay of its kind
-- (`later_by`).
pub ends_later : {K : Type 0} (old new : Ruled SectorDisk K) (delays : Delays) (call : Call)
    (now end : ℕ)
    → IsDecided (delay_verdict delays (call_kind call) now)
    (λ begun. DoesOnDisk old.lower call begun (Ok end) new.lower) call now (Ok end) old new
    → end ≡ later_by now (delay_of delays (call_kind call))
ends_later old new delays call now end is =
    ends_at_once old.lower new.lower call _ end
    (is.delays (delay_of delays (call_kind call)) refl).0
