use Rattle.std.proofs.Common.{◌≡◌, ◌≤◌, length}
use Rattle.sector_disk.specs.Candidates.{Cache, unsynced_below}
use Rattle.sector_disk.specs.inside.Storage.{AreChosen, ArePlaced}
use Rattle.sector_disk.proofs.choice.choose.Given as goal

abbrev pub invariant-loop-sector : goal.invariant-loop-sector
invariant-loop-sector l = record {
  length_kept : length l.chosen.items ≡ length l.newest;
  few : l.unsynced ≤ l.sector;
  chosen : (cache : Cache) → ArePlaced l.calls l.synced (length l.newest) l.newest cache
      → (l.unsynced ≡ unsynced_below cache l.sector)
      × AreChosen l.calls cache l.picks l.sector l.chosen.items;
}
