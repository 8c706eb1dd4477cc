-- The disks for the logs of these tests.
use Rattle.std.specs.Prelude.{ℕ, false}
use Rattle.lock_state.specs.PlacedItems.{Ground}

-- a disk of `sectors` sectors, without layers
abbrev pub disk_ground : ℕ → Ground
disk_ground sectors =
    record {
      size = sectors;
      origin = record { sector = 0; disk = sectors };
      can_lie = false;
      lies = 0;
      faults = 0;
    }
