use Rattle.bio.specs.Requests.{bytes_of}
use Rattle.lock_state.specs.PlacedItems.{ground_of}
use Rattle.log_store.specs.Calls.{store_of}
use Rattle.thread_tests.proofs.recording.two_seats.Given as goal

abbrev pub ghosts-two_seats_record-R-Ledger : goal.ghosts-two_seats_record-R-Ledger
ghosts-two_seats_record-R-Ledger g a = record { name = a.blank.name; parts = a.blank.parts }

abbrev pub ghosts-two_seats_record-R-Whose : goal.ghosts-two_seats_record-R-Whose
ghosts-two_seats_record-R-Whose g a = record { table = a.fresh.0 }

abbrev pub ghosts-two_seats_record-R-Run : goal.ghosts-two_seats_record-R-Run
ghosts-two_seats_record-R-Run g a =
    record {
      sectors = 64;
      sector_bytes = bytes_of a.size;
      log = ground_of (store_of a.store).device;
      stops = a.fresh.1;
      ends = a.fresh.2;
      reads = a.fresh.3;
      begins = λ reading. Unit {0};
    }
