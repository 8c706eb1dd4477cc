use Rattle.lock_state.specs.PlacedItems.{ground_of}
use Rattle.sector_disk.specs.DiskView.{shown_of}
use Rattle.transcripts.proofs.series.most_seats.check_recorder.Given as goal

abbrev pub ghosts-start_most-R-Ledger : goal.ghosts-start_most-R-Ledger
ghosts-start_most-R-Ledger a = record { name = a.unnamed.ledger.name; parts = a.unnamed.ledger.parts }

abbrev pub ghosts-start_most-R-Whose : goal.ghosts-start_most-R-Whose
ghosts-start_most-R-Whose a = record { table = a.unnamed.table }

abbrev pub ghosts-start_most-R-Run : goal.ghosts-start_most-R-Run
ghosts-start_most-R-Run a = record {
  sectors = 64;
  sector_bytes = 512;
  log = ground_of (shown_of a.log);
  stops = a.unnamed.stops;
  ends = a.unnamed.ends;
  reads = a.unnamed.reads;
  begins = λ reading. Unit {0};
}

abbrev pub ghosts-start_most-R-Names : goal.ghosts-start_most-R-Names
ghosts-start_most-R-Names a = record { board = a.unnamed.board }
