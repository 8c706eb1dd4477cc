use Rattle.lock_state.specs.PlacedItems.{ground_of}
use Rattle.thread_tests.proofs.scenes.stage.Given as goal

abbrev pub ghosts-play-R-Ledger : goal.ghosts-play-R-Ledger
ghosts-play-R-Ledger g a = record { name = a.unnamed.ledger.name; parts = a.unnamed.ledger.parts }

abbrev pub ghosts-play-R-Whose : goal.ghosts-play-R-Whose
ghosts-play-R-Whose g a = record { table = a.unnamed.table }

abbrev pub ghosts-play-R-Run : goal.ghosts-play-R-Run
ghosts-play-R-Run g a = record {
  sectors = (g.D.BlockDev.shown a.device).size;
  sector_bytes = 512;
  log = ground_of (g.L.BlockDev.shown a.log);
  stops = a.unnamed.stops;
  ends = a.unnamed.ends;
  reads = a.unnamed.reads;
  begins = λ reading. Unit {0};
}

abbrev pub ghosts-play-R-Names : goal.ghosts-play-R-Names
ghosts-play-R-Names g a = record { board = a.unnamed.board }
