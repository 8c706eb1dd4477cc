use Rattle.thread_tests.specs.Disks.{disk_ground}
use Rattle.thread_tests.proofs.one.answers.Given as goal

abbrev pub ghosts-play-R-Ledger : goal.ghosts-play-R-Ledger
ghosts-play-R-Ledger g a =
    record { name = a.unnamed.ledger.name; parts = a.unnamed.ledger.parts }

abbrev pub ghosts-play-R-Whose : goal.ghosts-play-R-Whose
ghosts-play-R-Whose g a = record { table = a.unnamed.table }

abbrev pub ghosts-play-R-Run : goal.ghosts-play-R-Run
ghosts-play-R-Run g a = record {
  sectors = 16;
  sector_bytes = 512;
  log = disk_ground 16;
  stops = a.unnamed.stops;
  ends = a.unnamed.ends;
  reads = a.unnamed.reads;
  begins = λ reading. Unit {0};
}

abbrev pub ghosts-play-R-Names : goal.ghosts-play-R-Names
ghosts-play-R-Names g a = record { board = a.unnamed.board }
