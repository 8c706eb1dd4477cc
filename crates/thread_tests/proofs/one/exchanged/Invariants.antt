use Rattle.thread_tests.specs.Disks.{disk_ground}
use Rattle.thread_tests.proofs.one.exchanged.Given as goal

abbrev pub ghosts-foreign_seats-B-Ledger : goal.ghosts-foreign_seats-B-Ledger
ghosts-foreign_seats-B-Ledger g a =
    record { name = a.unnamed.ledger.name; parts = a.unnamed.ledger.parts }

abbrev pub ghosts-foreign_seats-B-Whose : goal.ghosts-foreign_seats-B-Whose
ghosts-foreign_seats-B-Whose g a = record { table = a.unnamed.table }

abbrev pub ghosts-foreign_seats-B-Run : goal.ghosts-foreign_seats-B-Run
ghosts-foreign_seats-B-Run g a = record {
  sectors = 16;
  sector_bytes = 512;
  log = disk_ground 16;
  stops = a.unnamed.stops;
  ends = a.unnamed.ends;
  reads = a.unnamed.reads;
  begins = λ reading. Unit {0};
}

abbrev pub ghosts-foreign_seats-B-Names : goal.ghosts-foreign_seats-B-Names
ghosts-foreign_seats-B-Names g a = record { board = a.unnamed.board }

abbrev pub ghosts-foreign_seats-C-Ledger : goal.ghosts-foreign_seats-C-Ledger
ghosts-foreign_seats-C-Ledger g a =
    record { name = a.other.ledger.name; parts = a.other.ledger.parts }

abbrev pub ghosts-foreign_seats-C-Whose : goal.ghosts-foreign_seats-C-Whose
ghosts-foreign_seats-C-Whose g a = record { table = a.other.table }

abbrev pub ghosts-foreign_seats-C-Run : goal.ghosts-foreign_seats-C-Run
ghosts-foreign_seats-C-Run g a = record {
  sectors = 16;
  sector_bytes = 512;
  log = disk_ground 16;
  stops = a.other.stops;
  ends = a.other.ends;
  reads = a.other.reads;
  begins = λ reading. Unit {0};
}

abbrev pub ghosts-foreign_seats-C-Names : goal.ghosts-foreign_seats-C-Names
ghosts-foreign_seats-C-Names g a = record { board = a.other.board }
