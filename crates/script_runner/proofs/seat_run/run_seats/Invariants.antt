use Rattle.bio.specs.Requests.{bytes_of}
use Rattle.dmlw_script.specs.Plans.{top_of}
use Rattle.layer_table.specs.Layers.{stack_shown}
use Rattle.lock_state.specs.PlacedItems.{ground_of}
use Rattle.script_runner.specs.SeatRuns.{begins_of}
use Rattle.script_runner.proofs.seat_run.run_seats.Given as goal

abbrev pub ghosts-run_on-R-Ledger : goal.ghosts-run_on-R-Ledger
ghosts-run_on-R-Ledger g a = record { name = a.unnamed.ledger.name; parts = a.unnamed.ledger.parts }

abbrev pub ghosts-run_on-R-Whose : goal.ghosts-run_on-R-Whose
ghosts-run_on-R-Whose g a = record { table = a.unnamed.table }

abbrev pub ghosts-run_on-R-Run : goal.ghosts-run_on-R-Run
ghosts-run_on-R-Run g a = record {
  sectors = top_of a.script.now.data_disk;
  sector_bytes = bytes_of a.script.now.log_size;
  log = ground_of (stack_shown a.log);
  begins = begins_of (bytes_of a.script.now.log_size) a.log;
  stops = a.unnamed.stops;
  ends = a.unnamed.ends;
  reads = a.unnamed.reads;
}

abbrev pub ghosts-run_on-R-Names : goal.ghosts-run_on-R-Names
ghosts-run_on-R-Names g a = record { board = a.unnamed.board }
