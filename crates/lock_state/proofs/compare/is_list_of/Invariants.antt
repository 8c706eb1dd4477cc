use Rattle.lock_state.proofs.SeatList.{Matched}
use Rattle.lock_state.proofs.compare.is_list_of.Given as goal

abbrev pub invariant-loop-place : goal.invariant-loop-place
invariant-loop-place l = Matched l.events l.by l.seat l.list l.place l.found
