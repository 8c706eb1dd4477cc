use Rattle.lock_state.specs.Comparison.{EachTo, IsServed}
use Rattle.lock_state.proofs.served.is_served.Given as goal

abbrev pub invariant-loop-event : goal.invariant-loop-event
invariant-loop-event l = EachTo (IsServed l.events l.calls) l.event-index l.events
