use Rattle.std.proofs.Common.{List, sym, ap, ◌∙◌}
use Rattle.std.specs.Prelude.{slice_get}
use Rattle.bio.specs.declared.event.CoreEvent.{CoreEvent}
use Rattle.lock_state.specs.Comparison.{stop_cause_at}
use Rattle.lock_state.specs.History.{Queue, stop_of}
use Rattle.lock_state.proofs.RecordingEnd.{stop_of-unended, stop_of-ended}
use Rattle.lock_state.proofs.queue.QueueState.recorded_stop.Goals as goal

pub returns-in-None : goal.returns-in-None
returns-in-None g c =
    sym (rw (← c.self.view_is) (stop_of-unended c.self.inside.core.state.events (sym
    c.self.invariant.0.ended_at ∙ c.in-None.is)))

pub returns-in-Some : goal.returns-in-Some
returns-in-Some g c =
    let events = c.self.inside.core.state.events in
    c.stop_at.ensures ∙ ap (λ (es : List CoreEvent). stop_cause_at
    (slice_get es c.in-Some.place)) c.events.ensures.events
    ∙ stop_of-ended events c.in-Some.place c.events.ensures.sound.well_formed
    (sym c.self.invariant.0.ended_at ∙ c.in-Some.is)
    ∙ ap (λ (q : Queue). stop_of q.core.events) c.self.view_is
