use Rattle.std.proofs.Common.{◌∙◌, ap, subst, ℕ, List, Option}
use Rattle.std.specs.Prelude.{MatchBool}
use Rattle.refusals.specs.declared.run_error.End.{End}
use Rattle.lock_state.specs.declared.note.UnrecordedCall.{UnrecordedCall}
use Rattle.lock_state.specs.Comparison.{Each, Fails}
use Rattle.lock_state.specs.History.{Found, Part, Queue, end_index}
use Rattle.lock_state.proofs.queue.QueueState.has_unrecorded.Goals as goal

pub returns : goal.returns
returns g c =
    let ended = c.self.invariant.0.ended_at ∙ ap (λ (q : Queue). end_index q.core.events)
    c.self.view_is in
    let unrecorded = c.as_slice.ensures.value ∙ ap (λ (p : Part). p.unrecorded) c.seat.view_is in
    subst (λ (x : Option ℕ × Option End × List UnrecordedCall). MatchBool c.are_unrecorded.result
    (Each (Found x.0 x.1) x.2) (Fails (Found x.0 x.1) x.2))
    (λ i. (ended i, c.recorded_stop.ensures i, unrecorded i)) c.are_unrecorded.ensures
