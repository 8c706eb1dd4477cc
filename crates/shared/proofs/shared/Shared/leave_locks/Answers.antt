use Rattle.std.proofs.Common.{List, subst, sym}
use Rattle.bio.specs.declared.outcome.Status.{Status}
use Rattle.lock_state.specs.Comparison.{Each}
use Rattle.shared.specs.Published.{ArePublished, IsLatest, StatusHasCause}
use Rattle.shared.proofs.shared.Shared.leave_locks.Goals as goal

pub returns-then-is_ready-clause-published : goal.returns-then-is_ready-clause-published
returns-then-is_ready-clause-published g c =
    let desk = c.into_inner-log.result in
    subst (λ (published : List Status). ArePublished g.R.Run.sector_bytes desk.log.placed published)
    (sym c.new-published.ensures) (record { each = desk.prefixes; rising = desk.rising })

pub returns-then-is_ready-clause-latest : goal.returns-then-is_ready-clause-latest
returns-then-is_ready-clause-latest g c =
    let desk = c.into_inner-log.result in
    subst (λ (published : List Status). IsLatest g.R.Run.sector_bytes desk.log published)
    (sym c.new-published.ensures) desk.latest

pub returns-then-is_ready-clause-ends : goal.returns-then-is_ready-clause-ends
returns-then-is_ready-clause-ends g c =
    let desk = c.into_inner-log.result in
    subst (λ (published : List Status). Each (StatusHasCause desk.log.end desk.log.released) published)
    (sym c.new-published.ensures) desk.ends
