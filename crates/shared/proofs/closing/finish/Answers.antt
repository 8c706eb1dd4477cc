use Rattle.std.proofs.Common.{◌∙◌, ap}
use Rattle.bio.specs.Events.{has_no_close}
use Rattle.lock_state.specs.History.{Queue}
use Rattle.lock_state.specs.PlacedItems.{Log}
use Rattle.shared.proofs.ClosedLog.{agrees_finally, leaves_finally, stop_finally}
use Rattle.shared.proofs.closing.finish.Goals as goal

pub returns-clause-agrees : goal.returns-clause-agrees
returns-clause-agrees g c seats receipts before =
    let a = c.take_apart.ensures in
    agrees_finally _ _ _ _ _ _ _ _ _ _ _ _ seats receipts c.drain.ensures.goes
    c.drain.ensures.finished
    (record {
      same_queue = a.queue;
      same_placed = a.placed.0;
      same_settled = a.placed.1;
      same_end = a.store_end;
      same_calls = a.calls;
    }) before

pub returns-clause-parts : goal.returns-clause-parts
returns-clause-parts g c has =
    let a = c.take_apart.ensures in
    let ended = c.drain.ensures.ended in
    a.parts
    (ap (λ (q : Queue). has_no_close q.core.events) a.queue
    ∙ ap has_no_close c.drain.ensures.goes.events ∙ c.requires.closed)
    (stop_finally c.args.queue.stop c.args.log.end c.drain.new.queue.stop c.drain.new.log.end _ _
    (ap (λ (q : Queue). q.stop) a.queue) a.store_end c.drain.ensures.cause
    (λ is. (
      ap (λ (q : Queue). q.stop) (ended is).0,
      ap (λ (log : Log). log.end) (ended is).1,
    ))
    has)

pub returns-clause-crash : goal.returns-clause-crash
returns-clause-crash g c has lies left crash =
    let a = c.take_apart.ensures in
    let parts = returns-clause-parts g c has in
    leaves_finally _ _ _ _ _ _ _ _ _ _ _ _ _ left c.drain.ensures.finished
    (record {
      same_queue = a.queue;
      same_placed = a.placed.0;
      same_settled = a.placed.1;
      same_end = a.store_end;
      same_calls = a.calls;
    }) parts.end (parts.crash lies left crash)

pub returns-clause-stay : goal.returns-clause-stay
returns-clause-stay g c =
    rw c.take_apart.ensures.placed.0 c.drain.ensures.goes.stay
