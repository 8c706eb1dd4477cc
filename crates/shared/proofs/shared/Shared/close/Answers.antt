use Rattle.std.proofs.Common.{◌≡◌, ℕ, ◌+◌, List, Option, length, ◌∙◌, ap, refl, subst, sym}
use Rattle.refusals.specs.declared.run_error.End.{End}
use Rattle.bio.specs.Events.{has_no_close}
use Rattle.lock_state.specs.Comparison.{Each, LegalHistory}
use Rattle.lock_state.specs.FirstStop.{HasStopCause}
use Rattle.lock_state.specs.History.{Queue, seat_count}
use Rattle.lock_state.specs.PlacedItems.{Log, with_room}
use Rattle.lock_state.specs.declared.note.LogItem.{LogItem}
use Rattle.shared.proofs.ClosedLog.{agrees_of, differs_apart, differs_of, receipts_there, stop_same}
use Rattle.shared.proofs.PlainCrash.{plain_at}
use Rattle.shared.proofs.PublishedStatus.{current_of, ended_of, found_of, none_of_both, published_stays}
use Rattle.shared.proofs.PublishedStatus.{told_within}
use Rattle.shared.specs.Close.{Agrees, queue_in}
use Rattle.shared.specs.Published.{ArePublished, IsCurrent, IsLatest, IsOfPrefix, StatusHasCause}
use Rattle.shared.specs.Published.{end_before}
use Rattle.shared.proofs.shared.Shared.close.Goals as goal

pub returns-then-agrees-clause-closed : goal.returns-then-agrees-clause-closed
returns-then-agrees-clause-closed g c =
    let finished = c.finish-closed.ensures in
    let closed = c.finish-closed.result in
    let view = g.L.BlockDev.shown closed.log in
    let same = c.confirm_causes.ensures.same in
    let has : HasStopCause c.confirm_causes.new.queue.stop c.confirm_causes.new.self.end =
    stop_same _ _ _ _ (rw same.1) (rw same.0) c.confirm_causes.ensures.stopped in
    let parts = finished.parts has in
    let seats = c.as_slice.ensures.value ∙ c.audit.ensures.same.1 in
    let agrees : Agrees (queue_in closed) closed.placed.items closed.settled closed.store_end
    closed.done.items c.args.seats.items c.args.receipts.items =
    finished.agrees _ _
    (agrees_of _ _ _ _ _ _ _ _ _ seats c.as_slice-2.ensures.value c.if-agrees.ensures.agrees) in
    let legal : LegalHistory g.R.Run.sector_bytes g.R.Run.sectors closed.core.state.events
    closed.by.items c.args.seats.items =
    rw finished.same.0 (rw finished.same.1 (rw (← seats) (c.if-agrees.ensures.legal refl))) in
    let plain = plain_at c.placed_logs_are_plain.ensures g.R.Run.sector_bytes g.R.Run.sectors in
    record {
      parts = parts;
      legal = legal;
      counts = λ all some.
          ap seat_count (finished.same.1
          ∙ ap (λ (queue : Queue). queue.by) (same.1 ∙ c.audit.ensures.same.0))
          ∙ c.audit.ensures.counted all some;
      agrees = agrees;
      receives = receipts_there _ _ _ _ _ _ _ agrees;
      log = λ lies.
          finished.crash has lies _ (g.met.L.BlockDev.lawful closed.log).current;
      crash = finished.crash has;
      any_moment = λ lies.
          let since = parts.any_moment lies in record {
            begun = since.reading;
            one = since.one;
            past = since.past;
            leaves = λ left may.
                plain view.size 0 closed.core.state closed.placed.items left
                parts.sector_size legal.lawful agrees.begins (since.leaves left may);
          };
      told = λ lies k receipt there.
          let kept = parts.told lies k receipt there in record {
            past = kept.past;
            leaves = λ left may.
                plain view.size (receipt.number + 1) closed.core.state closed.placed.items left
                parts.sector_size legal.lawful agrees.begins (kept.leaves left may);
          };
    }

pub returns-then-agrees-clause-published : goal.returns-then-agrees-clause-published
returns-then-agrees-clause-published g c =
    let finished = c.finish-closed.ensures in
    let same = c.confirm_causes.ensures.same in
    let before = c.released-released.ensures ∙ ap (λ (log : Log). log.released) same.0 in record {
      published =
          published_stays _ _ _ _ finished.stay (rw same.0 c.in-Ok.ensures.published);
      ends = λ k status there cause is other.
          before
          ∙ c.in-Ok.ensures.ends k status there cause is
          (λ end. other (finished.end_stays cause (ap (λ (log : Log). log.end) same.0 ∙ end)));
      released = λ cause is.
          finished.stop_stays cause
          (ap (λ (q : Queue). q.stop) same.1
          ∙ c.confirm_causes.ensures.released cause (sym before ∙ is));
    }

pub returns-clause-foreign : goal.returns-clause-foreign
returns-clause-foreign g c =
    let a = c.take_apart.ensures in
    let same = c.confirm_causes.ensures.same in
    let queue = a.queue ∙ same.1 in
    let seats = c.as_slice.ensures.value ∙ c.audit.ensures.same.1 in record {
      parts =
          a.parts
          (ap (λ (q : Queue). has_no_close q.core.events) (queue ∙ c.audit.ensures.same.0)
          ∙ c.in-Ok.ensures.closed.0)
          (stop_same _ _ _ _ (ap (λ (q : Queue). q.stop) queue) (a.store_end ∙ rw same.0)
          c.confirm_causes.ensures.stopped);
      counts = λ all some.
          ap (λ (q : Queue). seat_count q.by) (queue ∙ c.audit.ensures.same.0)
          ∙ c.audit.ensures.counted all some;
      differs =
          differs_apart _ c.confirm_causes.new.self _ _ _ _ _ _ _ _ _ _
          (record {
            same_queue = a.queue;
            same_placed = a.placed.0;
            same_settled = a.placed.1;
            same_end = a.store_end;
            same_calls = a.calls;
          })
          (differs_of _ _ _ _ _ _ _ _ _ seats c.as_slice-2.ensures.value
          c.if-agrees.ensures.agrees);
    }

pub returns-clause-foreign_published : goal.returns-clause-foreign_published
returns-clause-foreign_published g c =
    let a = c.take_apart.ensures in
    let same = c.confirm_causes.ensures.same in
    let before = c.released-released.ensures ∙ ap (λ (log : Log). log.released) same.0 in record {
      published =
          subst (λ (items : List LogItem). ArePublished g.R.Run.sector_bytes items c.in-Ok.held.published)
          (sym (a.placed.0 ∙ rw same.0)) c.in-Ok.ensures.published;
      ends = λ k status there cause is other.
          before
          ∙ c.in-Ok.ensures.ends k status there cause is
          (λ end. other (a.store_end ∙ ap (λ (log : Log). log.end) same.0 ∙ end));
      released = λ cause is.
          ap (λ (q : Queue). q.stop) (a.queue ∙ same.1)
          ∙ c.confirm_causes.ensures.released cause (sym before ∙ is);
    }

pub returns-then-agrees-clause-drained : goal.returns-then-agrees-clause-drained
returns-then-agrees-clause-drained g c none =
    let on =
    none_of_both c.confirm_causes.new.queue.stop c.confirm_causes.new.self.end
    _ (found_of _ _ _ _ _ c.first_of-found.ensures c.stop_cause.ensures c.end.ensures) none in
    c.finish-closed.ensures.drained on.0 on.1

pub returns-then-agrees-clause-full : goal.returns-then-agrees-clause-full
returns-then-agrees-clause-full g c none =
    let on =
    none_of_both c.confirm_causes.new.queue.stop c.confirm_causes.new.self.end
    _ (found_of _ _ _ _ _ c.first_of-found.ensures c.stop_cause.ensures c.end.ensures) none in
    c.finish-closed.ensures.full on.0 on.1

pub returns-then-agrees-clause-ended : goal.returns-then-agrees-clause-ended
returns-then-agrees-clause-ended g c =
    ended_of _ _ _ _ _ _ _
    (found_of _ _ _ _ _ c.first_of-found.ensures c.stop_cause.ensures c.end.ensures)
    c.placed.ensures.items (returns-then-agrees-clause-closed g c).parts.end
    c.finish-closed.ensures.ended

pub returns-then-agrees-clause-current : goal.returns-then-agrees-clause-current
returns-then-agrees-clause-current g c =
    let before =
    agrees_of _ _ _ _ _ _ _ _ _
    (c.as_slice.ensures.value
    ∙ c.audit.ensures.same.1) c.as_slice-2.ensures.value c.if-agrees.ensures.agrees in
    let bytes = g.R.Run.sector_bytes in
    let log = c.confirm_causes.new.self in
    let closed = c.finish-closed.result in
    let same : c.in-Ok.held.log ≡ log = sym c.confirm_causes.ensures.same.0 in
    let current =
    current_of bytes log closed.placed.items c.confirm_causes.new.queue.stop
    c.first_of-found.result closed.store_end
    c.args.receipts.items c.in-Ok.held.published c.finish-closed.ensures.stay
    (subst (λ (l : Log). Each (IsOfPrefix bytes l.placed) c.in-Ok.held.published) same
    c.in-Ok.ensures.published.each)
    (subst (λ (l : Log). Each (StatusHasCause l.end l.released) c.in-Ok.held.published) same
    c.in-Ok.ensures.ends)
    (told_within _ _ _ before.named)
    (subst (λ (l : Log). IsLatest bytes l c.in-Ok.held.published) same c.in-Ok.ensures.latest)
    (found_of _ _ _ _ _ c.first_of-found.ensures c.stop_cause.ensures c.end.ensures)
    (λ ended. (c.finish-closed.ensures.ended ended).1) in
    subst (λ (x : ℕ × Option End). IsCurrent bytes closed.placed.items x.0
    (end_before c.first_of-found.result closed.store_end) x.1 c.args.receipts.items
    c.in-Ok.held.published)
    (λ i. (sym (ap length c.placed.ensures.items) i, sym c.released-released.ensures i)) current

pub returns-clause-foreign_latest : goal.returns-clause-foreign_latest
returns-clause-foreign_latest g c =
    let a = c.take_apart.ensures in
    subst (λ (log : Log). IsLatest g.R.Run.sector_bytes log c.in-Ok.held.published)
    (ap (λ (log : Log). with_room log 0) (sym c.confirm_causes.ensures.same.0) ∙ (λ i. record {
      placed = sym a.placed.0 i;
      settled = sym a.placed.1 i;
      end = sym a.store_end i;
      released = sym c.released-released.ensures i;
      room = 0;
    })) c.in-Ok.ensures.latest
