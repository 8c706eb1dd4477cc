-- Worked answers: some match what the call adds, and some don't.
use Rattle.std.proofs.Common.{Global, Option, arith, None, Vec, Ok, Some, inl, inr, length, refl}
use Rattle.std.proofs.Common.{sym, take, true≢false, ◌≡◌, ◌<◌, ℕ, zero, suc, true, false}
use Rattle.std.proofs.Common.{List, [], ap, ◌∷◌}
use Rattle.std.proofs.Math.Nat.{suc-ne-zero}
use Rattle.std.specs.Prelude.{Result, slice_get}
use Rattle.refusals.specs.declared.run_error.End.{End}
use Rattle.refusals.specs.declared.run_error.End.TheVariants.{Device, Full}
use Rattle.bio.specs.Content.{Content}
use Rattle.bio.specs.declared.event.CoreEvent.TheVariants as events
use Rattle.bio.specs.declared.outcome.DevError.{DevError}
use Rattle.bio.specs.declared.outcome.DevError.TheVariants.{Io}
use Rattle.bio.specs.declared.outcome.Status.{Status}
use Rattle.bio.specs.declared.request.Bio.{Bio}
use Rattle.bio.specs.declared.request.Bio.TheVariants as bios
use Rattle.log_format.specs.Entries.{end_mark, entry_of}
use Rattle.log_format.specs.LogOf.{IsLogOf}
use Rattle.pending.specs.CompletionList.{entries_of}
use Rattle.pending.specs.CoreState.{CoreState, items_of, next_item, sized_state}
use Rattle.board.specs.Published.{MayPublish, opening}
use Rattle.lock_state.specs.Comparison.{LeftUnplaced, IsTakenPrefix, Fails, IsServed, NamesItem}
use Rattle.lock_state.specs.Comparison.{SeatMatches, Each, Receipt}
use Rattle.lock_state.specs.declared.note.Done.{Done as DoneCall}
use Rattle.lock_state.specs.declared.note.LogItem.{LogItem}
use Rattle.lock_state.specs.History.{Part, Queue, part_with_request, part_after_call, part_with_end, queue_after_stop, new_part, part_with_event}
use Rattle.lock_state.specs.History.{queue_after_take, queue_after_close, item_of_listed, part_with_unrecorded, queue_with_event}
use Rattle.lock_state.specs.PlacedItems.{Log}
use Rattle.shared.specs.SeatCalls.{Answered, Enters, FindsEntry, FindsNext, MarkEnters, AddsMark, TakesItems}
use Rattle.shared.specs.Close.{Agrees, AreNewReaders, AreNewSeats, Differs, IfBusy, IsReceipt}
use Rattle.shared.specs.Close.{LeavesLog}
use Rattle.shared.specs.declared.answer.Answer.TheVariants.{Done, Done as done, Failed, Read}
use Rattle.shared.specs.declared.answer.MarkAnswer.TheVariants as marks
use Rattle.shared.specs.declared.answer.MarkRefusal.TheVariants.{AfterClose, BadText}
use Rattle.shared.specs.declared.calls.Entered.TheVariants.{Recorded, Unrecorded}
use Rattle.shared.specs.declared.closing.Unclosed.TheVariants.{Busy}
use Rattle.shared.specs.declared.marks.EnteredMark.TheVariants as entered
use Rattle.shared.specs.declared.writing.Next.TheVariants.{Finished, NoRoom, Stopped}
use Rattle.shared.specs.Published.{ArePublished, IsCurrent, IsLatest, IsOfPrefix, KeepsCauses, PublishesNext}
use Rattle.shared.specs.Published.{StatusHasCause}

abbrev plain : Bio
plain = bios.Write 1 [] false false false

abbrev fua : Bio
fua = bios.Write 1 [] false true false

-- a seat whose first request was recorded, and ended as the device's call for it did
abbrev after : Bio → Result (Unit {0}) DevError → Part
after bio made = part_with_end (part_after_call (part_with_request (new_part 0) 0 bio) made) 1 0

-- a plain write that ended well is answered so
plain_done : Answered (new_part 0) plain Done (after plain (Ok tt))
plain_done = (refl, inl (refl, (0, (1, refl))))

-- but a write with FUA isn't
fua_not_done : Answered (new_part 0) fua Done (after fua (Ok tt)) → ⊥
fua_not_done answered = grind arith

-- nor is one for which the device wasn't called
uncalled_not_done : Answered (new_part 0) plain Done (part_with_end (part_with_request (new_part 0) 0 plain) 1 0) → ⊥
uncalled_not_done answered = grind arith

-- and one that the device did after a stop isn't told as failed
done_not_failed : Answered (new_part 0) fua (Failed Io)
    (part_after_call (part_with_unrecorded (new_part 0) 0 (Some Full)) (Ok tt)) → ⊥
done_not_failed answered = grind arith

-- a mark is answered so where it stands in the list
mark_logged : AddsMark (new_part 0) (1 ∷ []) (marks.Logged (record { id = 3; number = 0; reading = 0 }))
    (part_with_event (new_part 0) 3 (events.Mark (1 ∷ [])))
mark_logged = refl

-- and not where its seat's list didn't grow
mark_missing : AddsMark (new_part 0) (1 ∷ []) (marks.Logged (record { id = 3; number = 0; reading = 0 }))
    (new_part 0) → ⊥
mark_missing answered = grind arith

-- and one that isn't noted isn't told as one after the close
close_unnoted : AddsMark (new_part 0) (1 ∷ []) (marks.Refused AfterClose) (new_part 0) → ⊥
close_unnoted answered = grind arith

-- a queue of no events, one whose logging ended, and one that was closed
abbrev fresh : Queue
fresh = record { core = sized_state 512; by = []; stop = None }

abbrev stopped : Queue
stopped = queue_after_stop fresh Full

-- the first request is the first event
first_enters : Enters fresh 0 plain (Recorded 0) (queue_with_event fresh (Some 0) (events.Submit plain))
first_enters = (refl, (refl, refl))

-- and isn't passed while recording goes on
none_passed : Enters fresh 0 plain (Unrecorded None) fresh → ⊥
none_passed enters = true≢false enters.0

-- a mark behind a stop is told its cause, and no other
stopped_mark : MarkEnters stopped 0 (1 ∷ []) (entered.Stopped Full) stopped
stopped_mark = (refl, (refl, refl))

other_mark : MarkEnters stopped 0 (1 ∷ []) (entered.Stopped Device) stopped → ⊥
other_mark enters = let cause = enters.1.0 in absurd (cc cause)

-- a queue of one mark, which the writer takes
abbrev marked : Queue
marked = queue_with_event fresh (Some 0) (events.Mark (1 ∷ []))

mark_taken : TakesItems marked (item_of_listed (next_item marked.core) ∷ []) (queue_after_take marked)
mark_taken = (refl, (refl, refl))

-- and which the queue then no longer has
mark_left : TakesItems marked (item_of_listed (next_item marked.core) ∷ []) marked → ⊥
mark_left takes = suc-ne-zero 0 (sym (ap (λ (queue : Queue). queue.core.taken) takes.1.1))

stop_next : FindsNext stopped (Some Stopped) stopped None []
stop_next = (refl, (refl, (refl, (refl, refl))))

no_stop : FindsNext fresh (Some Stopped) fresh None [] → ⊥
no_stop finds = true≢false (sym finds.0)

no_finish : FindsNext fresh (Some Finished) fresh None [] → ⊥
no_finish finds = true≢false finds.0

-- another item than the next one isn't taken, and none where there is no next one
other_taken : TakesItems marked (None ∷ []) (queue_after_take marked) → ⊥
other_taken takes = let hand = takes.1.0 in absurd (cc hand)

none_taken : TakesItems fresh (None ∷ []) (queue_after_take fresh) → ⊥
none_taken takes = true≢false (sym takes.0)

stop_leaves : FindsNext stopped (Some Stopped) stopped None (None ∷ []) → ⊥
stop_leaves finds = let later = finds.1.1.1.1 in absurd (cc later)

closed_waits : FindsNext (queue_after_close fresh) None (queue_after_close fresh) None [] → ⊥
closed_waits finds = true≢false (sym finds.0)

stop_waits : FindsNext stopped None stopped None [] → ⊥
stop_waits finds = let on = finds.1.0 in absurd (cc on)

room_taken : FindsNext marked (Some NoRoom) (queue_after_take marked) None [] → ⊥
room_taken finds = suc-ne-zero 0 (ap (λ (queue : Queue). queue.core.taken) finds.0)

-- the item of a flush, whose entry takes one sector of the log
abbrev flushed : ℕ → LogItem
flushed id = record { id = id; entry = entry_of 512 bios.Flush }

abbrev two : List LogItem
two = flushed 0 ∷ flushed 1 ∷ []

-- the status of an empty log is that of a prefix of each log
none_published : IsOfPrefix 512 two opening
none_published = record { within = omega arith; sector = refl }

-- so is that of one item of two, which lies in sector 1
one_published : IsOfPrefix 512 two (record { entries = 1; sector = 1; end = None })
one_published = record { within = omega arith; sector = refl }

-- nor is one with the sector of another prefix
other_published : IsOfPrefix 512 two (record { entries = 1; sector = 2; end = None }) → ⊥
other_published is = grind arith

-- a log of two items, of which both are settled, and a receipt for each
abbrev both_placed : Log
both_placed = record { placed = two; settled = 2; end = None; released = None; room = 0 }

abbrev told_of : ℕ → Receipt
told_of n = record { id = n; number = n; reading = 0 }

-- the second one is found there, and so nobody waits for it
second_found : FindsEntry both_placed 1 0 (Some (Ok (told_of 1)))
second_found = (
  refl,
  (
    omega arith,
    record {
      within = omega arith;
      item = flushed 1;
      there = refl;
      named = refl;
    },
  ),
)

-- a third one isn't; whoever waits for it is told the first cause, and no other
abbrev both_ended : Log
both_ended = record both_placed { end = Some Full; released = Some Device }

-- and doesn't wait on, though who waits for the second one has its receipt
third_awaited : FindsEntry both_ended 2 0 None → ⊥
third_awaited finds = let cause = finds.1 in absurd (cc cause)

-- a published end is why the store ended, or else why those who waited were let go; there is no
-- other
abbrev full : Status
full = record { entries = 2; sector = 2; end = Some Full }

stop_told : StatusHasCause None (Some Full) full
stop_told cause is other = is

none_told : StatusHasCause None None full → ⊥
none_told tells = let is = tells Full refl (λ none. absurd (cc none)) in absurd (cc is)

-- a cause that a log's lock knew isn't forgotten
end_forgotten : KeepsCauses both_ended (record both_ended { end = None }) → ⊥
end_forgotten keeps = let is = keeps.end Full refl in absurd (cc is)

-- the status of both items, which may be published on the board of an empty log
abbrev both : Status
both = record { entries = 2; sector = 2; end = None }

both_may : MayPublish (opening ∷ []) both
both_may = grind arith

-- so it is published, and then it is the last one; and what goes back isn't
both_published : PublishesNext (opening ∷ []) both (opening ∷ both ∷ [])
both_published = inl (both_may, refl)

both_dropped : PublishesNext (opening ∷ []) both (opening ∷ []) → ⊥
both_dropped (inl (may, published)) = grind arith
both_dropped (inr (refused, same)) = refused both_may

both_unpublished : IsLatest 512 both_placed (opening ∷ []) → ⊥
both_unpublished latest = grind (arith, both_may)

published_back : (new : List Status) → PublishesNext (both ∷ []) opening new → new ≡ both ∷ []
published_back new (inl (may, published)) = grind arith
published_back new (inr (refused, same)) = same

-- What was published of it is up to date, where both receipts were told.
two_current : IsCurrent 512 two 2 None None (told_of 0 ∷ told_of 1 ∷ [])
    (opening ∷ record { entries = 2; sector = 2; end = None } ∷ [])
two_current = record {
  within = omega arith;
  counted = counted;
  ends = ends;
  told = told;
  latest = λ may. refl;
}
  where
    counted : Each (IsOfPrefix 512 two)
        (opening ∷ record { entries = 2; sector = 2; end = None } ∷ [])
    counted zero status there = grind (arith, none_published)
    counted (suc zero) status there = grind arith
    counted (suc (suc k)) status there = absurd (cc there)

    ends : Each (StatusHasCause None None)
        (opening ∷ record { entries = 2; sector = 2; end = None } ∷ [])
    ends zero status there cause is other = grind arith
    ends (suc zero) status there cause is other = grind arith
    ends (suc (suc k)) status there cause is other = absurd (cc there)

    told : Each (λ (receipt : Receipt). receipt.number < 2) (told_of 0 ∷ told_of 1 ∷ [])
    told zero receipt there = grind arith
    told (suc zero) receipt there = grind arith
    told (suc (suc k)) receipt there = absurd (cc there)

-- For each clause of what a call is answered, and of what a close compares and returns: a change
-- that the clause refuses.

-- a read isn't just done
read_done : (new : Part) → Answered (new_part 0) (bios.Read 0 1) done new → ⊥
read_done new answered = true≢false (sym answered.0)

-- it has the bytes of its sectors, and notes nothing; and a write reads none
read_short : (bytes : Vec ℕ Global)
    → Answered (new_part 0) (bios.Read 0 1) (Read bytes) (new_part 0) → length bytes.items ≡ 0 → ⊥
read_short bytes answered none = let long = answered.1 in absurd (omega arith)

good_text : (old new : Part) → AddsMark old (1 ∷ []) (marks.Refused BadText) new → ⊥
good_text old new answered = answered

-- a seat's list, a receipt or a call that isn't the history's
-- own, placed items that weren't taken, and a log that is short
module _ (queue : Queue) (placed : List LogItem) (settled : ℕ) (end : Option End) (calls : List DoneCall)
    (seats : List Part) (receipts : List Receipt)
    (agrees : Agrees queue placed settled end calls seats receipts)
  where
    other_seat : Fails (SeatMatches queue end) seats → ⊥
    other_seat (k, seat, there, fails) = fails (agrees.own k seat there)

    other_receipt : Fails (NamesItem placed settled) receipts → ⊥
    other_receipt (k, receipt, there, fails) = fails (agrees.named k receipt there)

    other_items : (IsTakenPrefix queue.core placed → ⊥) → ⊥
    other_items fails = fails agrees.begins

    short_log : LeftUnplaced queue placed end → ⊥
    short_log short = agrees.whole short

    other_calls : Fails (IsServed queue.core.events calls) queue.core.events → ⊥
    other_calls (k, event, there, fails) = fails (agrees.served k event there)

    -- where one of these differs, not all agrees
    differs : Differs queue placed settled end calls seats receipts → ⊥
    differs (inl seat) = other_seat seat
    differs (inr (inl receipt)) = other_receipt receipt
    differs (inr (inr (inl items))) = other_items items
    differs (inr (inr (inr (inl short)))) = short_log short
    differs (inr (inr (inr (inr calls)))) = other_calls calls

-- a receipt of an entry that isn't settled, and of another entry
receipt_unsettled : IsReceipt (sized_state 512) 0 (record { id = 0; number = 0; reading = 0 }) → ⊥
receipt_unsettled is = let within = is.within in absurd (omega arith)

receipt_entry : (core : CoreState) (settled : ℕ) (receipt : Receipt)
    → (is : IsReceipt core settled receipt)
    → slice_get (items_of core) receipt.number ≡ Some (receipt.id, is.entry)
receipt_entry core settled receipt is = is.item

-- a log that a close leaves has what is settled, and all of
-- the list where logging went on to the end
log_lost : (bytes size few : ℕ) (core : CoreState) (end : Option End) (left : Content)
    → (is : LeavesLog bytes size few core end left) → is.count < few → ⊥
log_lost bytes size few core end left is fewer = let least = is.least in absurd (omega arith)

log_entries : (bytes size few : ℕ) (core : CoreState) (end : Option End) (left : Content)
    → (is : LeavesLog bytes size few core end left)
    → IsLogOf size left bytes (take is.count (entries_of (items_of core)))
log_entries bytes size few core end left is = is.log

-- what is said of what is handed back
busy_back : (A B : Type 0) (back : A) (P : A → Type 0) → IfBusy {A = A} {B = B} (Busy back) P
    → P back
busy_back A B back P is = is

-- a status of an entry that isn't placed, and one that goes back
published_more : ArePublished 512 [] (record { entries = 1; sector = 1; end = None } ∷ []) → ⊥
published_more published =
    let one = published.each 0 _ refl in
    let within = one.within in
    absurd (omega arith)

abbrev ending : LogItem
ending = record { id = 0; entry = end_mark }

-- where the writer's entry wasn't published
abbrev one_fits : MayPublish (opening ∷ []) (record { entries = 1; sector = 1; end = None })
one_fits = record {
  fit = record { entries = omega arith; sector = omega arith };
  follows = record { entries = omega arith; end = λ cause is. absurd (cc is) };
}

current_unpublished : IsCurrent 512 (ending ∷ []) 1 None None [] (opening ∷ []) → ⊥
current_unpublished current = grind arith

-- a recorder that lacks a seat, and one of which a seat has had a call
seat_missing : AreNewSeats 1 [] → ⊥
seat_missing seats = let count = seats.count in absurd (omega arith)

reader_blind : AreNewReaders 1 ([] ∷ []) → ⊥
reader_blind readers = let same = readers.each.0 in absurd (cc)
