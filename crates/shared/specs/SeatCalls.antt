-- What a call adds to the list of its seat, for each answer.
use Rattle.std.specs.Prelude.{is_some, None, Ok, ◌≡◌, ◌≤◌, Err, IsSome, ◌⊎◌, ℕ, ◌*◌, true}
use Rattle.std.specs.Prelude.{[], ◌∷◌, ◌++◌}
use Rattle.std.specs.Prelude.{false, length, List, Option, Result, Some}
use Rattle.refusals.specs.declared.refusal.Refusal.{Refusal}
use Rattle.refusals.specs.declared.refusal.Refusal.TheVariants as refusals
use Rattle.refusals.specs.declared.run_error.End.{End}
use Rattle.bio.specs.declared.event.CoreEvent.TheVariants.{Mark, Submit}
use Rattle.bio.specs.declared.outcome.DevError.{DevError}
use Rattle.bio.specs.declared.outcome.DevError.TheVariants.{Memory}
use Rattle.bio.specs.declared.request.Bio.{Bio}
use Rattle.bio.specs.Events.{has_no_close, is_recording}
use Rattle.bio.specs.Requests.{has_fua, is_tracked, sector_count}
use Rattle.pending.specs.CoreState.{items_of, next_item}
use Rattle.lock_state.specs.Comparison.{Receipt}
use Rattle.lock_state.specs.declared.note.LogItem.{LogItem as Placing}
use Rattle.lock_state.specs.History.{Part, Queue, queue_after_take, part_with_request, part_after_call, part_with_end, first_cause}
use Rattle.lock_state.specs.History.{item_of_listed, part_with_event, part_with_unrecorded, part_with_unrecorded_request, queue_with_event, stop_of}
use Rattle.lock_state.specs.History.{with_reported_cause}
use Rattle.lock_state.specs.PlacedItems.{IsNoneFrom, IsSettledAt, Log}
use Rattle.shared.specs.declared.answer.Answer.{Answer}
use Rattle.shared.specs.declared.answer.Answer.TheVariants.{Done, Failed, Logged, NotLogged, Read}
use Rattle.shared.specs.declared.answer.Answer.TheVariants.{Refused}
use Rattle.shared.specs.declared.answer.MarkAnswer.{MarkAnswer}
use Rattle.shared.specs.declared.answer.MarkAnswer.TheVariants as marks
use Rattle.shared.specs.declared.answer.MarkRefusal.{MarkRefusal}
use Rattle.shared.specs.declared.answer.MarkRefusal.TheVariants as mark_refusals
use Rattle.shared.specs.declared.calls.Entered.{Entered}
use Rattle.shared.specs.declared.calls.Entered.TheVariants.{Recorded, Unrecorded}
use Rattle.shared.specs.declared.marks.EnteredMark.{EnteredMark}
use Rattle.shared.specs.declared.marks.EnteredMark.TheVariants as entered
use Rattle.shared.specs.declared.writing.Next.{Next}
use Rattle.shared.specs.declared.writing.Next.TheVariants.{Finished, Item, NoRoom, Stopped}

-- The request was recorded as event `id`. Then the device was called for it once, with the result
-- `made`, and the request's end was recorded with this result.
abbrev pub NotesEnd : Part → Bio → ℕ → Result (Unit {0}) DevError → Part → Type 0
NotesEnd old bio id made new = (place : ℕ) × (new ≡ part_with_end (part_after_call (part_with_request old id bio) made) place id)

-- The mark wasn't recorded, since recording had ended. If a Stop ended it, `stop` is the Stop's
-- cause.
abbrev pub IsUnrecorded : Part → Option End → Part → Type 0
IsUnrecorded old stop new = (place : ℕ) × (new ≡ part_with_unrecorded old place stop)

-- The request wasn't recorded, as with a mark. Then the device was called for it once, with the
-- result `made`.
abbrev pub DoneUnrecorded : Part → Option End → Result (Unit {0}) DevError → Part → Type 0
DoneUnrecorded old stop made new = (place : ℕ) × (new ≡ part_after_call (part_with_unrecorded old place stop) made)

-- The request wasn't recorded, and succeeded, and `Done` may be its answer. Either no Stop ended
-- recording, or the request has no FUA.
abbrev pub MayBeDone : Part → Bio → Part → Type 0
MayBeDone old bio new =
    (stop : Option End) × DoneUnrecorded old stop (Ok tt) new × ((stop ≡ None) ⊎ (has_fua bio ≡ false))

-- What a request of a seat adds to the seat's list, for each answer. The answer `Refused` isn't
-- covered: it adds nothing (clause of `submit`).
abbrev pub Answered : Part → Bio → Answer Receipt → Part → Type 0
Answered old bio Done new =
    (is_tracked bio ≡ true)
    × (((has_fua bio ≡ false) × ((id : ℕ) × NotesEnd old bio id (Ok tt) new))
    ⊎ MayBeDone old bio new)
Answered old bio (Read bytes) new =
    (is_tracked bio ≡ false) × (length bytes.items ≡ 512 * sector_count bio) × (new ≡ old)
Answered old bio (Logged receipt) new = (has_fua bio ≡ true) × NotesEnd old bio receipt.id (Ok tt) new
Answered old bio (Failed error) new =
    ((new ≡ old) × ((is_tracked bio ≡ false) ⊎ (error ≡ Memory)))
    ⊎ ((is_tracked bio ≡ true)
    × (((stop : Option End) × DoneUnrecorded old stop (Err error) new)
    ⊎ ((id : ℕ) × NotesEnd old bio id (Err error) new)))
Answered old bio (NotLogged cause) new =
    (has_fua bio ≡ true)
    × ((part : Part) × (new ≡ with_reported_cause part cause)
    × (DoneUnrecorded old (Some cause) (Ok tt) part ⊎ ((id : ℕ) × NotesEnd old bio id (Ok tt) part)))
Answered old bio (Refused bad) new = ⊥

-- What a mark of a seat adds to the seat's list, for each answer. A text with a zero byte isn't
-- covered: it adds nothing (clause of `mark`).
abbrev pub AddsMark : Part → List ℕ → MarkAnswer Receipt → Part → Type 0
AddsMark old text (marks.Logged receipt) new = new ≡ part_with_event old receipt.id (Mark text)
AddsMark old text (marks.NotLogged cause) new =
    (part : Part) × (new ≡ with_reported_cause part cause)
    × (IsUnrecorded old (Some cause) part ⊎ ((id : ℕ) × (part ≡ part_with_event old id (Mark text))))
AddsMark old text (marks.Refused mark_refusals.AfterClose) new = IsUnrecorded old None new
AddsMark old text (marks.Refused mark_refusals.Memory) new = new ≡ old
AddsMark old text (marks.Refused mark_refusals.BadText) new = ⊥

-- The refusal that the caller gets for a mark that isn't recorded.
abbrev pub refusal_of_mark : MarkRefusal → Refusal
refusal_of_mark mark_refusals.BadText = refusals.BadText
refusal_of_mark mark_refusals.Memory = refusals.Memory
refusal_of_mark mark_refusals.AfterClose = refusals.AfterClose

-- What the queue does with the request or mark of a seat: how the seat's part and the queue change.

-- The request is recorded and is under way, or it isn't. The call of the device is due.
abbrev pub EnteredBy : Part → Bio → Entered → Part → Type 0
EnteredBy old bio (Recorded id) new = new ≡ part_with_request old id bio
EnteredBy old bio (Unrecorded stop) new = (place : ℕ) × (new ≡ part_with_unrecorded_request old place stop bio)

-- The mark is recorded, or it isn't.
abbrev pub MarkEnteredBy : Part → List ℕ → EnteredMark → Part → Type 0
MarkEnteredBy old text (entered.Recorded id taken) new = new ≡ part_with_event old id (Mark text)
MarkEnteredBy old text (entered.Stopped cause) new = IsUnrecorded old (Some cause) new
MarkEnteredBy old text entered.Closed new = IsUnrecorded old None new

-- Either the seat's request is the queue's next event. Or recording had ended, and nothing changes;
-- if the history has a Stop, its cause is returned.
abbrev pub Enters : Queue → ℕ → Bio → Entered → Queue → Type 0
Enters old seat bio (Recorded id) new =
    (is_recording old.core.events ≡ true)
    × ((id ≡ length old.core.events) × (new ≡ queue_with_event old (Some seat) (Submit bio)))
Enters old seat bio (Unrecorded stop) new =
    (is_recording old.core.events ≡ false) × ((stop ≡ stop_of old.core.events) × (new ≡ old))

-- Either the seat's mark is the queue's next event, and `taken` entries had been taken before. Or
-- recording had ended by a Stop with this cause, or by a Close, and nothing changes.
abbrev pub MarkEnters : Queue → ℕ → List ℕ → EnteredMark → Queue → Type 0
MarkEnters old seat text (entered.Recorded id taken) new =
    (is_recording old.core.events ≡ true)
    × ((id ≡ length old.core.events)
    × ((taken ≡ old.core.taken) × (new ≡ queue_with_event old (Some seat) (Mark text))))
MarkEnters old seat text (entered.Stopped cause) new =
    (is_recording old.core.events ≡ false)
    × ((stop_of old.core.events ≡ Some cause) × (new ≡ old))
MarkEnters old seat text entered.Closed new =
    (is_recording old.core.events ≡ false)
    × ((stop_of old.core.events ≡ None) × (new ≡ old))

-- What the writer finds in the queue, and what a thread that waits for an entry finds in the log.

-- What the writer finds in the queue, and which items it then has in hand.

-- If the writer took an item, it has an item in hand.
abbrev pub HoldsItem : Next → Option Placing → Type 0
HoldsItem Item hand = IsSome hand
HoldsItem _ hand = Unit {0}

-- From `old` to `new` the writer took these items, each of them the queue's next item.
abbrev pub TakesItems : Queue → List (Option Placing) → Queue → Type 0
TakesItems old [] new = new ≡ old
TakesItems old (hand ∷ later) new =
    (is_some (next_item old.core) ≡ true)
    × ((hand ≡ item_of_listed (next_item old.core)) × TakesItems (queue_after_take old) later new)

-- From `old` to `new` the writer took the items that `after` has after those of `before`.
abbrev pub TakesOnto : Queue → List (Option Placing) → Queue → List (Option Placing) → Type 0
TakesOnto old before new after =
    (taken : List (Option Placing)) × ((after ≡ before ++ taken) × TakesItems old taken new)

-- The queue has no next item, and nothing changes.
abbrev pub GivesNone : Queue → Queue → Option Placing → List (Option Placing) → Type 0
GivesNone old new hand later =
    (next_item old.core ≡ None) × ((new ≡ old) × ((hand ≡ None) × (later ≡ [])))

-- The queue has no next item, because the whole completion list was taken. Logging goes on, and
-- nothing changes.
abbrev pub AllTaken : Queue → Queue → Option Placing → List (Option Placing) → Type 0
AllTaken old new hand later =
    (old.stop ≡ None)
    × ((length (items_of old.core) ≤ old.core.taken) × GivesNone old new hand later)

-- What a writer with nothing in hand finds. It takes the next item, and maybe `later` ones, unless
-- memory for the next one runs out. If there is no next item, the writer finds that logging stopped
-- or that recording is closed. Otherwise it must wait (None).
abbrev pub FindsNext : Queue → Option Next → Queue → Option Placing → List (Option Placing) → Type 0
FindsNext old (Some Item) new hand later = TakesItems old (hand ∷ later) new
FindsNext old (Some NoRoom) new hand later = (new ≡ old) × ((hand ≡ None) × (later ≡ []))
FindsNext old (Some Stopped) new hand later = (is_some old.stop ≡ true) × GivesNone old new hand later
FindsNext old (Some Finished) new hand later =
    (has_no_close old.core.events ≡ false) × AllTaken old new hand later
FindsNext old None new hand later = (has_no_close old.core.events ≡ true) × AllTaken old new hand later

-- What a thread that waits for an entry finds in the log.

-- If a settled item with a number from `from` on has the id, the result is a receipt. Otherwise it
-- is the cause of the store's end, or if there is none, the cause by which waiting threads were
-- released. It is None if logging goes on.
abbrev pub FindsEntry : Log → ℕ → ℕ → Option (Result Receipt End) → Type 0
FindsEntry log id from (Some (Ok receipt)) =
    (receipt.id ≡ id) × ((from ≤ receipt.number) × IsSettledAt log id receipt.number)
FindsEntry log id from (Some (Err cause)) =
    IsNoneFrom log id from × (first_cause log.end log.released ≡ Some cause)
FindsEntry log id from None = IsNoneFrom log id from × (first_cause log.end log.released ≡ None)
