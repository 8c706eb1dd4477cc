-- A request that is durable at a moment is queued by then. A request that ended before another was
-- submitted is queued first, if the two overlap or the other has a flush.
use Rattle.std.proofs.Common.{◌≡◌, ℕ, ◌<◌, ◌≤◌, Bool, true, false, ◌&&◌, ◌||◌, Some}
use Rattle.std.proofs.Common.{List, [], ◌∷◌, ◌++◌, length, take, drop, refl, ap, sym, ◌∙◌, subst}
use Rattle.std.proofs.Common.{inl, inr, arith, append-nil, append_assoc, length-append}
use Rattle.std.proofs.Math.Nat.{eq-or-lt_of_le}
use Rattle.std.proofs.lemmas.Bool.{and_parts, cases_lt, eq-eqb, lt-ltb, ltb-true}
use Rattle.std.proofs.lemmas.List.{take-append-drop}
use Rattle.std.specs.Prelude.{◌⊎◌, slice_get, nat_lt}
use Rattle.bio.specs.declared.request.Bio.{Bio}
use Rattle.bio.specs.declared.event.CoreEvent.{CoreEvent}
use Rattle.bio.specs.declared.event.CoreEvent.TheVariants.{Submit}
use Rattle.bio.specs.PlaceLaws.{length-prefix, bool_cases, option_cases, first_below-found}
use Rattle.bio.specs.PlaceLaws.{first_below-none}
use Rattle.bio.specs.Requests.{covers, has_flush, has_fua, overlaps}
use Rattle.bio.specs.Events.{end_of, first_place, is_flush_submit, is_stop, is_well_formed}
use Rattle.log_format.specs.declared.entry.Entry.{Entry}
use Rattle.pending.specs.QueueEvent.{first_need, is_at, is_needed_by, queue_event, queue_of}
use Rattle.pending.specs.QueueEvent.{log_writes_order, unless_stopped}
use Rattle.pending.specs.CompletionList.{IsListedAt, completion_list, dm_log_writes}
use Rattle.pending.specs.CompletionList.{own_end}
use Rattle.pending.proofs.Order.{ends-there, flush_submit-some, listed_queued, listed_sorted}
use Rattle.pending.proofs.Order.{open_queue_event, own_queue_event, plain-queue_event}
use Rattle.pending.proofs.Order.{queued_listed, queued-within, unstopped}
use Rattle.pending.proofs.LinkChains.{linked-here, needed-flush, needed-linked, needing-recorded}
use Rattle.pending.proofs.LinkChains.{recorded-earlier}
use Rattle.pending.proofs.OneStep.{is_at-some}
use Rattle.pending.proofs.Prefix.{queue_event_same, recorded_stable}

-- Logging goes on up to `moment`: no Stop is among the first `moment` events.
pub record IsMoment (events : List CoreEvent) (moment : ℕ) : Type 0 where
  pub well_formed : is_well_formed events ≡ true
  pub within : moment ≤ length events
  pub going : (stop : ℕ) → first_place is_stop events ≡ Some stop → moment ≤ stop

same-longer : (events more : List CoreEvent) (id p : ℕ) → p < length events
    → is_at p (queue_event log_writes_order (events ++ more) id)
    ≡ is_at p (queue_event log_writes_order events id)
same-longer events [] id p within = grind (arith, append-nil events)
same-longer events (event ∷ more) id p within =
    let size = length-append events (event ∷ []) in
    ap (λ es. is_at p (queue_event log_writes_order es id))
    (sym (append_assoc events (event ∷ []) more))
    ∙ same-longer (events ++ event ∷ []) more id p (omega arith)
    ∙ queue_event_same log_writes_order recorded_stable events event id p within

pub queued-longer : (events : List CoreEvent) (m id p : ℕ)
    → queue_event log_writes_order (take m events) id ≡ Some p
    → queue_event log_writes_order events id ≡ Some p
queued-longer events m id p queued =
    is_at-some p (queue_event log_writes_order events id) (
    rw (← take-append-drop m events) (same-longer (take m events) (drop m events) id p
    (queued-within (take m events) id p queued) ∙ ap (is_at p) queued ∙ eq-eqb p p refl))

pub queued-shorter : (events : List CoreEvent) (m id p : ℕ) → m ≤ length events → p < m
    → queue_event log_writes_order events id ≡ Some p
    → queue_event log_writes_order (take m events) id ≡ Some p
queued-shorter events m id p within less queued =
    let long = length-prefix events m within in
    is_at-some p (queue_event log_writes_order (take m events) id) (
    sym (same-longer (take m events) (drop m events) id p (omega arith))
    ∙ ap (λ es. is_at p (queue_event log_writes_order es id)) (take-append-drop m events)
    ∙ ap (is_at p) queued
    ∙ eq-eqb p p refl)

going-on : (events : List CoreEvent) (moment p : ℕ) → IsMoment events moment → p < moment
    → unless_stopped (first_place is_stop events) (Some p) ≡ Some p
going-on events moment p safe less = grind (arith, option_cases, lt-ltb)

pub record EndsBefore (events : List CoreEvent) (moment id end : ℕ) : Type 0 where
  pub bio : Bio
  pub submitted : slice_get events id ≡ Some (Submit bio)
  pub ends : end_of events id ≡ Some end
  pub before : end < moment

-- As `is_kept` for the first `moment` events, without the success of the ends.
pub record IsDurableBefore (events : List CoreEvent) (moment sector id : ℕ) : Type 0 where
  pub end : ℕ
  pub there : EndsBefore events moment id end
  pub over : covers there.bio sector ≡ true
  pub durable : (has_fua there.bio ≡ true)
      ⊎ ((flush : ℕ) × (flush_end : ℕ) × EndsBefore events moment flush flush_end
      × (is_flush_submit (slice_get events flush) ≡ true) × (end < flush))

pub need-found : (events : List CoreEvent) (id end event : ℕ) → event < length events → end < event
    → log_writes_order events end (slice_get events id) event (slice_get events event) ≡ true
    → (first : ℕ) × (first_need log_writes_order events id (Some end) ≡ Some first)
    × (first ≤ event)
need-found events id end event within less needed =
    let test : ℕ → Bool =
    λ p. nat_lt end p && log_writes_order events end (slice_get events id) p
    (slice_get events p) in
    let here : test event ≡ true = rw (lt-ltb end event less) needed in
    elim (option_cases (first_need log_writes_order events id (Some end))) [
      | inl none ↦ let not_here = first_below-none test (length events) none event within in cc
      | inr some ↦
          let first = first_below-found test (length events) some.0 some.1 in (
            some.0,
            some.1,
            elim (cases_lt event some.0) [
              | inl before ↦ let not_here = first.before event before in cc
              | inr no_less ↦ no_less
            ],
          )
    ]

pub record IsQueuedBy (events : List CoreEvent) (id event : ℕ) : Type 0 where
  pub first_event : ℕ
  pub queued : queue_event log_writes_order events id ≡ Some first_event
  pub order : first_event ≤ event

-- If logging goes on up to an event that needs a request, the request is queued by then.
pub queued-by : (events : List CoreEvent) (id end event : ℕ) (bio : Bio)
    → slice_get events id ≡ Some (Submit bio) → end_of events id ≡ Some end
    → end < event → event < length events
    → log_writes_order events end (Some (Submit bio)) event (slice_get events event) ≡ true
    → unless_stopped (first_place is_stop events) (Some event) ≡ Some event
    → IsQueuedBy events id event
queued-by events id end event bio is ends after within needed logging =
    let stop = first_place is_stop events in
    elim (bool_cases (has_flush bio || has_fua bio)) [
      | inl own ↦ record {
        first_event = end;
        queued = grind (arith, own_queue_event);
        order = omega arith;
      }
      | inr plain ↦ grind (arith, need-found, plain-queue_event)
    ]

flush-needs : (events : List CoreEvent) (flush flush_end end : ℕ) (bio last : Bio)
    → slice_get events flush ≡ Some (Submit last) → has_flush last ≡ true
    → end_of events flush ≡ Some flush_end → end < flush
    → log_writes_order events end (Some (Submit bio)) flush_end (slice_get events flush_end) ≡ true
flush-needs events flush flush_end end bio last is has ends less =
    let there = ends-there events flush flush_end ends in
    grind (arith, needing-recorded, needed-flush)

pub durable-queued : (events : List CoreEvent) (moment sector id : ℕ) → IsMoment events moment
    → IsDurableBefore events moment sector id
    → (event : ℕ) × (queue_event log_writes_order events id ≡ Some event) × (event < moment)
durable-queued events moment sector id safe durable =
    let there = durable.there in
    let bio = there.bio in
    elim (bool_cases (has_flush bio || has_fua bio)) [
      | inl own ↦ grind (arith, own_queue_event, going-on)
      | inr plain ↦ elim durable.durable [
        | inl fua ↦ absurd (let either = second_holds (has_flush bio) (has_fua bio) fua in cc)
        | inr flushed ↦
            let flush = flushed.0 in
            let at = flushed.2 in
            let ended = ends-there events flush flushed.1 at.ends in
            let has = flush_submit-some (slice_get events flush) flushed.3 in
            let queued = queued-by events id durable.end flushed.1 bio there.submitted there.ends
            (let a = flushed.4 in let b = ended.1 in omega arith) ended.0
            (flush-needs events flush flushed.1 durable.end bio has.0 has.1 has.2 at.ends flushed.4)
            (going-on events moment flushed.1 safe at.before) in (
              queued.first_event,
              queued.queued,
              (let before = at.before in let upper = queued.order in omega arith),
            )
      ]
    ]
  where
    second_holds : (a b : Bool) → b ≡ true → (a || b) ≡ true
    second_holds true b h = refl
    second_holds false b h = h

-- `later` finds `earlier`, which ended before it: they overlap, or `later` has a flush.
pub record FindsEarlier (events : List CoreEvent) (earlier later : ℕ) : Type 0 where
  pub first : Bio
  pub second : Bio
  pub first_is : slice_get events earlier ≡ Some (Submit first)
  pub second_is : slice_get events later ≡ Some (Submit second)
  pub end : ℕ
  pub ends : end_of events earlier ≡ Some end
  pub before : end < later
  pub why : (overlaps first second ≡ true) ⊎ (has_flush second ≡ true)

own-needs : (events : List CoreEvent) (earlier later event : ℕ)
    → (found : FindsEarlier events earlier later)
    → (has_flush found.second || has_fua found.second) ≡ true
    → is_needed_by events found.end found.first event later found.second ≡ true
own-needs events earlier later event found own =
    grind (arith, needed-flush, bool_cases, needed-linked, linked-here)

found-needed : (events : List CoreEvent) (earlier later end event : ℕ)
    → (found : FindsEarlier events earlier later) → end_of events later ≡ Some end
    → queue_of log_writes_order events later (slice_get events later) ≡ Some event
    → (log_writes_order events found.end (Some (Submit found.first)) event (slice_get events event)
    ≡ true) × (found.end < event)
found-needed events earlier later end event found ends queued =
    let second = found.second in
    let there = ends-there events later end ends in
    let of_second = ap (queue_of log_writes_order events later) (sym found.second_is) ∙ queued in
    elim (bool_cases (has_flush second || has_fua second)) [
      | inl own ↦
          let by_own : Some end ≡ Some event =
          sym ends ∙ sym
          (rw own) ∙ of_second in
          let same : end ≡ event = cc in
          let P : ℕ → Type 0 =
          λ e. (log_writes_order events found.end (Some (Submit found.first)) e
          (slice_get events e) ≡ true) × (found.end < e) in
          subst P same (
            needing-recorded events found.end found.first end (slice_get events end) (record {
              id = later;
              ok = there.2.0;
              last = second;
              is = there.2.1;
              earlier = there.1;
              submitted = found.second_is;
              needed = own-needs events earlier later end found own;
            }),
            (let a = found.before in let b = there.1 in omega arith),
          )
      | inr plain ↦
          let need : first_need log_writes_order events later (Some end) ≡ Some event =
          sym (ap (first_need log_writes_order events later) ends)
          ∙ sym (rw plain)
          ∙ of_second in
          let first =
          first_below-found (λ p. nat_lt end p
          && log_writes_order events end (slice_get events later) p (slice_get events p))
          (length events) event need in
          let parts =
          and_parts (nat_lt end event)
          (log_writes_order events end (slice_get events later) event
          (slice_get events event)) first.here in
          let after = ltb-true end event parts.0 in
          let rises : found.end < end = let a = found.before in let b = there.1 in omega arith in (
            recorded-earlier events found.end end later event found.first second
                (slice_get events event)
                (record {
                  ok = there.2.0;
                  ends = there.2.1;
                  earlier = there.1;
                  submitted = found.second_is;
                  plain = rw plain;
                })
                rises after (meets plain found.why)
                (ap (λ s. log_writes_order events end s event (slice_get events event))
                (sym found.second_is) ∙ parts.1),
            omega arith,
          )
    ]
  where
    meets : (has_flush found.second || has_fua found.second) ≡ false
        → (overlaps found.first found.second ≡ true) ⊎ (has_flush found.second ≡ true)
        → overlaps found.first found.second ≡ true
    meets plain (inl overlap) = overlap
    meets plain (inr flush) = grind arith

pub found-queued : (events : List CoreEvent) (earlier later event : ℕ)
    → (found : FindsEarlier events earlier later)
    → queue_event log_writes_order events later ≡ Some event
    → IsQueuedBy events earlier event
found-queued events earlier later event found queued = elim (option_cases (end_of events later)) [
  | inl endless ↦
      absurd (let none = open_queue_event events later found.second found.second_is endless in cc)
  | inr some ↦
      let stop = first_place is_stop events in
      let at =
      unstopped stop (queue_of log_writes_order events later
      (slice_get events later)) event queued in
      let needed = found-needed events earlier later some.0 event found some.1 at in
      queued-by events earlier found.end event found.first found.first_is found.ends needed.1
      (queued-within events later event queued) needed.0
      (ap (unless_stopped stop) (sym at) ∙ queued)
]

pub found-first : (size : ℕ) (events : List CoreEvent) (earlier later i j : ℕ) (x y : Entry)
    → is_well_formed events ≡ true → FindsEarlier events earlier later
    → slice_get (completion_list (dm_log_writes size) events) i ≡ Some (earlier, x)
    → slice_get (completion_list (dm_log_writes size) events) j ≡ Some (later, y) → i < j
found-first size events earlier later i j x y well_formed found first second =
    let profile = dm_log_writes size in
    let queues = listed_queued profile events j (later, y) well_formed second in
    let event = queues.1.0 in
    let queued = found-queued events earlier later event found queues.1.2.queues in
    let own = ends-there events earlier found.end found.ends in
    elim (cases_lt i j) [
      | inl less ↦ less
      | inr no_less ↦ elim (eq-or-lt_of_le no_less) [
        | inl same ↦ grind arith
        | inr swapped ↦
            let sorted =
            listed_sorted profile events j i (later, y)
            (earlier, x) well_formed swapped second first in
            let first_same : sorted.first_event ≡ event = let a = sorted.first_queued.queues in
            let b = queues.1.2.queues in cc in
            let second_same : sorted.second_event ≡ queued.first_event =
            let a = sorted.second_queued.queues in let b = queued.queued in cc in
            let early_end : own_end events earlier (slice_get events earlier) ≡ Some found.end =
            ap (own_end events earlier) found.first_is ∙ found.ends in
            let ends_same : sorted.second_end ≡ found.end = let a = sorted.second_queued.ends in
            cc in
            let late_end : end_of events later ≡ Some sorted.first_end =
            sym (ap (own_end events later) found.second_is) ∙ sorted.first_queued.ends in
            let after = (ends-there events later sorted.first_end late_end).1 in
            elim sorted.earlier [
              | inl sooner ↦ absurd (let a = queued.order in omega arith)
              | inr twice ↦ absurd (let a = twice.1 in let b = found.before in omega arith)
            ]
      ]
    ]

pub found-stands : (size : ℕ) (events : List CoreEvent) (earlier later j : ℕ)
    → is_well_formed events ≡ true → FindsEarlier events earlier later
    → IsListedAt (completion_list (dm_log_writes size) events) later j
    → (i : ℕ) × IsListedAt (completion_list (dm_log_writes size) events) earlier i × (i < j)
found-stands size events earlier later j well_formed found listed =
    let queues =
    listed_queued (dm_log_writes size) events j (later, listed.0) well_formed listed.1 in
    let queued = found-queued events earlier later queues.1.0 found queues.1.2.queues in
    let stands =
    queued_listed (dm_log_writes size) events earlier queued.first_event queued.queued in
    grind (arith, found-first, well_formed)
