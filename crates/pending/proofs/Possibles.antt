-- Replaying a prefix of the log gives a content that the device could hold.
use Rattle.std.proofs.Common.{inl, inr, arith, Some, None, List, [], ◌∷◌, length, take, drop}
use Rattle.std.proofs.Common.{replicate, refl, ap, sym, ◌∙◌, ◌≡◌, ℕ, zero, suc, ◌+◌, ◌-◌, ◌/◌, ◌<◌}
use Rattle.std.proofs.Common.{◌≤◌, true, false, ◌&&◌, ◌||◌, Option}
use Rattle.std.specs.Prelude.{◌⊎◌, slice_get, unwrap_or}
use Rattle.std.proofs.lemmas.Bool.{and_parts}
use Rattle.std.proofs.lemmas.List.{length-take, take-append-drop}
use Rattle.bio.specs.Content.{Content, Patch, over, put, sector_of}
use Rattle.bio.specs.ContentLaws.{over-in, over_cases}
use Rattle.bio.specs.declared.event.CoreEvent.{CoreEvent}
use Rattle.bio.specs.declared.event.CoreEvent.TheVariants.{Submit, Complete, Mark, Stop, Close}
use Rattle.bio.specs.declared.request.Bio.{Bio}
use Rattle.bio.specs.declared.request.Bio.TheVariants as bios
use Rattle.bio.specs.PlaceLaws.{bool_cases, option_cases, first_below-found, all_below-each}
use Rattle.bio.specs.PlaceLaws.{length-prefix, slice_get-append_front, slice_get-take}
use Rattle.bio.specs.PlaceLaws.{slice_get-within}
use Rattle.bio.specs.Events.{all_aligned, end_of, is_before, is_end_of, is_flush_submit}
use Rattle.bio.specs.Events.{is_well_formed, submits, submits_aligned}
use Rattle.bio.specs.Possible.{PossibleAt, covers_at, ended_ok, has_kept, is_durable, is_flushed}
use Rattle.bio.specs.Possible.{is_kept, is_replaced, is_success_at, values_at, values_of}
use Rattle.bio.specs.RequestLaws.{covers-parts, covers-within, is_before-end, overlaps-common}
use Rattle.bio.specs.Requests.{covers, has_fua}
use Rattle.log_format.specs.AlignmentLaws.{entries_keep_values}
use Rattle.log_format.specs.declared.entry.Entry.{Entry}
use Rattle.log_format.specs.Entries.{is_sector_size, kind_of}
use Rattle.log_format.specs.Replay.{kind_values, replay}
use Rattle.pending.proofs.Durable.{IsDurableBefore, FindsEarlier, IsMoment, durable-queued, found-first}
use Rattle.pending.proofs.Durable.{queued-longer, queued-shorter}
use Rattle.pending.proofs.MarkPlaces.{found-longer, well_formed-beginning}
use Rattle.pending.proofs.Order.{ends-there, flush_submit-some, listed_queued, open_queue_event}
use Rattle.pending.proofs.Order.{queued-after, queued_listed, queued-within}
use Rattle.pending.proofs.LinkChains.{any_below-found, or_cases}
use Rattle.pending.proofs.Prefix.{recorded_list_grows}
use Rattle.pending.specs.CompletionList.{BelongsTo, Item, completion_list, dm_log_writes}
use Rattle.pending.specs.CompletionList.{entries_of, entry_at, last_moment}
use Rattle.pending.specs.QueueEvent.{queue_event, log_writes_order}

abbrev pub entry_values : ℕ → Entry → Patch
entry_values size e = kind_values size (kind_of e.flags) e

-- The last entry of `es` that has a value for the sector has the value `now`.
pub record LastAt (size : ℕ) (es : List Entry) (sector : ℕ) (now : List ℕ) : Type 0 where
  pub place : ℕ
  pub entry : Entry
  pub is : slice_get es place ≡ Some entry
  pub value : entry_values size entry sector ≡ Some now
  pub after : (k : ℕ) (later : Entry) → place < k → slice_get es k ≡ Some later
      → entry_values size later sector ≡ None

abbrev pub NoneAt : ℕ → List Entry → ℕ → Type 0
NoneAt size es sector =
    (k : ℕ) (entry : Entry) → slice_get es k ≡ Some entry → entry_values size entry sector ≡ None

pub last-value : (size : ℕ) (es : List Entry) (sector : ℕ) (first : Content)
    → ((replay size es first sector ≡ first sector) × NoneAt size es sector)
    ⊎ LastAt size es sector (replay size es first sector)
last-value size [] sector first = inl (refl, λ k entry e. cc)
last-value size (e ∷ es) sector first =
    elim (last-value size es sector (put (entry_values size e) first)) [
      | inr last ↦ inr (record {
        place = suc last.place;
        entry = last.entry;
        is = last.is;
        value = last.value;
        after = λ k later less there. after_one k later last.place less there last.after;
      })
      | inl none ↦ elim (option_cases (entry_values size e sector)) [
        | inl nothing_here ↦ inl (
          none.0 ∙ rw nothing_here,
          λ k entry there. first_too k entry there nothing_here none.1,
        )
        | inr some ↦ inr (record {
          place = 0;
          entry = e;
          is = refl;
          value = some.1 ∙ rw (← none.0 ∙ ap (λ v. unwrap_or v (first sector)) some.1);
          after = λ k later less there. rest_only k later less there none.1;
        })
      ]
    ]
  where
    after_one : (k : ℕ) (later : Entry) (place : ℕ) → suc place < k
        → slice_get (e ∷ es) k ≡ Some later
        → ((k : ℕ) (later : Entry) → place < k → slice_get es k ≡ Some later
        → entry_values size later sector ≡ None) → entry_values size later sector ≡ None
    after_one zero later place less there after = absurd (omega arith)
    after_one (suc k) later place less there after = after k later (omega arith) there

    first_too : (k : ℕ) (entry : Entry) → slice_get (e ∷ es) k ≡ Some entry
        → entry_values size e sector ≡ None → NoneAt size es sector
        → entry_values size entry sector ≡ None
    first_too zero entry there here none = grind arith
    first_too (suc k) entry there here none = none k entry there

    rest_only : (k : ℕ) (later : Entry) → 0 < k → slice_get (e ∷ es) k ≡ Some later
        → NoneAt size es sector → entry_values size later sector ≡ None
    rest_only zero later less there none = absurd (omega arith)
    rest_only (suc k) later less there none = none k later there

empty_range : (n first : ℕ) (value : ℕ → List ℕ) (sector : ℕ) → n ≡ 0
    → over first n value sector ≡ None
empty_range n first value sector none = grind (arith, over_cases)

pub entry-values : (size : ℕ) (there : Option CoreEvent) (sector : ℕ) → is_sector_size size ≡ true
    → submits_aligned size there ≡ true
    → entry_values size (entry_at size there) sector ≡ values_at there sector
entry-values size (Some (Submit bio)) sector right aligned = simp (entries_keep_values)
entry-values size (Some (Complete id ok)) sector right aligned = grind (arith, empty_range)
entry-values size (Some (Mark text)) sector right aligned = refl
entry-values size (Some (Stop cause)) sector right aligned = grind (arith, empty_range)
entry-values size (Some Close) sector right aligned = refl
entry-values size None sector right aligned = grind (arith, empty_range)

pub aligned-at : (size : ℕ) (events : List CoreEvent) (id : ℕ) → all_aligned size events ≡ true
    → submits_aligned size (slice_get events id) ≡ true
aligned-at size events id aligned = elim (option_cases (slice_get events id)) [
  | inl none ↦ ap (submits_aligned size) none
  | inr some ↦
      all_below-each (λ place. submits_aligned size (slice_get events place))
      (length events) aligned id (slice_get-within events id some.0 some.1)
]

pub entry-item : (items : List Item) (n k : ℕ) (entry : Entry)
    → slice_get (entries_of (take n items)) k ≡ Some entry
    → (item : Item) × (slice_get items k ≡ Some item) × (item.1 ≡ entry) × (k < n)
entry-item items zero k entry is = cc
entry-item [] (suc n) k entry is = cc
entry-item (item ∷ items) (suc n) zero entry is = (item, refl, (cc), omega arith)
entry-item (item ∷ items) (suc n) (suc k) entry is =
    let r = entry-item items n k entry is in
    (r.0, r.1, r.2, (let less = r.3 in omega arith))

pub item-entry : (items : List Item) (n k : ℕ) (item : Item) → slice_get items k ≡ Some item → k < n
    → slice_get (entries_of (take n items)) k ≡ Some item.1
item-entry items zero k item is less = absurd (omega arith)
item-entry [] (suc n) k item is less = cc
item-entry (x ∷ items) (suc n) zero item is less = grind arith
item-entry (x ∷ items) (suc n) (suc k) item is less = item-entry items n k item is (omega arith)

pub moment-from : (events : List CoreEvent) (moment : ℕ) → is_well_formed events ≡ true
    → moment ≤ last_moment events → IsMoment events moment
moment-from events moment well_formed last = grind (arith, option_cases, first_below-found)

covers-some : (there : Option CoreEvent) (sector : ℕ) → covers_at sector there ≡ true
    → (bio : Bio) × (there ≡ Some (Submit bio)) × (covers bio sector ≡ true)
covers-some there sector h = grind arith

success-end : (events : List CoreEvent) (found : Option ℕ) → is_success_at events found ≡ true
    → (end : ℕ) × (found ≡ Some end)
success-end events None h = cc
success-end events (Some end) h = (end, refl)

end-longer : (events : List CoreEvent) (moment id end : ℕ) → moment ≤ length events
    → end_of (take moment events) id ≡ Some end
    → (end_of events id ≡ Some end) × (id < end) × (end < moment)
end-longer events moment id end within ends =
    let there = ends-there (take moment events) id end ends in
    let long = length-prefix events moment within in (
      rw (← take-append-drop moment events) (found-longer (is_end_of id) (take moment events)
          (drop moment events) id end ends),
      there.1,
      (let less = there.0 in omega arith),
    )

durable-of : (events : List CoreEvent) (moment sector id : ℕ) → moment ≤ length events
    → id < length (take moment events)
    → is_kept (take moment events) sector id ≡ true → IsDurableBefore events moment sector id
durable-of events moment sector id within inside kept =
    let front = take moment events in
    let long = length-prefix events moment within in
    let parts = and_parts (is_durable front id) (covers_at sector (slice_get front id)) kept in
    let why =
    and_parts (ended_ok front id)
    (submits has_fua (slice_get front id) || is_flushed front id) parts.0 in
    let there = covers-some (slice_get front id) sector parts.1 in
    let end = success-end front (end_of front id) why.0 in
    let ends = end-longer events moment id end.0 within end.1 in record {
      end = end.0;
      there = record {
        bio = there.0;
        submitted = sym (slice_get-take events moment id (omega arith)) ∙ there.1;
        ends = ends.0;
        before = ends.2;
      };
      over = there.2;
      durable = elim (or_cases (submits has_fua (slice_get front id)) (is_flushed front id) why.1) [
        | inl fua ↦ inl (ap (submits has_fua) (sym there.1) ∙ fua)
        | inr flushed ↦
            let found =
            any_below-found (λ flush. is_flush_submit (slice_get front flush)
            && (ended_ok front flush && is_before front id flush)) (length front) flushed in
            let flush = found.0 in
            let outer =
            and_parts (is_flush_submit (slice_get front flush))
            (ended_ok front flush && is_before front id flush) found.2 in
            let inner = and_parts (ended_ok front flush) (is_before front id flush) outer.1 in
            let some = flush_submit-some (slice_get front flush) outer.0 in
            let flush_end = success-end front (end_of front flush) inner.0 in
            let flush_ends = end-longer events moment flush flush_end.0 within flush_end.1 in
            let before = (is_before-end front id flush).0 inner.1 in
            let same = slice_get-take events moment flush (let less = found.1 in omega arith) in
            inr (
              flush,
              flush_end.0,
              record {
                bio = some.0;
                submitted = sym same ∙ some.1;
                ends = flush_ends.0;
                before = flush_ends.2;
              },
              ap is_flush_submit (sym same) ∙ outer.0,
              (let one : before.0 ≡ end.0 = let a = before.1 in let b = end.1 in cc in
                  let less = before.2 in omega arith),
            )
      ];
    }

pub stands-before : (size : ℕ) (events : List CoreEvent) (moment id event : ℕ) → moment ≤ length events
    → queue_event log_writes_order events id ≡ Some event → event < moment
    → (k : ℕ) × (slice_get (completion_list (dm_log_writes size) events) k
    ≡ Some (id, entry_at size (slice_get (take moment events) id)))
    × (k < length (completion_list (dm_log_writes size) (take moment events)))
stands-before size events moment id event within queued less =
    let step = take moment events in
    let next_step =
    queued_listed (dm_log_writes size) (take moment events) id event (queued-shorter events moment
    id event within less queued) in
    let last_step = recorded_list_grows size (take moment events) (drop moment events) in
    let fact = take-append-drop moment events in
    grind (arith, slice_get-within, slice_get-append_front)

-- The item's queue event is at most the next event after the first `moment` events.
pub record IsItemBy (size : ℕ) (events : List CoreEvent) (moment : ℕ) (item : Item) : Type 0 where
  pub event : ℕ
  pub queued : queue_event log_writes_order events item.0 ≡ Some event
  pub entry : item.1 ≡ entry_at size (slice_get events item.0)
  pub by_then : event ≤ moment

pub item-by : (size : ℕ) (events : List CoreEvent) (moment k : ℕ) (item : Item)
    → is_well_formed events ≡ true
    → slice_get (completion_list (dm_log_writes size) events) k ≡ Some item
    → k < length (completion_list (dm_log_writes size) (take (suc moment) events))
    → IsItemBy size events moment item
item-by size events moment k item well_formed is inside =
    let front = take (suc moment) events in
    let grows = recorded_list_grows size front (drop (suc moment) events) in
    let there : slice_get (completion_list (dm_log_writes size) front) k ≡ Some item =
    sym (slice_get-append_front (completion_list (dm_log_writes size) front) grows.0 k inside)
    ∙ ap (λ items. slice_get items k) (sym grows.1)
    ∙ ap (λ es. slice_get (completion_list (dm_log_writes size) es) k)
    (take-append-drop (suc moment) events)
    ∙ is in
    let front_formed =
    well_formed-beginning front (drop (suc moment) events)
    (ap is_well_formed (take-append-drop (suc moment) events) ∙ well_formed) in
    let listed = listed_queued (dm_log_writes size) front k item front_formed there in
    let whole = listed_queued (dm_log_writes size) events k item well_formed is in
    let event = listed.1.0 in
    let less = queued-within front item.0 event listed.1.2.queues in
    let long = length-take (suc moment) events in record {
      event = event;
      queued = queued-longer events (suc moment) item.0 event listed.1.2.queues;
      entry = whole.0;
      by_then = omega arith;
    }

item-before : (events : List CoreEvent) (moment id : ℕ) (bio : Bio) (event : ℕ)
    → is_well_formed events ≡ true → slice_get events id ≡ Some (Submit bio)
    → queue_event log_writes_order events id ≡ Some event → event ≤ moment → id < moment
item-before events moment id bio event well_formed is queued by_then =
    elim (option_cases (end_of events id)) [
      | inl endless ↦ absurd (let none = open_queue_event events id bio is endless in cc)
      | inr some ↦
          let after = queued-after events id some.0 event (Some (Submit bio)) is refl
          some.1 queued in
          let ended = (ends-there events id some.0 some.1).1 in
          omega arith
    ]

value-covers : (bio : Bio) (sector : ℕ) (now : List ℕ) → values_of bio sector ≡ Some now
    → covers bio sector ≡ true
value-covers (bios.Write first bytes flush fua meta) sector now e =
    grind (arith, over_cases, covers-within)
value-covers bios.Flush sector now e = cc
value-covers (bios.Discard first count) sector now e = grind (arith, over_cases, covers-within)
value-covers (bios.Read first count) sector now e = cc

covers-value : (bio : Bio) (sector : ℕ) → covers bio sector ≡ true → values_of bio sector ≡ None → ⊥
covers-value (bios.Write first bytes flush fua meta) sector h e =
    let parts = covers-parts (bios.Write first bytes flush fua meta) sector h in
    let at : sector ≡ first + (sector - first) = let low = parts.1 in omega arith in
    let here = ap (over first (length bytes / 512) (sector_of bytes)) at
    ∙ over-in first (length bytes / 512) (sector_of bytes) (sector - first)
    (let low = parts.1 in let high = parts.2 in omega arith) in
    cc
covers-value bios.Flush sector h e = grind (arith, covers-parts)
covers-value (bios.Discard first count) sector h e =
    let parts = covers-parts (bios.Discard first count) sector h in
    let at : sector ≡ first + (sector - first) = let low = parts.1 in omega arith in
    let here = ap (over first count (λ _. replicate 512 0)) at
    ∙ over-in first count (λ _. replicate 512 0) (sector - first)
    (let low = parts.1 in let high = parts.2 in omega arith) in
    cc
covers-value (bios.Read first count) sector h e = cc

value-some : (there : Option CoreEvent) (sector : ℕ) (now : List ℕ)
    → values_at there sector ≡ Some now → (bio : Bio) × (there ≡ Some (Submit bio))
value-some there sector now e = grind arith

pub record IsSized (size : ℕ) (events : List CoreEvent) : Type 0 where
  pub right : is_sector_size size ≡ true
  pub aligned : all_aligned size events ≡ true

-- One of the first `count` entries is that of the durable request and has a value for the sector.
durable-entry : (size : ℕ) (events : List CoreEvent) (moment count sector id : ℕ)
    → IsSized size events → IsMoment events moment
    → BelongsTo (dm_log_writes size) events moment count
    → (durable : IsDurableBefore events moment sector id)
    → (k : ℕ) × (entry : Entry)
    × (slice_get (completion_list (dm_log_writes size) events) k ≡ Some (id, entry)) × (k < count)
    × (slice_get (entries_of (take count (completion_list (dm_log_writes size) events))) k
    ≡ Some entry) × (entry_values size entry sector ≡ None → ⊥)
durable-entry size events moment count sector id sized safe belongs durable =
    let items = completion_list (dm_log_writes size) events in
    let there = durable.there in
    let queued = durable-queued events moment sector id safe durable in
    let stands = stands-before size events moment id queued.0 safe.within queued.1 queued.2 in
    let entry = entry_at size (slice_get (take moment events) id) in
    let before : id < moment = let a = (ends-there events id durable.end there.ends).1 in
    let b = there.before in omega arith in
    let less : stands.0 < count = let a = stands.2 in let b = belongs.from in omega arith in (
      stands.0,
      entry,
      stands.1,
      less,
      item-entry items count stands.0 (id, entry) stands.1 less,
      λ none. covers-value there.bio sector durable.over (
          ap (λ found. values_at found sector)
          (sym (slice_get-take events moment id before ∙ there.submitted))
          ∙ sym (entry-values size (slice_get (take moment events) id) sector sized.right
          (ap (submits_aligned size) (slice_get-take events moment id before)
          ∙ aligned-at size events id sized.aligned))
          ∙ none),
    )

none-kept : (size : ℕ) (events : List CoreEvent) (moment count sector : ℕ) → IsSized size events
    → IsMoment events moment → BelongsTo (dm_log_writes size) events moment count
    → NoneAt size (entries_of (take count (completion_list (dm_log_writes size) events))) sector
    → has_kept (take moment events) sector ≡ false
none-kept size events moment count sector sized safe belongs none =
    elim (bool_cases (has_kept (take moment events) sector)) [
      | inl some ↦
          let found =
          any_below-found (is_kept (take moment events) sector)
          (length (take moment events)) some in
          let entry =
          durable-entry size events moment count sector found.0 sized safe belongs
          (durable-of events moment sector found.0 safe.within found.1 found.2) in
          absurd (entry.5 (none entry.0 entry.1 entry.4))
      | inr other ↦ other
    ]

-- A durable request that replaced this one would come later in the log, but this one is last.
last-unreplaced : (size : ℕ) (events : List CoreEvent) (moment count sector id place : ℕ)
    (now : List ℕ) (entry : Entry) → IsSized size events → IsMoment events moment
    → BelongsTo (dm_log_writes size) events moment count
    → (last : LastAt size (entries_of
    (take count (completion_list (dm_log_writes size) events))) sector now)
    → slice_get (completion_list (dm_log_writes size) events) last.place ≡ Some (id, entry)
    → (bio : Bio) → slice_get events id ≡ Some (Submit bio) → covers bio sector ≡ true
    → is_replaced (take moment events) sector id ≡ false
last-unreplaced size events moment count sector id place now entry sized safe belongs last stands
    bio submitted over =
    let front = take moment events in
    elim (bool_cases (is_replaced front sector id)) [
      | inl replaced ↦
          let found =
          any_below-found (λ later. is_kept front sector later && is_before front id later)
          (length front) replaced in
          let later = found.0 in
          let parts = and_parts (is_kept front sector later) (is_before front id later) found.2 in
          let durable = durable-of events moment sector later safe.within found.1 parts.0 in
          let before = (is_before-end front id later).0 parts.1 in
          let second = durable.there.bio in
          let both : FindsEarlier events id later = record {
            first = bio;
            second = second;
            first_is = submitted;
            second_is = durable.there.submitted;
            end = before.0;
            ends = (end-longer events moment id before.0 safe.within before.1).0;
            before = before.2;
            why = inl ((overlaps-common bio second).1 (sector, over, durable.over));
          } in
          let there = durable-entry size events moment count sector later sized safe
          belongs durable in
          let less =
          found-first size events id later last.place there.0 entry there.1 safe.well_formed
          both stands there.2 in
          absurd (there.5 (last.after there.0 there.1 less there.4))
      | inr other ↦ other
    ]

pub possible-at : (size : ℕ) (events : List CoreEvent) (first : Content) (moment count sector : ℕ)
    → IsSized size events → is_well_formed events ≡ true
    → moment ≤ last_moment events → BelongsTo (dm_log_writes size) events moment count
    → PossibleAt (take moment events) first
    (replay size (entries_of
    (take count (completion_list (dm_log_writes size) events))) first) sector
possible-at size events first moment count sector sized well_formed until belongs =
    let safe = moment-from events moment well_formed until in
    let items = completion_list (dm_log_writes size) events in
    let es = entries_of (take count items) in
    elim (last-value size es sector first) [
      | inl none ↦ inl (none.0, none-kept size events moment count sector sized safe belongs none.1)
      | inr last ↦
          let item = entry-item items count last.place last.entry last.is in
          let id = item.0.0 in
          let by = item-by size events moment last.place item.0 well_formed item.1
          (let a = item.3 in let b = belongs.to in omega arith) in
          let value : values_at (slice_get events id) sector ≡ Some (replay size es first sector) =
          sym (entry-values size (slice_get events id) sector sized.right
          (aligned-at size events id sized.aligned))
          ∙ ap (λ e. entry_values size e sector) (sym by.entry ∙ item.2)
          ∙ last.value in
          let some = value-some (slice_get events id) sector (replay size es first sector) value in
          let over =
          value-covers some.0 sector (replay size es first sector)
          (grind (arith, some.1, value)) in
          let before =
          item-before events moment id some.0 by.event well_formed some.1 by.queued
          by.by_then in
          inr (
            id,
            rw (slice_get-take events moment id before) value,
            last-unreplaced size events moment count sector id last.place
                (replay size es first sector) item.0.1 sized safe belongs last item.1 some.0 some.1
                over,
          )
    ]
