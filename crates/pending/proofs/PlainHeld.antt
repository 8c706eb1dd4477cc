-- The plain `CouldHold`, `Durable`, `KeepsValueOf` and `ReplaysTo` agree with the contracts'
-- definitions.
use Rattle.std.proofs.Common.{take, Option, Some, None, List, [], ◌∷◌, length, refl, ap, sym, ◌∙◌}
use Rattle.std.proofs.Common.{inl, inr, arith, ◌≡◌, ℕ, zero, suc, ◌+◌, ◌-◌, ◌<◌, ◌≤◌, Bool, true}
use Rattle.std.proofs.Common.{false, ◌&&◌, ◌||◌}
use Rattle.std.specs.Prelude.{◌⊎◌, slice_get, option_map}
use Rattle.std.proofs.lemmas.Bool.{and_parts, cases_lt}
use Rattle.std.proofs.lemmas.List.{take-map}
use Rattle.std.proofs.Math.Nat.{eq-or-lt_of_le}
use Rattle.bio.specs.Content.{Content, over}
use Rattle.bio.specs.ContentLaws.{over-in, over_cases}
use Rattle.bio.specs.declared.event.CoreEvent.{CoreEvent}
use Rattle.bio.specs.declared.event.CoreEvent.TheVariants.{Submit, Complete, Mark, Stop, Close}
use Rattle.bio.specs.declared.request.Bio.{Bio}
use Rattle.bio.specs.declared.request.Bio.TheVariants.{Write, Flush, Discard, Read}
use Rattle.bio.specs.PlaceLaws.{any_below-at, any_below-some, bool_cases, option_cases, or_cases}
use Rattle.bio.specs.PlaceLaws.{or_second, slice_get-within, well_formed-end}
use Rattle.bio.specs.Events.{all_aligned, end_of, is_before, is_flush_submit, is_well_formed}
use Rattle.bio.specs.Events.{submits}
use Rattle.bio.specs.Possible.{Possible, ended_ok, has_kept, is_durable, is_flushed, is_kept}
use Rattle.bio.specs.Possible.{is_replaced, is_success_at, values_at, values_of}
use Rattle.bio.specs.RequestLaws.{covered_value, is_before-end, value_covers}
use Rattle.bio.specs.Requests.{has_fua}
use Rattle.log_format.specs.declared.entry.Entry.{Entry}
use Rattle.log_format.specs.Entries.{is_sector_size}
use Rattle.log_format.specs.Replay.{replay}
use Rattle.pending.proofs.Order.{ends-there, flush_submit-some, listed_queued}
use Rattle.pending.proofs.Possibles.{aligned-at, entry-values, entry_values, last-value}
use Rattle.pending.specs.CompletionList.{Item, completion_list, dm_log_writes, entries_at}
use Rattle.pending.specs.CompletionList.{entries_of, entry_at, ids_of}
use Rattle.pending.specs.Plain.{CouldHold, Covers, Durable, Ends, Flushed, KeepsValueOf, Puts, ReplaysTo}
use Rattle.pending.specs.Plain.{Submits}

pub and_holds : (a b : Bool) → a ≡ true → b ≡ true → (a && b) ≡ true
and_holds a b ha hb = grind arith

over-has : (first count : ℕ) (value : ℕ → List ℕ) (sector : ℕ) (v : List ℕ)
    → over first count value sector ≡ Some v
    → (first ≤ sector) × (sector < first + count) × (v ≡ value (sector - first))
over-has first count value sector v e = grind (arith, over_cases, over-in)

has-over : (first count : ℕ) (value : ℕ → List ℕ) (sector : ℕ) → first ≤ sector
    → sector < first + count → over first count value sector ≡ Some (value (sector - first))
has-over first count value sector low high =
    grind (arith, over-in first count value (sector - first) (omega arith))

pub puts-values : (bio : Bio) (sector : ℕ) (value : List ℕ) → values_of bio sector ≡ Some value
    → Puts bio sector value
puts-values (Write first bytes flush fua meta) sector value e = grind (arith, over-has)
puts-values Flush sector value e = cc
puts-values (Discard first count) sector value e = grind (arith, over-has)
puts-values (Read first count) sector value e = cc

pub values-puts : (bio : Bio) (sector : ℕ) (value : List ℕ) → Puts bio sector value
    → values_of bio sector ≡ Some value
values-puts (Write first bytes flush fua meta) sector value puts = grind (arith, has-over)
values-puts Flush sector value puts = absurd puts
values-puts (Discard first count) sector value puts = grind (arith, has-over)
values-puts (Read first count) sector value puts = absurd puts

pub event-puts : (there : Option CoreEvent) (sector : ℕ) (value : List ℕ)
    → values_at there sector ≡ Some value
    → (bio : Bio) × (there ≡ Some (Submit bio)) × Puts bio sector value
event-puts (Some (Submit bio)) sector value e = (bio, refl, puts-values bio sector value e)
event-puts (Some (Complete id ok)) sector value e = cc
event-puts (Some (Mark text)) sector value e = cc
event-puts (Some (Stop cause)) sector value e = cc
event-puts (Some Close) sector value e = cc
event-puts None sector value e = cc

pub puts-event : (events : List CoreEvent) (id : ℕ) (bio : Bio) (sector : ℕ) (value : List ℕ)
    → Submits events id bio → Puts bio sector value
    → values_at (slice_get events id) sector ≡ Some value
puts-event events id bio sector value is puts = grind (arith, values-puts)

submits-some : (test : Bio → Bool) (there : Option CoreEvent) → submits test there ≡ true
    → (bio : Bio) × (there ≡ Some (Submit bio)) × (test bio ≡ true)
submits-some test there h = grind arith

ok-ends : (events : List CoreEvent) (id : ℕ) → ended_ok events id ≡ true
    → (end : ℕ) × (end_of events id ≡ Some end) × Ends events id end true
ok-ends events id ok = elim (option_cases (end_of events id)) [
  | inl none ↦ absurd (let contra : false ≡ true = sym (ap (is_success_at events) none) ∙ ok in cc)
  | inr some ↦ grind (arith, ends-there events id some.0 some.1, true)
]

ends-ok : (events : List CoreEvent) (id end : ℕ) → is_well_formed events ≡ true
    → Ends events id end true → ended_ok events id ≡ true
ends-ok events id end well_formed ends = grind (arith, well_formed-end)

flushed-after : (events : List CoreEvent) (id end : ℕ) → end_of events id ≡ Some end
    → is_flushed events id ≡ true → Flushed events end
flushed-after events id end ends flushed =
    let test : ℕ → Bool = λ flush. is_flush_submit (slice_get events flush)
    && (ended_ok events flush && is_before events id flush) in
    let found = any_below-some test (length events) flushed in
    let outer =
    and_parts (is_flush_submit (slice_get events found.0))
    (ended_ok events found.0 && is_before events id found.0) found.2 in
    let inner = and_parts (ended_ok events found.0) (is_before events id found.0) outer.1 in
    let flush = flush_submit-some (slice_get events found.0) outer.0 in
    let ok = ok-ends events found.0 inner.0 in
    let before = (is_before-end events id found.0).0 inner.1 in
    let before_is = before.1 in
    let less = before.2 in
    let same : before.0 ≡ end = cc in
    grind arith

after-flushed : (events : List CoreEvent) (id end : ℕ) → is_well_formed events ≡ true
    → end_of events id ≡ Some end
    → Flushed events end → is_flushed events id ≡ true
after-flushed events id end well_formed ends flushed =
    let test : ℕ → Bool = λ flush. is_flush_submit (slice_get events flush)
    && (ended_ok events flush && is_before events id flush) in
    any_below-at test (length events) flushed.id
    (slice_get-within events flushed.id (Submit flushed.bio) flushed.flush.0)
    (and_holds (is_flush_submit (slice_get events flushed.id))
    (ended_ok events flushed.id && is_before events id flushed.id)
    (ap is_flush_submit flushed.flush.0 ∙ flushed.flush.1)
    (and_holds (ended_ok events flushed.id) (is_before events id flushed.id)
    (ends-ok events flushed.id flushed.end well_formed flushed.ended)
    ((is_before-end events id flushed.id).1 (end, ends, flushed.after))))

pub durable-plain : (events : List CoreEvent) (id : ℕ) → is_well_formed events ≡ true
    → is_durable events id ≡ true → Durable events id
durable-plain events id well_formed durable =
    let parts =
    and_parts (ended_ok events id)
    (submits has_fua (slice_get events id) || is_flushed events id) durable in
    let ok = ok-ends events id parts.0 in
    let ended = well_formed-end events ok.0 id true well_formed ok.2 in
    record {
      bio = ended.bio;
      end = ok.0;
      submitted = ended.submitted;
      ended = ok.2;
      sure = elim (or_cases (submits has_fua (slice_get events id)) (is_flushed events id) parts.1) [
        | inl fua ↦ inl (sym (ap (submits has_fua) ended.submitted) ∙ fua)
        | inr flushed ↦ inr (flushed-after events id ok.0 ok.1 flushed)
      ];
    }

pub plain-durable : (events : List CoreEvent) (id : ℕ) → is_well_formed events ≡ true
    → Durable events id → is_durable events id ≡ true
plain-durable events id well_formed durable =
    let ended = well_formed-end events durable.end id true well_formed durable.ended in
    and_holds (ended_ok events id) (submits has_fua (slice_get events id) || is_flushed events id)
    (ends-ok events id durable.end well_formed durable.ended) (elim durable.sure [
      | inl fua ↦ rw (ap (submits has_fua) durable.submitted ∙ fua)
      | inr flushed ↦
          or_second (submits has_fua (slice_get events id)) (is_flushed events id)
          (after-flushed events id durable.end well_formed ended.ends flushed)
    ])

pub kept-plain : (events : List CoreEvent) (sector id : ℕ) → is_well_formed events ≡ true
    → is_kept events sector id ≡ true → KeepsValueOf events sector id
kept-plain events sector id well_formed kept =
    grind (arith, and_parts, covered_value, event-puts, durable-plain)

pub plain-kept : (events : List CoreEvent) (sector id : ℕ) → is_well_formed events ≡ true
    → KeepsValueOf events sector id → is_kept events sector id ≡ true
plain-kept events sector id well_formed kept =
    grind (arith, and_holds, plain-durable, value_covers, puts-event)

kept-within : (events : List CoreEvent) (sector id : ℕ) → KeepsValueOf events sector id → id < length events
kept-within events sector id kept = slice_get-within events id (Submit kept.1) kept.2

pub possible-plain : (events : List CoreEvent) (first now : Content)
    → is_well_formed events ≡ true → Possible events first now → CouldHold events first now
possible-plain events first now well_formed possible = λ sector. elim (possible sector) [
  | inl stays ↦ inl (
    stays.0,
    λ id kept. absurd (
        let contra : true ≡ false =
        sym (any_below-at (is_kept events sector) (length events) id
        (kept-within events sector id kept) (plain-kept events sector id well_formed kept)) ∙ stays.1 in cc),
  )
  | inr held ↦
      let puts = event-puts (slice_get events held.0) sector (now sector) held.1 in
      inr (
        held.0,
        puts.0,
        puts.1,
        puts.2,
        λ later end ok kept ends less. absurd (
            let contra : true ≡ false =
            sym (any_below-at (λ k. is_kept events sector k && is_before events held.0 k)
            (length events) later (kept-within events sector later kept)
            (and_holds (is_kept events sector later) (is_before events held.0 later)
            (plain-kept events sector later well_formed kept)
            ((is_before-end events held.0 later).1
            (end, (well_formed-end events end held.0 ok well_formed ends).ends, less)))) ∙ held.2 in cc),
      )
]

pub plain-possible : (events : List CoreEvent) (first now : Content)
    → is_well_formed events ≡ true → CouldHold events first now → Possible events first now
plain-possible events first now well_formed could = λ sector. elim (could sector) [
  | inl stays ↦ inl (
    stays.0,
    elim (bool_cases (has_kept events sector)) [
      | inl some ↦
          let found = any_below-some (is_kept events sector) (length events) some in
          absurd (stays.1 found.0 (kept-plain events sector found.0 well_formed found.2))
      | inr none ↦ none
    ],
  )
  | inr held ↦ inr (
    held.0,
    puts-event events held.0 held.1 sector (now sector) held.2 held.3,
    elim (bool_cases (is_replaced events sector held.0)) [
      | inl some ↦
          let found = any_below-some (λ k. is_kept events sector k && is_before events held.0 k)
          (length events) some in
          let parts = and_parts (is_kept events sector found.0) (is_before events held.0 found.0) found.2 in
          let before = (is_before-end events held.0 found.0).0 parts.1 in
          let there = ends-there events held.0 before.0 before.1 in
          absurd (held.4 found.0 before.0 there.2.0
          (kept-plain events sector found.0 well_formed parts.0) there.2.1 before.2)
      | inr none ↦ none
    ],
  )
]

-- What `ReplaysTo` says about one sector, whose value was `first` before the replay.
abbrev SectorAfter : List CoreEvent → List ℕ → ℕ → List ℕ → List ℕ → Type 0
SectorAfter events ids sector first after =
    ((after ≡ first)
    × ((n id : ℕ) (bio : Bio) → slice_get ids n ≡ Some id → Submits events id bio
    → Covers bio sector → ⊥))
    ⊎ ((n id : ℕ) × (bio : Bio) × (slice_get ids n ≡ Some id) × Submits events id bio
    × Puts bio sector after
    × ((m later : ℕ) (other : Bio) → n < m → slice_get ids m ≡ Some later
    → Submits events later other → Covers other sector → ⊥))

-- `SectorAfter` allows only one value, so it determines what a replay leaves.
one-value : (events : List CoreEvent) (ids : List ℕ) (sector : ℕ) (first v w : List ℕ)
    → SectorAfter events ids sector first v → SectorAfter events ids sector first w → v ≡ w
one-value events ids sector first v w (inl a) (inl b) = a.0 ∙ sym b.0
one-value events ids sector first v w (inl a) (inr b) = absurd (a.1 b.0 b.1 b.2 b.3 b.4 (w, b.5))
one-value events ids sector first v w (inr a) (inl b) = absurd (b.1 a.0 a.1 a.2 a.3 a.4 (v, a.5))
one-value events ids sector first v w (inr a) (inr b) = elim (cases_lt a.0 b.0) [
  | inl less ↦ absurd (a.6 b.0 b.1 b.2 less b.3 b.4 (w, b.5))
  | inr above ↦ elim (eq-or-lt_of_le above) [
    | inl same ↦
        let step = puts-event events a.1 a.2 sector v a.4 a.5 in
        let next_step = puts-event events b.1 b.2 sector w b.4 b.5 in
        grind arith
    | inr more ↦ absurd (b.6 a.0 a.1 a.2 more a.3 a.4 (v, a.5))
  ]
]

entry-there : (size : ℕ) (events : List CoreEvent) (ids : List ℕ) (n id : ℕ)
    → slice_get ids n ≡ Some id
    → slice_get (entries_at size events ids) n ≡ Some (entry_at size (slice_get events id))
entry-there size events [] n id is = cc
entry-there size events (x ∷ ids) zero id is = ap (option_map (λ i. entry_at size (slice_get events i))) is
entry-there size events (x ∷ ids) (suc n) id is = entry-there size events ids n id is

there-entry : (size : ℕ) (events : List CoreEvent) (ids : List ℕ) (n : ℕ) (entry : Entry)
    → slice_get (entries_at size events ids) n ≡ Some entry
    → (id : ℕ) × (slice_get ids n ≡ Some id) × (entry_at size (slice_get events id) ≡ entry)
there-entry size events [] n entry is = cc
there-entry size events (x ∷ ids) zero entry is = (x, refl, (cc))
there-entry size events (x ∷ ids) (suc n) entry is = there-entry size events ids n entry is

uncovered : (size : ℕ) (events : List CoreEvent) (id : ℕ) (bio : Bio) (sector : ℕ)
    → is_sector_size size ≡ true → all_aligned size events ≡ true
    → entry_values size (entry_at size (slice_get events id)) sector ≡ None
    → Submits events id bio → Covers bio sector → ⊥
uncovered size events id bio sector right aligned none is covers =
    grind (arith, entry-values, aligned-at, puts-event)

sector-after : (size : ℕ) (events : List CoreEvent) (ids : List ℕ) (first : Content) (sector : ℕ)
    → is_sector_size size ≡ true → all_aligned size events ≡ true
    → SectorAfter events ids sector (first sector)
    (replay size (entries_at size events ids) first sector)
sector-after size events ids first sector right aligned =
    elim (last-value size (entries_at size events ids) sector first) [
      | inl none ↦ inl (
        none.0,
        λ n id bio there is covers.
            uncovered size events id bio sector right aligned
            (none.1 n (entry_at size (slice_get events id)) (entry-there size events ids n id there))
            is covers,
      )
      | inr last ↦
          let at = there-entry size events ids last.place last.entry last.is in
          let value =
          sym (entry-values size (slice_get events at.0) sector right (aligned-at size events at.0 aligned))
          ∙ (rw at.2 last.value) in
          let puts =
          event-puts (slice_get events at.0) sector
          (replay size (entries_at size events ids) first sector) value in
          inr (
            last.place,
            at.0,
            puts.0,
            at.1,
            puts.1,
            puts.2,
            λ m later other less there is covers.
                uncovered size events later other sector right aligned
                (last.after m (entry_at size (slice_get events later)) less
                (entry-there size events ids m later there)) is covers,
          )
    ]

pub replay-plain : (size : ℕ) (events : List CoreEvent) (ids : List ℕ) (first after : Content)
    → is_sector_size size ≡ true → all_aligned size events ≡ true
    → ((sector : ℕ) → after sector ≡ replay size (entries_at size events ids) first sector)
    → ReplaysTo events ids first after
replay-plain size events ids first after right aligned same = grind (arith, sector-after)

pub plain-replay : (size : ℕ) (events : List CoreEvent) (ids : List ℕ) (first after : Content)
    → is_sector_size size ≡ true → all_aligned size events ≡ true
    → ReplaysTo events ids first after
    → (sector : ℕ) → after sector ≡ replay size (entries_at size events ids) first sector
plain-replay size events ids first after right aligned replays sector =
    one-value events ids sector (first sector) (after sector)
    (replay size (entries_at size events ids) first sector) (replays sector)
    (sector-after size events ids first sector right aligned)

entries-are : (size : ℕ) (events : List CoreEvent) (items : List Item)
    → ((k : ℕ) (item : Item) → slice_get items k ≡ Some item
    → item.1 ≡ entry_at size (slice_get events item.0))
    → entries_of items ≡ entries_at size events (ids_of items)
entries-are size events [] each = refl
entries-are size events (item ∷ items) each =
    rw (each 0 item refl, entries-are size events items (λ k i is. each (suc k) i is))

pub slice_get-beginning : {A : Type 0} (n k : ℕ) (xs : List A) (x : A) → slice_get (take n xs) k ≡ Some x
    → slice_get xs k ≡ Some x
slice_get-beginning zero k xs x is = cc
slice_get-beginning (suc n) k [] x is = cc
slice_get-beginning (suc n) zero (y ∷ xs) x is = is
slice_get-beginning (suc n) (suc k) (y ∷ xs) x is = slice_get-beginning n k xs x is

pub first_entries : (size : ℕ) (events : List CoreEvent) (count : ℕ) → is_well_formed events ≡ true
    → entries_of (take count (completion_list (dm_log_writes size) events))
    ≡ entries_at size events (take count (ids_of (completion_list (dm_log_writes size) events)))
first_entries size events count well_formed =
    let items = completion_list (dm_log_writes size) events in
    entries-are size events (take count items)
    (λ k item is. (listed_queued (dm_log_writes size) events k item well_formed
    (slice_get-beginning count k items item is)).0)
    ∙ ap (entries_at size events) (sym (take-map (λ (item : Item). item.0) count items))
