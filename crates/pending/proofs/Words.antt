-- The queue rule in the words of the relations `Chain`, `IsNeed` and `IsFirstNeed`.
use Rattle.std.proofs.Common.{◌≡◌, ℕ, zero, suc, ◌<◌, true, false, ◌&&◌, ◌||◌, Some, None, List}
use Rattle.std.proofs.Common.{length, ap, sym, ◌∙◌, inl, inr}
use Rattle.std.proofs.lemmas.Bool.{and_parts, lt-ltb, ltb-true}
use Rattle.std.specs.Prelude.{slice_get, nat_lt}
use Rattle.bio.specs.declared.request.Bio.{Bio}
use Rattle.bio.specs.declared.event.CoreEvent.{CoreEvent}
use Rattle.bio.specs.declared.event.CoreEvent.TheVariants.{Submit}
use Rattle.bio.specs.PlaceLaws.{bool_cases, is_first_below, none_first_below, well_formed-end}
use Rattle.bio.specs.Requests.{has_flush, has_fua, overlaps}
use Rattle.bio.specs.Events.{end_of, first_place, is_before, is_flush_submit, is_stop}
use Rattle.bio.specs.Events.{is_well_formed}
use Rattle.bio.specs.RequestLaws.{is_before-end}
use Rattle.pending.specs.QueueEvent.{is_linked, queue_event, log_writes_order, unless_stopped}
use Rattle.pending.specs.QueueEvent.{AtClose, AtFlush, AtFua, Chain, Direct, IsFirstNeed, IsNeed}
use Rattle.pending.specs.QueueEvent.{Through}
use Rattle.pending.specs.CompletionList.{IsListedAt, completion_list, dm_log_writes}
use Rattle.pending.proofs.Durable.{found-stands}
use Rattle.pending.proofs.Order.{ends-there, flush_submit-some, plain-queue_event}
use Rattle.pending.proofs.LinkChains.{linked-cases, linked-here, linked-step, needed-flush}
use Rattle.pending.proofs.LinkChains.{needed-linked, needing-recorded, or_cases, recorded-cases}
use Rattle.pending.proofs.Prefix.{unless_stopped-none}

pub chain-linked : (events : List CoreEvent) (last : Bio) (place end : ℕ) (bio : Bio)
    → Chain events last place end bio → is_linked events last place place end bio ≡ true
chain-linked events last place end bio (Direct _ _ overlap) =
    linked-here events last place place end bio overlap
chain-linked events last place end bio (Through _ _ later id next ended rises within meets rest) =
    linked-step events last place end bio (record {
      later = later;
      id = id;
      next = next;
      ended = ended;
      rises = rises;
      within = within;
      meets = meets;
      rest = chain-linked events last place later next rest;
    })

linked-chain : (events : List CoreEvent) (last : Bio) (place n end : ℕ) (bio : Bio)
    → is_linked events last place n end bio ≡ true → Chain events last place end bio
linked-chain events last place zero end bio h = Direct end bio h
linked-chain events last place (suc n) end bio h =
    elim (linked-cases events last place n end bio h) [
      | inl here ↦ Direct end bio here
      | inr step ↦
          Through end bio step.later step.id step.next step.ended step.rises step.within step.meets
          (linked-chain events last place n step.later step.next step.rest)
    ]

pub need-recorded : (events : List CoreEvent) (end : ℕ) (bio : Bio) (place : ℕ)
    → IsNeed events end bio place
    → log_writes_order events end (Some (Submit bio)) place (slice_get events place) ≡ true
need-recorded events end bio place (AtClose is) =
    ap (log_writes_order events end (Some (Submit bio)) place) is
need-recorded events end bio place (AtFlush id ok last is earlier submitted has rises) =
    needing-recorded events end bio place (slice_get events place) (record {
      id = id;
      ok = ok;
      last = last;
      is = is;
      earlier = earlier;
      submitted = submitted;
      needed = needed-flush events end bio place id last has rises;
    })
need-recorded events end bio place (AtFua id ok last is earlier submitted has chain) =
    needing-recorded events end bio place (slice_get events place) (record {
      id = id;
      ok = ok;
      last = last;
      is = is;
      earlier = earlier;
      submitted = submitted;
      needed =
          needed-linked events end bio place id last has
          (chain-linked events last place end bio chain);
    })

pub recorded-need : (events : List CoreEvent) (end : ℕ) (bio : Bio) (place : ℕ)
    → log_writes_order events end (Some (Submit bio)) place (slice_get events place) ≡ true
    → IsNeed events end bio place
recorded-need events end bio place h =
    elim (recorded-cases events end bio place (slice_get events place) h) [
      | inl closes ↦ AtClose closes
      | inr need ↦
          elim (or_cases (has_flush need.last && nat_lt end need.id)
          (has_fua need.last && is_linked events need.last place place end bio) need.needed) [
            | inl flushes ↦
                let parts = and_parts (has_flush need.last) (nat_lt end need.id) flushes in
                AtFlush need.id need.ok need.last need.is need.earlier need.submitted parts.0
                (ltb-true end need.id parts.1)
            | inr chained ↦
                let parts =
                and_parts (has_fua need.last)
                (is_linked events need.last place place end bio) chained in
                AtFua need.id need.ok need.last need.is need.earlier need.submitted parts.0
                (linked-chain events need.last place place end bio parts.1)
          ]
    ]

no-need : (events : List CoreEvent) (id end k : ℕ) (bio : Bio)
    → slice_get events id ≡ Some (Submit bio) → (end < k → IsNeed events end bio k → ⊥)
    → (nat_lt end k && log_writes_order events end (slice_get events id) k (slice_get events k))
    ≡ false
no-need events id end k bio is none =
    elim (bool_cases (nat_lt end k
    && log_writes_order events end (slice_get events id) k (slice_get events k))) [
      | inl needed ↦
          let parts =
          and_parts (nat_lt end k)
          (log_writes_order events end (slice_get events id) k (slice_get events k)) needed in
          absurd (none (ltb-true end k parts.0)
          (recorded-need events end bio k
          (ap (λ there. log_writes_order events end there k (slice_get events k)) (sym is)
          ∙ parts.1)))
      | inr other ↦ other
    ]

pub first_need_queues : (events : List CoreEvent) (id end event : ℕ) (bio : Bio)
    → slice_get events id ≡ Some (Submit bio) → has_flush bio ≡ false
    → has_fua bio ≡ false → end_of events id ≡ Some end → IsFirstNeed events end bio event
    → queue_event log_writes_order events id
    ≡ unless_stopped (first_place is_stop events) (Some event)
first_need_queues events id end event bio is no_flush no_fua ends first =
    plain-queue_event events id end bio is (ap (λ b. b || has_fua bio) no_flush ∙ no_fua) ends
    ∙ ap (unless_stopped (first_place is_stop events)) (
    is_first_below (λ k. nat_lt end k
    && log_writes_order events end (slice_get events id) k (slice_get events k))
    (length events) event (record {
      within = first.within;
      here =
          ap (λ b. b && log_writes_order events end (slice_get events id) event
          (slice_get events event)) (lt-ltb end event first.after)
          ∙ ap (λ there. log_writes_order events end there event (slice_get events event)) is
          ∙ need-recorded events end bio event first.needs;
      before =
          λ k less. no-need events id end k bio is (λ after need. first.first k after less need);
    }))

pub no_need_unqueued : (events : List CoreEvent) (id end : ℕ) (bio : Bio)
    → slice_get events id ≡ Some (Submit bio) → has_flush bio ≡ false
    → has_fua bio ≡ false → end_of events id ≡ Some end
    → ((event : ℕ) → end < event → event < length events → IsNeed events end bio event → ⊥)
    → queue_event log_writes_order events id ≡ None
no_need_unqueued events id end bio is no_flush no_fua ends none =
    plain-queue_event events id end bio is (rw no_flush no_fua) ends
    ∙ ap (unless_stopped (first_place is_stop events)) (
    none_first_below (λ k. nat_lt end k
    && log_writes_order events end (slice_get events id) k (slice_get events k)) (length events)
    (λ k within. no-need events id end k bio is (λ after need. none k after within need)))
    ∙ unless_stopped-none (first_place is_stop events)

pub flush_finds : (size : ℕ) (events : List CoreEvent) (earlier flush j : ℕ)
    → is_well_formed events ≡ true
    → is_flush_submit (slice_get events flush) ≡ true → is_before events earlier flush ≡ true
    → IsListedAt (completion_list (dm_log_writes size) events) flush j
    → (i : ℕ) × IsListedAt (completion_list (dm_log_writes size) events) earlier i × (i < j)
flush_finds size events earlier flush j well_formed has before listed =
    let second = flush_submit-some (slice_get events flush) has in
    let end = (is_before-end events earlier flush).0 before in
    let there = ends-there events earlier end.0 end.1 in
    let request = well_formed-end events end.0 earlier there.2.0 well_formed there.2.1 in
    found-stands size events earlier flush j well_formed (record {
      first = request.bio;
      second = second.0;
      first_is = request.submitted;
      second_is = second.1;
      end = end.0;
      ends = end.1;
      before = end.2;
      why = inr second.2;
    }) listed

pub overlap_finds : (size : ℕ) (events : List CoreEvent) (earlier later j : ℕ) (first second : Bio)
    → is_well_formed events ≡ true
    → slice_get events earlier ≡ Some (Submit first) → slice_get events later ≡ Some (Submit second)
    → overlaps first second ≡ true
    → is_before events earlier later ≡ true
    → IsListedAt (completion_list (dm_log_writes size) events) later j
    → (i : ℕ) × IsListedAt (completion_list (dm_log_writes size) events) earlier i × (i < j)
overlap_finds size events earlier later j first second well_formed first_is second_is overlap before
    listed =
    let end = (is_before-end events earlier later).0 before in
    found-stands size events earlier later j well_formed (record {
      first = first;
      second = second;
      first_is = first_is;
      second_is = second_is;
      end = end.0;
      ends = end.1;
      before = end.2;
      why = inl overlap;
    }) listed
