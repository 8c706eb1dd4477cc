-- The plain definitions of what is queued agree with those of the contracts.
use Rattle.std.proofs.Common.{◌≡◌, ℕ, zero, suc, ◌<◌, Bool, true, false, not, ◌&&◌, ◌||◌, Option}
use Rattle.std.proofs.Common.{Some, None, List, [], ◌∷◌, length, refl, ap, sym, subst, ◌∙◌, inl}
use Rattle.std.proofs.Common.{inr, arith}
use Rattle.std.proofs.Math.Nat.{eq-or-lt_of_le}
use Rattle.std.proofs.lemmas.Bool.{and_parts, cases_lt, le-ltb, lt-ltb, ltb-true}
use Rattle.std.specs.Prelude.{◌⊎◌, slice_get, nat_lt}
use Rattle.bio.specs.declared.request.Bio.{Bio}
use Rattle.refusals.specs.declared.run_error.End.{End}
use Rattle.bio.specs.declared.event.CoreEvent.{CoreEvent}
use Rattle.bio.specs.declared.event.CoreEvent.TheVariants.{Submit, Complete, Mark, Stop, Close}
use Rattle.bio.specs.PlaceLaws.{bool_cases, first_below-found, first_below-none, option_cases}
use Rattle.bio.specs.PlaceLaws.{slice_get-within, well_formed-end}
use Rattle.bio.specs.RequestLaws.{covered_value, overlaps-common, value_covers}
use Rattle.bio.specs.Events.{end_of, first_place, is_stop, is_well_formed}
use Rattle.bio.specs.Requests.{covers, has_flush, has_fua, overlaps}
use Rattle.pending.specs.QueueEvent as old
use Rattle.pending.specs.QueueEvent.{first_need, log_writes_order, queue_of, unless_stopped}
use Rattle.pending.specs.CompletionList.{IsQueued, IsQueuedBefore, Item, completion_list}
use Rattle.pending.specs.CompletionList.{dm_log_writes, entry_at, ids_of, own_end}
use Rattle.pending.specs.Plain.{AClose, AMark, AtClose, AtEnd, AtFlush, AtFua, PlainChain, Covers}
use Rattle.pending.specs.Plain.{Direct, GoesOn, IsCompletionList, Later, Need, Overlap, Queued}
use Rattle.pending.specs.Plain.{Queues, Submits, Through}
use Rattle.pending.proofs.Order.{ends-there, listed_queued, listed_sorted, own_queue_event}
use Rattle.pending.proofs.Order.{plain-queue_event, queued_listed, unstopped}
use Rattle.pending.proofs.PlainHeld.{and_holds, puts-values, values-puts}
use Rattle.pending.proofs.Words.{first_need_queues, need-recorded, recorded-need}

covers-plain : (bio : Bio) (sector : ℕ) → covers bio sector ≡ true → Covers bio sector
covers-plain bio sector covered =
    let value = covered_value (Some (Submit bio)) sector covered in
    (value.0, puts-values bio sector value.0 value.1)

plain-covers : (bio : Bio) (sector : ℕ) → Covers bio sector → covers bio sector ≡ true
plain-covers bio sector puts = grind (arith, value_covers, values-puts)

overlap-plain : (a b : Bio) → overlaps a b ≡ true → Overlap a b
overlap-plain a b h = grind (arith, overlaps-common, covers-plain)

plain-overlap : (a b : Bio) → Overlap a b → overlaps a b ≡ true
plain-overlap a b common = grind (arith, overlaps-common, plain-covers)

not_true : (b : Bool) → not b ≡ true → b ≡ false
not_true true e = cc
not_true false e = refl

chain-plain : (events : List CoreEvent) (last : Bio) (place end : ℕ) (bio : Bio)
    → old.Chain events last place end bio → PlainChain events last place end bio
chain-plain events last place end bio (old.Direct _ _ overlap) =
    Direct end bio (overlap-plain bio last overlap)
chain-plain events last place end bio (old.Through _ _ later id next ended rises within meets rest) =
    Through end bio id later ended.ok next ended.submitted
    (not_true (has_flush next || has_fua next) ended.plain) ended.ends rises within
    (overlap-plain bio next meets) (chain-plain events last place later next rest)

plain-chain : (events : List CoreEvent) (last : Bio) (place end : ℕ) (bio : Bio)
    → is_well_formed events ≡ true
    → PlainChain events last place end bio → old.Chain events last place end bio
plain-chain events last place end bio well_formed (Direct _ _ overlap) =
    old.Direct end bio (plain-overlap bio last overlap)
plain-chain events last place end bio well_formed
    (Through _ _ id later ok next submitted plain ends rises within meets rest) =
    old.Through end bio later id next (record {
      ok = ok;
      ends = ends;
      earlier = (well_formed-end events later id ok well_formed ends).earlier;
      submitted = submitted;
      plain = ap not plain;
    }) rises within (plain-overlap bio next meets)
    (plain-chain events last place later next well_formed rest)

need-plain : (events : List CoreEvent) (end : ℕ) (bio : Bio) (place : ℕ)
    → old.IsNeed events end bio place → Need events end bio place
need-plain events end bio place (old.AtClose is) = AtClose is
need-plain events end bio place (old.AtFlush id ok last is earlier submitted has rises) =
    AtFlush id ok last is submitted has rises
need-plain events end bio place (old.AtFua id ok last is earlier submitted has chain) =
    AtFua id ok last is submitted has (chain-plain events last place end bio chain)

plain-need : (events : List CoreEvent) (end : ℕ) (bio : Bio) (place : ℕ)
    → is_well_formed events ≡ true → Need events end bio place → old.IsNeed events end bio place
plain-need events end bio place well_formed (AtClose is) = old.AtClose is
plain-need events end bio place well_formed (AtFlush id ok last is submitted has rises) =
    old.AtFlush id ok last is (well_formed-end events place id ok well_formed is).earlier submitted
    has rises
plain-need events end bio place well_formed (AtFua id ok last is submitted has chain) =
    old.AtFua id ok last is (well_formed-end events place id ok well_formed is).earlier submitted
    has (plain-chain events last place end bio well_formed chain)

need-within : (events : List CoreEvent) (end : ℕ) (bio : Bio) (place : ℕ)
    → Need events end bio place
    → (place < length events) × (is_stop (slice_get events place) ≡ false)
need-within events end bio place h1 = grind (arith, slice_get-within)

by_stop : (stop queued : Option ℕ) (p : ℕ) → unless_stopped stop queued ≡ Some p
    → (stop ≡ None) ⊎ ((s : ℕ) × (stop ≡ Some s) × (p < s))
by_stop stop queued p e = grind (arith, cases_lt, lt-ltb, le-ltb)

pub stop-some : (there : Option CoreEvent) → is_stop there ≡ true
    → (cause : End) × (there ≡ Some (Stop cause))
stop-some (Some (Stop cause)) h = (cause, refl)
stop-some (Some (Submit bio)) h = cc
stop-some (Some (Complete id ok)) h = cc
stop-some (Some (Mark text)) h = cc
stop-some (Some Close) h = cc
stop-some None h = cc

goes_on-plain : (events : List CoreEvent) (queued : Option ℕ) (p : ℕ)
    → unless_stopped (first_place is_stop events) queued ≡ Some p → GoesOn events p
goes_on-plain events queued p e = λ k cause less is.
    let within = slice_get-within events k (Stop cause) is in
    let here : is_stop (slice_get events k) ≡ true = ap is_stop is in
    elim (by_stop (first_place is_stop events) queued p e) [
      | inl none ↦
          let no = first_below-none (λ place. is_stop (slice_get events place))
          (length events) none k within in
          let contra : true ≡ false = sym here ∙ no in cc
      | inr some ↦
          let found = first_below-found (λ place. is_stop (slice_get events place))
          (length events) some.0 some.1 in
          let before = some.2 in
          let no = found.before k (omega arith) in
          let contra : true ≡ false = sym here ∙ no in cc
    ]

plain-goes_on : (events : List CoreEvent) (p : ℕ) → is_stop (slice_get events p) ≡ false
    → GoesOn events p → unless_stopped (first_place is_stop events) (Some p) ≡ Some p
plain-goes_on events p other goes =
    grind (arith, option_cases, first_below-found, cases_lt, eq-or-lt_of_le, stop-some, lt-ltb)

or_false : (a b : Bool) → (a || b) ≡ false → (a ≡ false) × (b ≡ false)
or_false true b e = cc
or_false false b e = (refl, e)

pub plain-queued : (events : List CoreEvent) (id end place : ℕ) → is_well_formed events ≡ true
    → Queues events id end place → GoesOn events place
    → IsQueued log_writes_order events id place end
plain-queued events id end place well_formed (AMark text is) goes =
    record {
      queues =
          ap (λ there. unless_stopped (first_place is_stop events)
          (queue_of log_writes_order events id there)) is
          ∙ plain-goes_on events id (ap is_stop is) goes;
      ends = ap (own_end events id) is;
    }
plain-queued events id end place well_formed (AClose is) goes = grind (arith, plain-goes_on)
plain-queued events id end place well_formed (AtEnd _ bio ok is ends own) goes =
    let step = well_formed-end events end id ok well_formed ends in
    grind (arith, own_queue_event, plain-goes_on)
plain-queued events id end place well_formed (Later _ _ bio ok is ends plain after need none) goes =
    let ended = well_formed-end events end id ok well_formed ends in
    let stands = need-within events end bio place need in
    let no = or_false (has_flush bio) (has_fua bio) plain in
    record {
      queues =
          first_need_queues events id end place bio is no.0 no.1 ended.ends (record {
            within = stands.0;
            after = after;
            needs = plain-need events end bio place well_formed need;
            first = λ k low high needed. none k low high (need-plain events end bio k needed);
          })
          ∙ plain-goes_on events place stands.1 goes;
      ends = ap (own_end events id) is ∙ ended.ends;
    }

submitted-plain : (events : List CoreEvent) (id end place : ℕ) (bio : Bio)
    → is_well_formed events ≡ true → Submits events id bio
    → IsQueued log_writes_order events id place end → Queues events id end place
submitted-plain events id end place bio well_formed is queued =
    let ends : end_of events id ≡ Some end = sym (ap (own_end events id) is) ∙ queued.ends in
    let there = ends-there events id end ends in
    elim (bool_cases (has_flush bio || has_fua bio)) [
      | inl own ↦
          let found =
          unstopped (first_place is_stop events) (end_of events id) place
          (sym (own_queue_event events id bio is own) ∙ queued.queues) in
          let same : end ≡ place = let both : Some end ≡ Some place = sym ends ∙ found in cc in
          rw (← same) (AtEnd end bio there.2.0 is there.2.1 own)
      | inr plain ↦
          let found =
          unstopped (first_place is_stop events)
          (first_need log_writes_order events id (Some end)) place
          (sym (plain-queue_event events id end bio is plain ends) ∙ queued.queues) in
          let first =
          first_below-found (λ p. nat_lt end p
          && log_writes_order events end (slice_get events id) p (slice_get events p))
          (length events) place found in
          let parts =
          and_parts (nat_lt end place)
          (log_writes_order events end (slice_get events id) place (slice_get events place))
          first.here in
          Later end place bio there.2.0 is there.2.1 plain (ltb-true end place parts.0)
          (need-plain events end bio place (recorded-need events end bio place
          (grind (arith, is)
          ∙ parts.1)))
          (λ k low high need.
          let needed =
          grind (arith, is)
          ∙ need-recorded events end bio k (plain-need events end bio k well_formed need) in
          let here =
          and_holds (nat_lt end k)
          (log_writes_order events end (slice_get events id) k (slice_get events k))
          (lt-ltb end k low) needed in
          let contra : true ≡ false = sym here ∙ first.before k high in
          cc)
    ]

queues-plain : (events : List CoreEvent) (id end place : ℕ) (there : Option CoreEvent)
    → is_well_formed events ≡ true → slice_get events id ≡ there
    → IsQueued log_writes_order events id place end → Queues events id end place
queues-plain events id end place (Some (Submit bio)) well_formed is queued =
    submitted-plain events id end place bio well_formed is queued
queues-plain events id end place (Some (Mark text)) well_formed is queued =
    let ends : Some id ≡ Some end = sym (ap (own_end events id) is) ∙ queued.ends in
    let found : Some id ≡ Some place =
    sym (ap (queue_of log_writes_order events id) is)
    ∙ unstopped (first_place is_stop events)
    (queue_of log_writes_order events id (slice_get events id)) place queued.queues in
    let e : id ≡ end = cc in
    let p : id ≡ place = cc in
    rw (← e) (subst (λ x. Queues events id id x) p (AMark text is))
queues-plain events id end place (Some Close) well_formed is queued =
    let ends : Some id ≡ Some end = sym (ap (own_end events id) is) ∙ queued.ends in
    let found : Some id ≡ Some place =
    sym (ap (queue_of log_writes_order events id) is)
    ∙ unstopped (first_place is_stop events)
    (queue_of log_writes_order events id (slice_get events id)) place queued.queues in
    let e : id ≡ end = cc in
    let p : id ≡ place = cc in
    rw (← e) (subst (λ x. Queues events id id x) p (AClose is))
queues-plain events id end place (Some (Complete ended ok)) well_formed is queued =
    absurd (let contra : None ≡ Some end = sym (ap (own_end events id) is) ∙ queued.ends in cc)
queues-plain events id end place (Some (Stop cause)) well_formed is queued =
    absurd (let contra : None ≡ Some end = sym (ap (own_end events id) is) ∙ queued.ends in cc)
queues-plain events id end place None well_formed is queued =
    absurd (let contra : None ≡ Some end = sym (ap (own_end events id) is) ∙ queued.ends in cc)

pub queued-plain : (events : List CoreEvent) (id end place : ℕ) → is_well_formed events ≡ true
    → IsQueued log_writes_order events id place end → Queued events id end place
queued-plain events id end place well_formed queued = (
  queues-plain events id end place (slice_get events id) well_formed refl queued,
  goes_on-plain events (queue_of log_writes_order events id (slice_get events id)) place queued.queues,
)

pub item-there : (items : List Item) (n id : ℕ) → slice_get (ids_of items) n ≡ Some id
    → (item : Item) × (slice_get items n ≡ Some item) × (item.0 ≡ id)
item-there [] n id is = cc
item-there (item ∷ items) zero id is = (item, refl, (cc))
item-there (item ∷ items) (suc n) id is = item-there items n id is

pub there-item : (items : List Item) (n : ℕ) (item : Item) → slice_get items n ≡ Some item
    → slice_get (ids_of items) n ≡ Some item.0
there-item [] n item is = cc
there-item (x ∷ items) zero item is = grind arith
there-item (x ∷ items) (suc n) item is = there-item items n item is

pub list-plain : (size : ℕ) (events : List CoreEvent) → is_well_formed events ≡ true
    → IsCompletionList events (ids_of (completion_list (dm_log_writes size) events))
list-plain size events well_formed =
    let items = completion_list (dm_log_writes size) events in
    record {
      has = λ id end place queued.
          let listed = queued_listed (dm_log_writes size) events id place
          (plain-queued events id end place well_formed queued.0 queued.1).queues in
          (listed.0, there-item items listed.0 (id, entry_at size (slice_get events id)) listed.1);
      only = λ n id is.
          let item = item-there items n id is in
          let queued = (listed_queued (dm_log_writes size) events n item.0 well_formed item.1).1 in (
            queued.1,
            queued.0,
            queued-plain events id queued.1 queued.0 well_formed
                (rw item.2 at queued.2),
          );
      sorted = λ m n a b end place other_end other_place less is_a is_b queued_a queued_b.
          let x = item-there items m a is_a in
          let y = item-there items n b is_b in
          let order = listed_sorted (dm_log_writes size) events m n x.0 y.0 well_formed less x.1 y.1 in
          sorted-of events x.0.0 y.0.0 a b end place other_end other_place x.2 y.2 order
          (plain-queued events a end place well_formed queued_a.0 queued_a.1)
          (plain-queued events b other_end other_place well_formed queued_b.0 queued_b.1);
    }
  where
    sorted-of : (events : List CoreEvent) (x y a b end place other_end other_place : ℕ) → x ≡ a → y ≡ b
        → IsQueuedBefore log_writes_order events x y
        → IsQueued log_writes_order events a place end
        → IsQueued log_writes_order events b other_place other_end
        → (place < other_place) ⊎ ((place ≡ other_place) × (end < other_end))
    sorted-of events x y a b end place other_end other_place xa yb order qa qb = grind arith
