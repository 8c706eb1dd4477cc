-- The machine can take the plan's steps for the events; after them, each wanted request that has
-- ended is the newest that is settled in its sector.
use Rattle.std.proofs.Common.{◌≡◌, ℕ, zero, suc, ◌<◌, ◌≤◌, ◌==◌, Bool, true, false, not, ◌&&◌, ◌||◌}
use Rattle.std.proofs.Common.{Option, Some, None, List, [], ◌∷◌, ◌++◌, length, take, refl, ap, sym}
use Rattle.std.proofs.Common.{◌∙◌, subst, inl, inr, arith}
use Rattle.std.proofs.lemmas.Bool.{and_parts, eq-eqb, eqb-true, lt-ltb}
use Rattle.std.specs.List.{list_all, list_any}
use Rattle.std.specs.Prelude.{slice_get}
use Rattle.bio.specs.Places.{collect}
use Rattle.bio.specs.PlaceLaws.{IsEnded, any_below-at, bool_cases, each_all_below, last_or_below}
use Rattle.bio.specs.PlaceLaws.{or_cases, or_second, slice_get-within, well_formed-each}
use Rattle.bio.specs.PlaceLaws.{well_formed-end}
use Rattle.bio.specs.declared.request.Bio.{Bio}
use Rattle.bio.specs.declared.event.CoreEvent.{CoreEvent}
use Rattle.bio.specs.declared.event.CoreEvent.TheVariants as core_events
use Rattle.bio.specs.Events.{end_of, is_before, is_flush_submit, is_recording, is_request}
use Rattle.bio.specs.Events.{is_well_formed, submits}
use Rattle.bio.specs.Possible.{covers_at, ended_ok, has_kept, is_durable, is_flushed, is_kept}
use Rattle.bio.specs.Possible.{is_replaced, is_success, is_success_at}
use Rattle.bio.specs.RequestLaws.{covers-within}
use Rattle.bio.specs.Requests.{covers, has_fua, is_tracked}
use Rattle.judge.specs.Laws.{kept_within}
use Rattle.world.specs.declared.step.Step.{Step}
use Rattle.world.specs.declared.step.Step.TheVariants.{Submit, End}
use Rattle.world.specs.Machine.{Machine, machine_after, before_submit, event_step, calls_below, each_sector}
use Rattle.world.specs.Machine.{has_landed, has_settled, has_step, is_among, is_end, is_pending}
use Rattle.world.specs.Machine.{is_submit, may_succeed, newest, settled_if_ended, start}
use Rattle.world.specs.inside.{IsChoice, by_sector, is_wanted, lands_early, lands_late, steps_of}
use Rattle.world.proofs.Calls.{all_calls, among_new, any_call, before_submit_at, clash, end_from}
use Rattle.world.proofs.Calls.{submit_from}
use Rattle.world.proofs.RunIsPossible.{end_found}
use Rattle.world.proofs.SectorSteps.{StepsFrame, by_cases, go_none, go_on, go_one, landed_from}
use Rattle.world.proofs.SectorSteps.{lands_there, more_landed, more_settled, settles_there}
use Rattle.world.proofs.SectorSteps.{touch_all}

-- `m` is the machine after the plan's steps for the first `k` events. A wanted request lands only
-- at its end, and is then the newest that is settled (`only_late`, `late`). If another request ends
-- with success, it has landed, and if `sure` holds for it, it is settled.
pub record AfterFirstEvents (events : List CoreEvent) (wanted : ℕ → Option ℕ) (sure : ℕ → ℕ → Bool) (k : ℕ)
    (m : Machine) : Type 0 where
  pub calls : m.calls ≡ calls_below events k
  pub on : m.off ≡ false
  pub known : (sector id : ℕ) → is_among (m.landed sector) id ≡ true → id < k
  pub only_late : (sector id : ℕ) → wanted sector ≡ Some id → is_among (m.landed sector) id ≡ true
      → list_any (is_end id) (calls_below events k) ≡ true
  pub within : (sector id : ℕ) → is_among (m.settled sector) id ≡ true
      → is_among (m.landed sector) id ≡ true
  pub early : (sector id : ℕ) → id < k → covers_at sector (slice_get events id) ≡ true
      → is_wanted (wanted sector) id ≡ false
      → ended_ok events id ≡ true → is_among (m.landed sector) id ≡ true
  pub early_sure : (sector id : ℕ) → id < k → covers_at sector (slice_get events id) ≡ true
      → is_wanted (wanted sector) id ≡ false
      → ended_ok events id ≡ true → sure id sector ≡ true → is_among (m.settled sector) id ≡ true
  pub late : (sector id : ℕ) → wanted sector ≡ Some id
      → list_any (is_end id) (calls_below events k) ≡ true → newest (m.settled sector) ≡ Some id
  pub bare : (sector : ℕ) → wanted sector ≡ None → newest (m.settled sector) ≡ None

pub start_follows : (events : List CoreEvent) (wanted : ℕ → Option ℕ) (sure : ℕ → ℕ → Bool)
    → AfterFirstEvents events wanted sure zero start
start_follows events wanted sure = record {
  calls = refl;
  on = refl;
  known = λ sector id h. cc;
  only_late = λ sector id is h. cc;
  within = λ sector id h. h;
  early = λ sector id h. absurd (omega arith);
  early_sure = λ sector id h. absurd (omega arith);
  late = λ sector id is h. cc;
  bare = λ sector is. refl;
}

both_hold : (a b : Bool) → a ≡ true → b ≡ true → (a && b) ≡ true
both_hold a b h k = grind arith

wanted_is : (wanted : Option ℕ) (id : ℕ) → wanted ≡ Some id → is_wanted wanted id ≡ true
wanted_is wanted id is = grind (arith, eq-eqb)

pub is_wanted-some : (wanted : Option ℕ) (id : ℕ) → is_wanted wanted id ≡ true → wanted ≡ Some id
is_wanted-some None id h = cc
is_wanted-some (Some other) id h = grind (arith, eqb-true)

none_wanted : (wanted : Option ℕ) (id : ℕ) → wanted ≡ None → is_wanted wanted id ≡ false
none_wanted wanted id is = grind arith

pub same_some : (a b : ℕ) (o : Option ℕ) → o ≡ Some a → o ≡ Some b → a ≡ b
same_some a b o is other = grind arith

pub ended_below : (events : List CoreEvent) (k id : ℕ) → is_well_formed events ≡ true
    → list_any (is_end id) (calls_below events k) ≡ true
    → (place : ℕ) × (place < k) × IsEnded events id place
ended_below events k id well_formed ended =
    grind (arith, end_from events k id ended, well_formed-end)

pub not_ended : (events : List CoreEvent) (k id : ℕ) → is_well_formed events ≡ true
    → ((place : ℕ) → place < k → end_of events id ≡ Some place → ⊥)
    → list_any (is_end id) (calls_below events k) ≡ false
not_ended events k id well_formed none =
    elim (bool_cases (list_any (is_end id) (calls_below events k))) [
      | inl ended ↦
          grind (arith, ended_below events k id well_formed ended)
      | inr open_yet ↦ open_yet
    ]

-- a durable request from `new` on would replace the wanted request, which ended before it
no_late_settle : (events : List CoreEvent) (wanted : ℕ → Option ℕ) (sure : ℕ → ℕ → Bool)
    (sector id new place : ℕ) → IsChoice events wanted sure
    → wanted sector ≡ Some id → end_of events id ≡ Some place → place < new
    → sure new sector ≡ true → ⊥
no_late_settle events wanted sure sector id new place choice is ends less needs =
    let found = choice.before sector new needs in
    let later = found.0 in
    let order = found.1 in
    let before : is_before events id later ≡ true =
    rw ends (lt-ltb place later (omega arith)) in
    let replaced =
    any_below-at (λ other. is_kept events sector other && is_before events id other)
    (length events) later
    (kept_within events sector later found.2)
    (rw found.2 before) in
    clash (is_replaced events sector id) replaced (choice.stays sector id is)

some_kept : (events : List CoreEvent) (sector id : ℕ) → is_kept events sector id ≡ true
    → has_kept events sector ≡ true
some_kept events sector id kept =
    any_below-at (is_kept events sector) (length events) id (kept_within events sector id kept) kept

each_of : (test : ℕ → Bool) (bio : Bio) → is_tracked bio ≡ true
    → ((sector : ℕ) → covers bio sector ≡ true → test sector ≡ true)
    → each_sector test (Some (core_events.Submit bio)) ≡ true
each_of test bio tracked each = grind (arith, each_all_below, covers-within)

pub follow_submit : (events : List CoreEvent) (wanted : ℕ → Option ℕ) (sure : ℕ → ℕ → Bool) (k : ℕ)
    (m : Machine) (bio : Bio)
    → is_well_formed events ≡ true → IsChoice events wanted sure
    → slice_get events k ≡ Some (core_events.Submit bio) → AfterFirstEvents events wanted sure k m
    → (new : Machine) × StepsFrame events m
    (steps_of events wanted sure k (Some (core_events.Submit bio))) new
    × AfterFirstEvents events wanted sure (suc k) new
follow_submit events wanted sure k m bio well_formed choice is before =
    let tracked =
    (and_parts (is_recording (take k events)) (is_tracked bio)
    (well_formed-each events k (core_events.Submit bio) well_formed is)).1 in
    let unknown : list_any (is_submit k) m.calls ≡ false =
    elim (bool_cases (list_any (is_submit k) m.calls)) [
      | inl found ↦
          grind (
            arith,
            submit_from events k k (ap (list_any (is_submit k)) (sym before.calls) ∙
                found),
          )
      | inr none ↦ none
    ] in
    let open_yet : list_any (is_end k) (calls_below events k) ≡ false =
    not_ended events k k well_formed
    (λ place less ends. absurd
    (let end = end_found events k place ends in let later = end.later in omega arith)) in
    let submitted = machine_after m (Submit k) in
    let may : has_step events m (Submit k) ≡ true =
    grind (arith, not)
    ∙ ap (λ event. is_request event && not (list_any (is_submit k) m.calls)) is
    ∙ ap (λ b. b && not (list_any (is_submit k) m.calls)) tracked
    ∙ ap not unknown in
    let pending : is_pending submitted k ≡ true =
    ap (λ b. (b || list_any (is_submit k) m.calls) && not (list_any (is_end k) m.calls))
    (eq-eqb k k refl)
    ∙ ap (λ calls. not (list_any (is_end k) calls)) before.calls ∙ ap not open_yet in
    let lands : ℕ → Bool = λ sector. not (is_wanted (wanted sector) k) && ended_ok events k in
    let settles : ℕ → Bool = λ sector. sure k sector in
    let touch = touch_all events submitted lands settles k bio is tracked before.on pending
    (λ sector covered goes. elim (bool_cases (is_among (m.landed sector) k)) [
      | inl there ↦ absurd (let less = before.known sector k there in omega arith)
      | inr none ↦ none
    ]) in
    let new = touch.0 in
    let t = touch.2 in
    let calls : (test : Step → Bool) → test (Submit k) ≡ false →
    list_any test (calls_below events (suc k)) ≡ list_any test (calls_below events k) =
    λ test fails. ap (λ event. list_any test (event_step k event ++ calls_below events k)) is
    ∙ ap (λ b. b || list_any test (calls_below events k)) fails in
    let stays : (sector : ℕ) →
    ((covers bio sector && (lands sector && settles sector)) ≡ true →
    newest (k ∷ m.landed sector) ≡ newest (m.settled sector))
    → newest (new.settled sector) ≡ newest (m.settled sector) =
    λ sector both. ap newest (t.settled sector)
    ∙ by_cases (λ ids. newest ids ≡ newest (m.settled sector))
    (covers bio sector && (lands sector && settles sector)) k (m.landed sector) (m.settled sector)
    both (λ fails. refl) in (
      new,
      go_on events m submitted new (Submit k ∷ [])
          (by_sector (lands_early events wanted sure k) (Some (core_events.Submit bio)))
          (go_one events m (Submit k) may) touch.1,
      record {
        calls =
            grind arith;
        on = t.off ∙ before.on;
        known = λ sector id among.
            elim (landed_from (covers bio) lands settles k submitted new sector id t among) [
              | inl here ↦ let same = here.1 in omega arith
              | inr older ↦ let less = before.known sector id older in omega arith
            ];
        only_late = λ sector id chosen among.
            elim (landed_from (covers bio) lands settles k submitted new sector id t among) [
              | inl here ↦
                  grind (arith, and_parts, clash, not, wanted_is)
              | inr older ↦ calls (is_end id) refl ∙ before.only_late sector id chosen older
            ];
        within =
            λ sector id among. grind (arith, by_cases, and_parts, more_landed);
        early = λ sector id less covered other good. elim (last_or_below id k less) [
          | inl same ↦
              ap (λ ids. is_among ids id)
              (lands_there (covers bio) lands settles k submitted new sector t
              (sym (ap (covers_at sector) (ap (slice_get events) same ∙ is)) ∙ covered)
              (both_hold (not (is_wanted (wanted sector) k)) (ended_ok events k)
              (grind (arith, same, ap not other))
              (ap (ended_ok events) (sym same) ∙ good)))
              ∙ ap (λ i. is_among (i ∷ m.landed sector) id) (sym same)
              ∙ among_new id (m.landed sector)
          | inr below ↦
              grind (arith, more_landed)
        ];
        early_sure = λ sector id less covered other good needs. elim (last_or_below id k less) [
          | inl same ↦
              ap (λ ids. is_among ids id)
              (settles_there (covers bio) lands settles k submitted new sector t
              (sym (ap (covers_at sector) (ap (slice_get events) same ∙ is)) ∙ covered)
              (both_hold (not (is_wanted (wanted sector) k)) (ended_ok events k)
              (grind (arith, same, ap not other))
              (ap (ended_ok events) (sym same) ∙ good))
              (grind (arith, same, needs)))
              ∙ ap (λ i. is_among (i ∷ m.landed sector) id) (sym same)
              ∙ among_new id (m.landed sector)
          | inr below ↦
              more_settled (covers bio) lands settles k submitted new sector id t
              (before.early sector id below covered other good)
              (before.early_sure sector id below covered other good needs)
        ];
        late = λ sector id chosen ended.
            let earlier = sym (calls (is_end id) refl) ∙ ended in
            let end = ended_below events k id well_formed earlier in
            stays sector (λ both.
            let needs =
            (and_parts (lands sector) (settles sector)
            (and_parts (covers bio sector) (lands sector && settles sector) both).1).1 in
            absurd (no_late_settle events wanted sure sector id k end.0 choice chosen end.2.ends
            end.1 needs))
            ∙ before.late sector id chosen earlier;
        bare = λ sector none.
            grind (arith, and_parts, clash, some_kept);
      },
    )

good_end : (events : List CoreEvent) (id place : ℕ) → end_of events id ≡ Some place
    → slice_get events place ≡ Some (core_events.Complete id true) → ended_ok events id ≡ true
good_end events id place ends is = ap (is_success_at events) ends ∙ ap is_success is

if_so : (a b : Bool) → (a ≡ true → b ≡ true) → (not a || b) ≡ true
if_so true b h = h refl
if_so false b h = refl

-- An end may have success if its request has landed, and each durable request that has ended by
-- then is settled.
may_end : (events : List CoreEvent) (mid : Machine) (k id : ℕ) (ok : Bool) (bio : Bio)
    → is_well_formed events ≡ true
    → slice_get events k ≡ Some (core_events.Complete id ok)
    → slice_get events id ≡ Some (core_events.Submit bio) → is_tracked bio ≡ true → id < k
    → end_of events id ≡ Some k → mid.calls ≡ calls_below events k
    → (ok ≡ true → (sector : ℕ) → covers bio sector ≡ true → is_among (mid.landed sector) id ≡ true)
    → ((sector other place : ℕ) → place ≤ k → end_of events other ≡ Some place
    → is_kept events sector other ≡ true → is_among (mid.settled sector) other ≡ true)
    → ok ≡ true → may_succeed events mid id ≡ true
may_end events mid k id ok bio well_formed is submitted tracked less ends calls landed settled
    good =
    let end : ended_ok events id ≡ true =
    good_end events id k ends
    (is ∙ rw good) in
    let all_landed : has_landed events mid id ≡ true =
    ap (each_sector (λ sector. is_among (mid.landed sector) id)) submitted
    ∙ each_of (λ sector. is_among (mid.landed sector) id) bio tracked (landed good) in
    let of_fua : submits has_fua (slice_get events id) ≡ true → has_settled events mid id ≡ true =
    λ fua.
    ap (each_sector (λ sector. is_among (mid.settled sector) id)) submitted
    ∙ each_of (λ sector. is_among (mid.settled sector) id) bio tracked (λ sector covered.
    settled sector id k (omega arith) ends
    (both_hold (is_durable events id) (covers_at sector (slice_get events id))
    (both_hold (ended_ok events id)
    (submits has_fua (slice_get events id) || is_flushed events id) end
    (rw fua))
    (ap (covers_at sector) submitted ∙ covered))) in
    let flush : is_flush_submit (slice_get events id) ≡ true →
    list_all (settled_if_ended events mid) (before_submit id mid.calls) ≡ true = λ is_flush.
    ap (λ steps. list_all (settled_if_ended events mid) (before_submit id steps)) calls
    ∙ ap (list_all (settled_if_ended events mid)) (before_submit_at events k id bio less submitted)
    ∙ all_calls (settled_if_ended events mid) events id
    (λ place early. of_event place (slice_get events place) refl early is_flush end) in
    both_hold
    (has_landed events mid id
    && (not (submits has_fua (slice_get events id)) || has_settled events mid id))
    (not (is_flush_submit (slice_get events id))
    || list_all (settled_if_ended events mid) (before_submit id mid.calls))
    (both_hold (has_landed events mid id)
    (not (submits has_fua (slice_get events id)) || has_settled events mid id) all_landed
    (if_so (submits has_fua (slice_get events id)) (has_settled events mid id) of_fua))
    (if_so (is_flush_submit (slice_get events id))
    (list_all (settled_if_ended events mid) (before_submit id mid.calls)) flush)
  where
    -- the flush `id` makes such a request durable, and so `settled` applies to it
    of_end : (place other : ℕ) (good_one : Bool)
        → slice_get events place ≡ Some (core_events.Complete other good_one) → place < id
        → is_flush_submit (slice_get events id) ≡ true → ended_ok events id ≡ true
        → (not good_one || has_settled events mid other) ≡ true
    of_end place other false there early is_flush end = refl
    of_end place other true there early is_flush end =
        let ended = well_formed-end events place other true well_formed there in
        let before : is_before events other id ≡ true =
        rw ended.ends (lt-ltb place id early) in
        let flushed : is_flushed events other ≡ true =
        any_below-at (λ flush. is_flush_submit (slice_get events flush)
        && (ended_ok events flush && is_before events other flush)) (length events) id
        (slice_get-within events id (core_events.Submit bio) submitted)
        (both_hold (is_flush_submit (slice_get events id))
        (ended_ok events id && is_before events other id) is_flush
        (both_hold (ended_ok events id) (is_before events other id) end before)) in
        ap (each_sector (λ sector. is_among (mid.settled sector) other)) ended.submitted
        ∙ each_of (λ sector. is_among (mid.settled sector) other) ended.bio ended.tracked
        (λ sector covered.
        settled sector other place (omega arith) ended.ends
        (both_hold (is_durable events other) (covers_at sector (slice_get events other))
        (both_hold (ended_ok events other)
        (submits has_fua (slice_get events other) || is_flushed events other)
        (good_end events other place ended.ends there)
        (or_second (submits has_fua (slice_get events other))
        (is_flushed events other) flushed))
        (ap (covers_at sector) ended.submitted ∙ covered)))

    of_event : (place : ℕ) (event : Option CoreEvent) → slice_get events place ≡ event → place < id
        → is_flush_submit (slice_get events id) ≡ true → ended_ok events id ≡ true
        → list_all (settled_if_ended events mid) (event_step place event) ≡ true
    of_event place (Some (core_events.Submit other)) there early is_flush end = refl
    of_event place (Some (core_events.Complete other good_one)) there early is_flush end =
        grind (arith, of_end)
    of_event place other there early is_flush end = refl

ended_one : (events : List CoreEvent) (place a b : ℕ) (good fine : Bool)
    → slice_get events place ≡ Some (core_events.Complete a good)
    → slice_get events place ≡ Some (core_events.Complete b fine) → b ≡ a
ended_one events place a b good fine is other = ap id_of (sym other ∙ is)
  where
    id_of : Option CoreEvent → ℕ
    id_of (Some (core_events.Complete id ok)) = id
    id_of _ = 0

newest_among : (ids : List ℕ) (id : ℕ) → newest ids ≡ Some id → is_among ids id ≡ true
newest_among [] id is = cc
newest_among (first ∷ ids) id is = grind (arith, same_some, eq-eqb)

pub follow_end : (events : List CoreEvent) (wanted : ℕ → Option ℕ) (sure : ℕ → ℕ → Bool) (k : ℕ)
    (m : Machine) (id : ℕ) (ok : Bool)
    → is_well_formed events ≡ true → IsChoice events wanted sure
    → slice_get events k ≡ Some (core_events.Complete id ok) → AfterFirstEvents events wanted sure k m
    → (new : Machine) × StepsFrame events m
    (steps_of events wanted sure k (Some (core_events.Complete id ok))) new
    × AfterFirstEvents events wanted sure (suc k) new
follow_end events wanted sure k m id ok well_formed choice is before =
    let ended = well_formed-end events k id ok well_formed is in
    let bio = ended.bio in
    let earlier = ended.earlier in
    let known : list_any (is_submit id) m.calls ≡ true =
    ap (list_any (is_submit id)) before.calls
    ∙ any_call (is_submit id) events k id (Submit id) ended.earlier
    (ap (event_step id) ended.submitted) (eq-eqb id id refl) in
    let open_yet : list_any (is_end id) (calls_below events k) ≡ false =
    not_ended events k id well_formed
    (λ place less ends. absurd
    (let same = same_some place k (end_of events id) ends ended.ends in omega arith)) in
    let pending : is_pending m id ≡ true =
    both_hold (list_any (is_submit id) m.calls) (not (list_any (is_end id) m.calls)) known
    (grind (arith, before.calls, ap not open_yet)) in
    let lands : ℕ → Bool = λ sector. is_wanted (wanted sector) id in
    let settles : ℕ → Bool = λ sector. true in
    let touch =
    touch_all events m lands settles id bio ended.submitted ended.tracked before.on pending
    (λ sector covered goes. elim (bool_cases (is_among (m.landed sector) id)) [
      | inl there ↦
          clash (list_any (is_end id) (calls_below events k))
          (before.only_late sector id (is_wanted-some (wanted sector) id goes) there) open_yet
      | inr none ↦ none
    ]) in
    let mid = touch.0 in
    let t = touch.2 in
    let landed : ok ≡ true → (sector : ℕ) → covers bio sector ≡ true →
    is_among (mid.landed sector) id ≡ true = λ good sector covered.
    elim (bool_cases (is_wanted (wanted sector) id)) [
      | inl goes ↦
          grind (arith, lands_there, among_new)
      | inr other ↦
          grind (arith, more_landed, good_end)
    ] in
    let settled : (sector other place : ℕ) → place ≤ k → end_of events other ≡ Some place →
    is_kept events sector other ≡ true
    → is_among (mid.settled sector) other ≡ true = λ sector other place upto ends kept.
    let covered =
    (and_parts (is_durable events other) (covers_at sector (slice_get events other)) kept).1 in
    let there = end_found events other place ends in
    let less = there.later in
    elim (bool_cases (is_wanted (wanted sector) other)) [
      | inl goes ↦
          let chosen = is_wanted-some (wanted sector) other goes in
          elim (last_or_below place k (omega arith)) [
            | inl last ↦
                grind (arith, ended_one, settles_there, among_new)
            | inr below ↦
                let newest_is = before.late sector other chosen
                (any_call (is_end other) events k place (End other there.ok) below
                (ap (event_step place) there.event) (eq-eqb other other refl)) in
                let among = newest_among (m.settled sector) other newest_is in
                more_settled (covers bio) lands settles id m mid sector other t
                (before.within sector other among) among
          ]
      | inr stays ↦
          let durable =
          (and_parts (is_durable events other)
          (covers_at sector (slice_get events other)) kept).0 in
          let good = (and_parts (ended_ok events other)
          (submits has_fua (slice_get events other) || is_flushed events other) durable).0 in
          let among =
          before.early_sure sector other (omega arith) covered stays good
          (choice.kept sector other kept) in
          more_settled (covers bio) lands settles id m mid sector other t
          (before.early sector other (omega arith) covered stays good) among
    ] in
    let calls : mid.calls ≡ calls_below events k = t.calls ∙ before.calls in
    let may : has_step events mid (End id ok) ≡ true =
    ap (λ b. not b && (is_pending mid id && (not ok || may_succeed events mid id)))
    (t.off ∙ before.on)
    ∙ both_hold (is_pending mid id) (not ok || may_succeed events mid id)
    (grind (arith, t.calls)
    ∙ pending)
    (if_so ok (may_succeed events mid id)
    (may_end events mid k id ok bio well_formed is ended.submitted ended.tracked ended.earlier
    ended.ends calls landed settled)) in
    let new = machine_after mid (End id ok) in
    let longer : calls_below events (suc k) ≡ End id ok ∷ calls_below events k =
    grind (arith, is) in
    let still : (other : ℕ) → list_any (is_end other) (calls_below events k) ≡ true →
    list_any (is_end other) (calls_below events (suc k)) ≡ true =
    λ other there. ap (list_any (is_end other)) longer
    ∙ or_second (id == other) (list_any (is_end other) (calls_below events k)) there in
    let not_here : (sector other : ℕ) → other ≡ k →
    covers_at sector (slice_get events other) ≡ true → ⊥ =
    λ sector other same covered. clash (covers_at sector (slice_get events other)) covered
    (ap (covers_at sector) (ap (slice_get events) same ∙ is)) in (
      new,
      go_on events m mid new (by_sector (lands_late wanted id) (slice_get events id))
          (End id ok ∷ [])
          (subst (λ event. StepsFrame events m (by_sector (lands_late wanted id) event) mid)
          (sym ended.submitted) touch.1) (go_one events mid (End id ok) may),
      record {
        calls = grind (arith, calls, sym longer);
        on = t.off ∙ before.on;
        known = λ sector other among.
            elim (landed_from (covers bio) lands settles id m mid sector other t among) [
              | inl here ↦ let same = here.1 in omega arith
              | inr older ↦ let less = before.known sector other older in omega arith
            ];
        only_late = λ sector other chosen among.
            elim (landed_from (covers bio) lands settles id m mid sector other t among) [
              | inl here ↦
                  grind (arith, eq-eqb)
              | inr older ↦ still other (before.only_late sector other chosen older)
            ];
        within =
            λ sector other among. grind (arith, by_cases, and_parts, more_landed);
        early = λ sector other less covered stays good. elim (last_or_below other k less) [
          | inl same ↦ absurd (not_here sector other same covered)
          | inr below ↦
              more_landed (covers bio) lands settles id m mid sector other t
              (before.early sector other below covered stays good)
        ];
        early_sure =
            λ sector other less covered stays good needs. elim (last_or_below other k less) [
              | inl same ↦ absurd (not_here sector other same covered)
              | inr below ↦
                  more_settled (covers bio) lands settles id m mid sector other t
                  (before.early sector other below covered stays good)
                  (before.early_sure sector other below covered stays good needs)
            ];
        late = λ sector other chosen there.
            elim (or_cases (id == other) (list_any (is_end other) (calls_below events k))
            (sym (ap (list_any (is_end other)) longer) ∙ there)) [
              | inl same ↦
                  let one = eqb-true id other same in
                  let goes = wanted_is (wanted sector) id
                  (grind (arith, chosen, one)) in
                  let covered =
                  sym (ap (covers_at sector) ended.submitted)
                  ∙ choice.covers sector id (grind (arith, chosen, one)) in
                  ap newest (settles_there
                  (covers bio) lands settles id m mid sector t covered goes refl)
                  ∙ ap Some one
              | inr older ↦
                  ap newest (t.settled sector)
                  ∙ by_cases (λ ids. newest ids ≡ Some other)
                  (covers bio sector && (lands sector && settles sector)) id (m.landed sector)
                  (m.settled sector)
                  (λ both.
                  let goes =
                  (and_parts (lands sector) true
                  (and_parts (covers bio sector) (lands sector && settles sector) both).1).0 in
                  sym (is_wanted-some (wanted sector) id goes) ∙ chosen)
                  (λ fails. before.late sector other chosen older)
            ];
        bare = λ sector none.
            ap newest (t.settled sector)
            ∙ by_cases (λ ids. newest ids ≡ None)
            (covers bio sector && (lands sector && settles sector)) id (m.landed sector)
            (m.settled sector)
            (λ both.
            let goes =
            (and_parts (lands sector) true
            (and_parts (covers bio sector) (lands sector && settles sector) both).1).0 in
            clash (is_wanted (wanted sector) id) goes (none_wanted (wanted sector) id none))
            (λ fails. before.bare sector none);
      },
    )

pub follow_other : (events : List CoreEvent) (wanted : ℕ → Option ℕ) (sure : ℕ → ℕ → Bool) (k : ℕ)
    (m : Machine)
    → event_step k (slice_get events k) ≡ []
    → ((sector : ℕ) → covers_at sector (slice_get events k) ≡ false)
    → AfterFirstEvents events wanted sure k m → AfterFirstEvents events wanted sure (suc k) m
follow_other events wanted sure k m none uncovered before =
    let same : calls_below events (suc k) ≡ calls_below events k =
    rw none in
    let not_here : (sector id : ℕ) → id ≡ k → covers_at sector (slice_get events id) ≡ true → ⊥ =
    λ sector id is covered. clash (covers_at sector (slice_get events id)) covered
    (rw is (uncovered sector)) in
    record {
      calls = before.calls ∙ sym same;
      on = before.on;
      known = λ sector id among. let less = before.known sector id among in omega arith;
      only_late =
          λ sector id chosen among. ap (list_any (is_end id)) same
          ∙ before.only_late sector id chosen among;
      within = before.within;
      early = λ sector id less covered stays good. elim (last_or_below id k less) [
        | inl is ↦ absurd (not_here sector id is covered)
        | inr below ↦ before.early sector id below covered stays good
      ];
      early_sure = λ sector id less covered stays good needs. elim (last_or_below id k less) [
        | inl is ↦ absurd (not_here sector id is covered)
        | inr below ↦ before.early_sure sector id below covered stays good needs
      ];
      late =
          λ sector id chosen ended. before.late sector id chosen
          (sym (ap (list_any (is_end id)) same) ∙ ended);
      bare = before.bare;
    }

follow_event : (events : List CoreEvent) (wanted : ℕ → Option ℕ) (sure : ℕ → ℕ → Bool) (k : ℕ)
    (m : Machine) (event : Option CoreEvent)
    → is_well_formed events ≡ true → IsChoice events wanted sure → slice_get events k ≡ event
    → AfterFirstEvents events wanted sure k m
    → (new : Machine) × StepsFrame events m (steps_of events wanted sure k event) new
    × AfterFirstEvents events wanted sure (suc k) new
follow_event events wanted sure k m (Some (core_events.Submit bio)) well_formed choice is before =
    follow_submit events wanted sure k m bio well_formed choice is before
follow_event events wanted sure k m (Some (core_events.Complete id ok)) well_formed choice is
    before = follow_end events wanted sure k m id ok well_formed choice is before
follow_event events wanted sure k m other well_formed choice is before = (
  m,
  go_none events m,
  follow_other events wanted sure k m (ap (event_step k) is)
      (λ sector. ap (covers_at sector) is) before,
)

pub follow_all : (events : List CoreEvent) (wanted : ℕ → Option ℕ) (sure : ℕ → ℕ → Bool) (k : ℕ)
    → is_well_formed events ≡ true → IsChoice events wanted sure
    → (new : Machine) × StepsFrame events start
    (collect (λ place. steps_of events wanted sure place (slice_get events place)) k) new
    × AfterFirstEvents events wanted sure k new
follow_all events wanted sure zero well_formed choice = grind (arith, go_none, start_follows)
follow_all events wanted sure (suc k) well_formed choice =
    let front = follow_all events wanted sure k well_formed choice in
    let next =
    follow_event events wanted sure k front.0
    (slice_get events k) well_formed choice refl front.2 in (
      next.0,
      go_on events start front.0 next.0
          (collect (λ place. steps_of events wanted sure place (slice_get events place)) k)
          (steps_of events wanted sure k (slice_get events k)) front.1 next.1,
      next.2,
    )
