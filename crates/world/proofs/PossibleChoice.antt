-- The plan is a run that leaves the chosen content, so some run leaves each possible content.
use Rattle.std.proofs.Common.{Some, inr, ◌≡◌, ℕ, zero, suc, ◌^◌, ◌<◌, ◌≤◌, Bool, true, false, not}
use Rattle.std.proofs.Common.{◌&&◌, Option, arith, None, List, [], ◌∷◌, ◌++◌, length, refl, ap, sym}
use Rattle.std.proofs.Common.{◌∙◌, subst, inl}
use Rattle.std.specs.Prelude.{◌⊎◌, is_none, is_some, slice_get, unwrap_or}
use Rattle.std.proofs.lemmas.Bool.{and_parts, cases_lt, eq-eqb, le-leb, leb-true}
use Rattle.std.specs.List.{list_any}
use Rattle.bio.specs.Content.{Content}
use Rattle.bio.specs.declared.event.CoreEvent.{CoreEvent}
use Rattle.bio.specs.declared.event.CoreEvent.TheVariants as core_events
use Rattle.bio.specs.Events.{end_of, is_lawful, is_open_at, is_request, is_well_formed, is_within}
use Rattle.bio.specs.PlaceLaws.{all_below-each, any_below-at, bool_cases, is_open_at-open}
use Rattle.bio.specs.PlaceLaws.{last_or_below, option_cases, slice_get-within}
use Rattle.bio.specs.Places.{all_below, any_below, collect}
use Rattle.bio.specs.Possible.{Possible, PossibleAt, covers_at, has_kept, is_durable, is_kept}
use Rattle.bio.specs.Possible.{is_replaced, values_at}
use Rattle.bio.specs.RequestLaws.{covers-parts, event_within, submits_within, value_covers}
use Rattle.bio.specs.Requests.{covers}
use Rattle.judge.specs.Accounts.{IsAccount, is_held_from, last_below, place_at}
use Rattle.judge.specs.declared.accounts.Account.{Account}
use Rattle.judge.specs.Laws.{any_below-last, held-parts, held_somewhere, kept_within}
use Rattle.judge.specs.Laws.{last_below-found, none_passes, value-within}
use Rattle.world.proofs.Calls.{any_call, clash}
use Rattle.world.proofs.EventSteps.{AfterFirstEvents, follow_all, is_wanted-some, not_ended}
use Rattle.world.proofs.RunIsPossible.{end_found, submits_some}
use Rattle.world.proofs.SectorSteps.{StepsFrame, by_cases, by_test, go_none, go_on, go_one}
use Rattle.world.proofs.SectorSteps.{landed_from, settles_there, touch_all}
use Rattle.world.specs.declared.step.Step.{Step}
use Rattle.world.specs.declared.step.Step.TheVariants.{Submit, End, Power}
use Rattle.world.specs.inside.{EndsFit, IsChoice, by_sector, is_upto, is_wanted, lands_late, plan}
use Rattle.world.specs.inside.{steps_left, steps_of, sure_by}
use Rattle.world.specs.Machine.{IsReachable, Leaves, Machine, machine_after, event_step, calls_below, has_step}
use Rattle.world.specs.Machine.{is_among, is_end, is_pending, is_submit, newest, start}
use Rattle.world.specs.Machine.{values_of_id}

-- `m` is the machine after the plan's steps for all events, and for the open requests below `j`. A
-- wanted request has landed only if it has ended or is below `j`; it is then the newest that is
-- settled in its sector.
pub record AfterAllEvents (events : List CoreEvent) (wanted : ℕ → Option ℕ) (j : ℕ)
    (m : Machine) : Type 0 where
  pub calls : m.calls ≡ calls_below events (length events)
  pub on : m.off ≡ false
  pub waits : (sector id : ℕ) → wanted sector ≡ Some id → is_open_at events id ≡ true → j ≤ id
      → is_among (m.landed sector) id ≡ false
  pub done : (sector id : ℕ) → wanted sector ≡ Some id → (is_open_at events id ≡ false) ⊎ (id < j)
      → newest (m.settled sector) ≡ Some id
  pub bare : (sector : ℕ) → wanted sector ≡ None → newest (m.settled sector) ≡ None

open_endless : (events : List CoreEvent) (id : ℕ) → is_well_formed events ≡ true
    → is_open_at events id ≡ true
    → list_any (is_end id) (calls_below events (length events)) ≡ false
open_endless events id well_formed is_open =
    let there = is_open_at-open events id is_open in
    not_ended events (length events) id well_formed
    (λ place less ends. absurd
    (let contra : None ≡ Some place = sym there.endless ∙ ends in cc))

ended_called : (events : List CoreEvent) (id : ℕ) → is_request (slice_get events id) ≡ true
    → is_open_at events id ≡ false
    → list_any (is_end id) (calls_below events (length events)) ≡ true
ended_called events id request is_ended = elim (option_cases (end_of events id)) [
  | inl none ↦
      clash (is_open_at events id)
      (rw request (ap is_none none)) is_ended
  | inr some ↦
      let end = end_found events id some.0 some.1 in
      any_call (is_end id) events (length events) some.0 (End id end.ok) end.within
      (ap (event_step some.0) end.event) (eq-eqb id id refl)
]

covers_request : (event : Option CoreEvent) (sector : ℕ) → covers_at sector event ≡ true
    → is_request event ≡ true
covers_request (Some (core_events.Submit bio)) sector covered = (covers-parts bio sector covered).0
covers_request other sector covered = cc

begin_finish : (events : List CoreEvent) (wanted : ℕ → Option ℕ) (sure : ℕ → ℕ → Bool) (m : Machine)
    → is_well_formed events ≡ true
    → IsChoice events wanted sure → AfterFirstEvents events wanted sure (length events) m
    → AfterAllEvents events wanted zero m
begin_finish events wanted sure m well_formed choice before = record {
  calls = before.calls;
  on = before.on;
  waits = λ sector id chosen is_open upto. elim (bool_cases (is_among (m.landed sector) id)) [
    | inl there ↦
        clash (list_any (is_end id) (calls_below events (length events)))
        (before.only_late sector id chosen there) (open_endless events id well_formed is_open)
    | inr none ↦ none
  ];
  done = λ sector id chosen which. elim which [
    | inl is_ended ↦
        let request =
        covers_request (slice_get events id) sector (choice.covers sector id chosen) in
        before.late sector id chosen (ended_called events id request is_ended)
    | inr less ↦ absurd (omega arith)
  ];
  bare = before.bare;
}

finish_open : (events : List CoreEvent) (wanted : ℕ → Option ℕ) (sure : ℕ → ℕ → Bool) (j : ℕ)
    (m : Machine) → is_well_formed events ≡ true
    → IsChoice events wanted sure → is_open_at events j ≡ true → AfterAllEvents events wanted j m
    → (new : Machine) × StepsFrame events m
    (by_sector (lands_late wanted j) (slice_get events j)) new × AfterAllEvents events wanted (suc j) new
finish_open events wanted sure j m well_formed choice is_open before =
    let there = is_open_at-open events j is_open in
    let bio = there.bio in
    let pending : is_pending m j ≡ true =
    grind (arith, before.calls)
    ∙ ap (λ b. b && not (list_any (is_end j) (calls_below events (length events))))
    (any_call (is_submit j) events (length events) j (Submit j) there.within
    (ap (event_step j) there.submitted) (eq-eqb j j refl))
    ∙ ap not (open_endless events j well_formed is_open) in
    let lands : ℕ → Bool = λ sector. is_wanted (wanted sector) j in
    let settles : ℕ → Bool = λ sector. true in
    let touch =
    touch_all events m lands settles j bio there.submitted there.tracked before.on pending
    (λ sector covered goes. before.waits sector j (is_wanted-some (wanted sector) j goes) is_open
    (omega arith)) in
    let new = touch.0 in
    let t = touch.2 in (
      new,
      subst (λ event. StepsFrame events m (by_sector (lands_late wanted j) event) new)
          (sym there.submitted) touch.1,
      record {
        calls = t.calls ∙ before.calls;
        on = t.off ∙ before.on;
        waits =
            λ sector id chosen open_too upto. elim (bool_cases (is_among (new.landed sector) id)) [
              | inr none ↦ none
              | inl among ↦
                  elim (landed_from (covers bio) lands settles j m new sector id t among) [
                    | inl here ↦ absurd (let same = here.1 in omega arith)
                    | inr older ↦
                        grind (arith, clash)
                  ]
            ];
        done = λ sector id chosen which.
            elim (bool_cases (covers bio sector && (lands sector && settles sector))) [
              | inl both ↦
                  let parts = and_parts (covers bio sector) (lands sector && settles sector) both in
                  let goes = (and_parts (lands sector) true parts.1).0 in
                  let one = is_wanted-some (wanted sector) j goes in
                  ap newest (settles_there
                  (covers bio) lands settles j m new sector t parts.0 goes refl) ∙ sym one ∙ chosen
              | inr stays ↦
                  let same : newest (new.settled sector) ≡ newest (m.settled sector) =
                  ap newest (t.settled sector
                  ∙ ap (λ b. by_test b j (m.landed sector) (m.settled sector)) stays) in
                  same ∙ before.done sector id chosen (elim which [
                    | inl is_ended ↦ inl is_ended
                    | inr less ↦ elim (last_or_below id j less) [
                      | inl is ↦
                          let picked : wanted sector ≡ Some j =
                          grind (arith, chosen, is) in
                          let covered =
                          sym (ap (covers_at sector) there.submitted)
                          ∙ choice.covers sector j picked in
                          let goes : lands sector ≡ true =
                          grind (arith, picked, eq-eqb j j refl) in
                          clash (covers bio sector && (lands sector && settles sector))
                          (grind (arith, covered)
                          ∙ ap (λ b. b && true) goes) stays
                      | inr below ↦ inr below
                    ]
                  ])
            ];
        bare = λ sector none.
            ap newest (t.settled sector)
            ∙ by_cases (λ ids. newest ids ≡ None)
            (covers bio sector && (lands sector && settles sector)) j (m.landed sector)
            (m.settled sector)
            (λ both.
            let goes =
            (and_parts (lands sector) true
            (and_parts (covers bio sector) (lands sector && settles sector) both).1).0 in
            absurd (let contra : None ≡ Some j = sym none ∙ is_wanted-some (wanted sector) j goes in
            cc))
            (λ fails. before.bare sector none);
      },
    )

finish_ended : (events : List CoreEvent) (wanted : ℕ → Option ℕ) (j : ℕ) (m : Machine)
    → is_open_at events j ≡ false → AfterAllEvents events wanted j m
    → AfterAllEvents events wanted (suc j) m
finish_ended events wanted j m is_ended before = record {
  calls = before.calls;
  on = before.on;
  waits = λ sector id chosen is_open upto. before.waits sector id chosen is_open (omega arith);
  done = λ sector id chosen which. before.done sector id chosen (elim which [
    | inl over ↦ inl over
    | inr less ↦
        elim (last_or_below id j less) [
          | inl is ↦ inl (ap (is_open_at events) is ∙ is_ended)
          | inr below ↦ inr below
        ]
  ]);
  bare = before.bare;
}

finish_all : (events : List CoreEvent) (wanted : ℕ → Option ℕ) (sure : ℕ → ℕ → Bool) (m : Machine)
    (j : ℕ) → is_well_formed events ≡ true
    → IsChoice events wanted sure → AfterAllEvents events wanted zero m
    → (new : Machine) × StepsFrame events m (collect (steps_left events wanted) j) new
    × AfterAllEvents events wanted j new
finish_all events wanted sure m zero well_formed choice before = (m, go_none events m, before)
finish_all events wanted sure m (suc j) well_formed choice before =
    let front = finish_all events wanted sure m j well_formed choice before in
    let next = step front.0 front.2 (bool_cases (is_open_at events j)) in (
      next.0,
      go_on events m front.0 next.0 (collect (steps_left events wanted) j)
          (steps_left events wanted j) front.1 next.1,
      next.2,
    )
  where
    step : (mid : Machine) → AfterAllEvents events wanted j mid
        → (is_open_at events j ≡ true) ⊎ (is_open_at events j ≡ false)
        → (new : Machine) × StepsFrame events mid (steps_left events wanted j) new
        × AfterAllEvents events wanted (suc j) new
    step mid finishes (inl is_open) =
        grind (arith, finish_open events wanted sure j mid well_formed choice is_open finishes)
    step mid finishes (inr is_ended) =
        grind (arith, go_none events mid, finish_ended events wanted j mid is_ended finishes)

newest_wanted : (events : List CoreEvent) (wanted : ℕ → Option ℕ) (m : Machine) (sector : ℕ)
    → AfterAllEvents events wanted (length events) m
    → ((id : ℕ) → wanted sector ≡ Some id → id < length events)
    → newest (m.settled sector) ≡ wanted sector
newest_wanted events wanted m sector finishes among = elim (option_cases (wanted sector)) [
  | inl none ↦ finishes.bare sector none ∙ sym none
  | inr some ↦ finishes.done sector some.0 some.1 (inr (among some.0 some.1)) ∙ sym some.1
]

pub plan_leaves : (events : List CoreEvent) (first now : Content) (wanted : ℕ → Option ℕ)
    (sure : ℕ → ℕ → Bool) → is_well_formed events ≡ true
    → IsChoice events wanted sure
    → ((sector : ℕ) → unwrap_or (values_of_id events (wanted sector) sector) (first sector)
    ≡ now sector)
    → Leaves events first (plan events wanted sure) now
plan_leaves events first now wanted sure well_formed choice values =
    let front = follow_all events wanted sure (length events) well_formed choice in
    let rest =
    finish_all events wanted sure front.0 (length events) well_formed choice
    (begin_finish events wanted sure front.0 well_formed choice front.2) in
    let last = rest.0 in
    let finishes = rest.2 in
    let power : has_step events last Power ≡ true = grind (arith, finishes.on) in
    let all =
    go_on events start front.0 (machine_after last Power)
    (collect (λ place. steps_of events wanted sure place (slice_get events place))
    (length events))
    (collect (steps_left events wanted) (length events) ++ Power ∷ []) front.1
    (go_on events front.0 last (machine_after last Power)
    (collect (steps_left events wanted) (length events)) (Power ∷ []) rest.1
    (go_one events last Power power)) in
    record {
      runs = all.runs;
      fits = grind (arith, all.ends, finishes.calls);
      off = grind (arith, all.ends);
      left = λ sector.
          ap (λ (m : Machine). unwrap_or (values_of_id events (newest (m.settled sector)) sector)
          (first sector)) all.ends
          ∙ ap (λ (o : Option ℕ). unwrap_or (values_of_id events o sector) (first sector))
          (newest_wanted events wanted last sector finishes (λ id chosen.
          let request =
          submits_some (λ bio. covers bio sector) (slice_get events id)
          (choice.covers sector id chosen) in
          slice_get-within events id (core_events.Submit request.0) request.1))
          ∙ values sector;
    }

pub each_within : (sectors : ℕ) (events : List CoreEvent) (id : ℕ) → is_lawful sectors events ≡ true
    → id < length events → is_within sectors (slice_get events id) ≡ true
each_within sectors events id lawful within =
    let test : ℕ → Bool = λ place. is_within sectors (slice_get events place) in
    all_below-each test (length events)
    (and_parts (is_well_formed events) (all_below test (length events)) lawful).1 id within

pub lawful_ends : (sectors : ℕ) (events : List CoreEvent) → is_lawful sectors events ≡ true
    → sectors < 2 ^ 64 → EndsFit events
lawful_ends sectors events lawful small = λ id bio is.
    let within =
    each_within sectors events id lawful
    (slice_get-within events id (core_events.Submit bio) is) in
    let most = submits_within bio sectors (ap (is_within sectors) (sym is) ∙ within) in
    omega arith

past_end : (places : List (Option ℕ)) (index : ℕ) → length places ≤ index
    → place_at places index ≡ None
past_end (place ∷ places) zero h = absurd (omega arith)
past_end (place ∷ places) (suc index) h = past_end places index (omega arith)
past_end [] other h = refl

place_within : (places : List (Option ℕ)) (index place : ℕ) → place_at places index ≡ Some place
    → index < length places
place_within places index place is = grind (arith, cases_lt, past_end)

held_is : (sectors : ℕ) (events : List CoreEvent) (now : Content) (account : Account)
    (sector id : ℕ) → IsAccount events now sectors account
    → place_at account.held.items sector ≡ Some id
    → (values_at (slice_get events id) sector ≡ Some (now sector))
    × (is_replaced events sector id ≡ false)
held_is sectors events now account sector id told is =
    grind (arith, place_within, last_below-found, held-parts)

none_held : (sectors : ℕ) (events : List CoreEvent) (first now : Content) (account : Account)
    (sector : ℕ) → is_lawful sectors events ≡ true
    → Possible events first now → IsAccount events now sectors account
    → place_at account.held.items sector ≡ None
    → (now sector ≡ first sector) × (has_kept events sector ≡ false)
none_held sectors events first now account sector lawful possible told none =
    elim (possible sector) [
      | inl same ↦ same
      | inr from ↦ elim (cases_lt sector sectors) [
        | inl within ↦
            let some = held_somewhere events now sector from.0 from.1 from.2 in
            let last = any_below-last (is_held_from events now sector) (length events) in
            absurd (let contra : true ≡ false = sym some ∙ last
            ∙ ap is_some (sym (told.held sector within) ∙ none) in cc)
        | inr past ↦
            let covers = value_covers (slice_get events from.0) sector (now sector) from.1 in
            clash (covers_at sector (slice_get events from.0)) covers
            (event_within (slice_get events from.0) sectors sector
            (each_within sectors events from.0 lawful
            (value-within events sector from.0 (now sector) from.1)) past)
      ]
    ]

kept_upto : (sectors : ℕ) (events : List CoreEvent) (now : Content) (account : Account)
    (sector id : ℕ) → is_lawful sectors events ≡ true
    → IsAccount events now sectors account → is_kept events sector id ≡ true
    → sure_by account.last.items id sector ≡ true
kept_upto sectors events now account sector id lawful told kept =
    let among = kept_within events sector id kept in
    let covers =
    (and_parts (is_durable events id) (covers_at sector (slice_get events id)) kept).1 in
    elim (cases_lt sector sectors) [
      | inr past ↦
          clash (covers_at sector (slice_get events id)) covers
          (event_within (slice_get events id) sectors sector
          (each_within sectors events id lawful among) past)
      | inl within ↦ elim (option_cases (last_below (is_kept events sector) (length events))) [
        | inl none ↦
            clash (any_below (is_kept events sector) (length events))
            (any_below-at (is_kept events sector) (length events) id among kept)
            (none_passes (is_kept events sector) (length events) none)
        | inr some ↦
            let found = last_below-found (is_kept events sector) (length events) some.0 some.1 in
            ap (is_upto id) (told.last sector within ∙ some.1)
            ∙ le-leb id some.0 (found.last id among kept)
      ]
    ]

upto_kept : (sectors : ℕ) (events : List CoreEvent) (now : Content) (account : Account)
    (sector id : ℕ) → IsAccount events now sectors account
    → sure_by account.last.items id sector ≡ true
    → (later : ℕ) × (id ≤ later) × (is_kept events sector later ≡ true)
upto_kept sectors events now account sector id told needs =
    elim (option_cases (place_at account.last.items sector)) [
      | inl none ↦ clash (sure_by account.last.items id sector) needs (ap (is_upto id) none)
      | inr some ↦
          let size = told.last_size in
          let within = place_within account.last.items sector some.0 some.1 in
          let found =
          last_below-found (is_kept events sector) (length events) some.0
          (sym (told.last sector (omega arith)) ∙ some.1) in
          (some.0, leb-true id some.0 (sym (ap (is_upto id) some.1) ∙ needs), found.here)
    ]

account_choice : (sectors : ℕ) (events : List CoreEvent) (first now : Content) (account : Account)
    → is_lawful sectors events ≡ true
    → Possible events first now → IsAccount events now sectors account
    → IsChoice events (place_at account.held.items) (sure_by account.last.items)
account_choice sectors events first now account lawful possible told = record {
  covers =
      λ sector id is. value_covers (slice_get events id) sector (now sector)
      (held_is sectors events now account sector id told is).0;
  stays = λ sector id is. (held_is sectors events now account sector id told is).1;
  bare =
      λ sector none. (none_held sectors events first now account sector lawful possible told
      none).1;
  kept = λ sector id kept. kept_upto sectors events now account sector id lawful told kept;
  before = λ sector id needs. upto_kept sectors events now account sector id told needs;
}

account_values : (sectors : ℕ) (events : List CoreEvent) (first now : Content) (account : Account)
    (sector : ℕ) → is_lawful sectors events ≡ true
    → Possible events first now → IsAccount events now sectors account
    → unwrap_or (values_of_id events (place_at account.held.items sector) sector) (first sector)
    ≡ now sector
account_values sectors events first now account sector lawful possible told =
    elim (option_cases (place_at account.held.items sector)) [
      | inl none ↦
          grind (arith, none_held sectors events first now account sector lawful possible told none)
      | inr some ↦
          grind (arith, held_is sectors events now account sector some.0 told some.1)
    ]

pub account_leaves : (sectors : ℕ) (events : List CoreEvent) (first now : Content)
    (account : Account) (run : List Step) → is_lawful sectors events ≡ true
    → Possible events first now → IsAccount events now sectors account
    → run ≡ plan events (place_at account.held.items) (sure_by account.last.items)
    → Leaves events first run now
account_leaves sectors events first now account run lawful possible told is =
    subst (λ steps. Leaves events first steps now) (sym is)
    (plan_leaves events first now (place_at account.held.items) (sure_by account.last.items)
    (and_parts (is_well_formed events)
    (all_below (λ place. is_within sectors (slice_get events place)) (length events)) lawful).0
    (account_choice sectors events first now account lawful possible told)
    (λ sector. account_values sectors events first now account sector lawful possible told))

-- the request that the proof of `PossibleAt` gives for the sector; none for the first value
abbrev pub chosen : (events : List CoreEvent) (first now : Content) (sector : ℕ)
    → PossibleAt events first now sector → Option ℕ
chosen events first now sector (inl same) = None
chosen events first now sector (inr from) = Some from.0

chosen_covers : (events : List CoreEvent) (first now : Content) (sector : ℕ)
    (why : PossibleAt events first now sector) (id : ℕ)
    → chosen events first now sector why ≡ Some id
    → covers_at sector (slice_get events id) ≡ true
chosen_covers events first now sector (inl same) id is = cc
chosen_covers events first now sector (inr from) id is = grind (arith, value_covers)

chosen_stays : (events : List CoreEvent) (first now : Content) (sector : ℕ)
    (why : PossibleAt events first now sector) (id : ℕ)
    → chosen events first now sector why ≡ Some id
    → is_replaced events sector id ≡ false
chosen_stays events first now sector (inl same) id is = cc
chosen_stays events first now sector (inr from) id is = grind arith

chosen_bare : (events : List CoreEvent) (first now : Content) (sector : ℕ)
    (why : PossibleAt events first now sector) → chosen events first now sector why ≡ None
    → has_kept events sector ≡ false
chosen_bare events first now sector (inl same) is = same.1
chosen_bare events first now sector (inr from) is = cc

chosen_value : (events : List CoreEvent) (first now : Content) (sector : ℕ)
    (why : PossibleAt events first now sector)
    → unwrap_or (values_of_id events (chosen events first now sector why) sector) (first sector)
    ≡ now sector
chosen_value events first now sector (inl same) = sym same.0
chosen_value events first now sector (inr from) = grind arith

pub possible_reachable : (events : List CoreEvent) (first now : Content)
    → is_well_formed events ≡ true → Possible events first now → IsReachable events first now
possible_reachable events first now well_formed possible =
    let wanted : ℕ → Option ℕ = λ sector. chosen events first now sector (possible sector) in
    let sure : ℕ → ℕ → Bool = λ id sector. is_kept events sector id in
    let choice : IsChoice events wanted sure = record {
      covers = λ sector id is. chosen_covers events first now sector (possible sector) id is;
      stays = λ sector id is. chosen_stays events first now sector (possible sector) id is;
      bare = λ sector is. chosen_bare events first now sector (possible sector) is;
      kept = λ sector id kept. kept;
      before = λ sector id needs. (id, omega arith, needs);
    } in (
      plan events wanted sure,
      plan_leaves events first now wanted sure well_formed choice
          (λ sector. chosen_value events first now sector (possible sector)),
    )
