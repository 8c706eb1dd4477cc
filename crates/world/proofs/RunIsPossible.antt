-- A machine is sound after any steps, and so a run leaves only contents that the device could hold.
use Rattle.std.proofs.Common.{List, [], ◌∷◌, length, refl, ap, sym, ◌∙◌, inl, inr, arith, ◌≡◌, ℕ}
use Rattle.std.proofs.Common.{◌==◌, ◌<◌, Bool, true, false, not, ◌&&◌, ◌||◌, Option, Some}
use Rattle.std.specs.Prelude.{◌⊎◌, slice_get}
use Rattle.std.proofs.lemmas.Bool.{and_parts, eq-eqb, eqb-true, ltb-true}
use Rattle.std.specs.List.{list_all, list_any}
use Rattle.bio.specs.Content.{Content}
use Rattle.bio.specs.declared.event.CoreEvent.{CoreEvent}
use Rattle.bio.specs.declared.event.CoreEvent.TheVariants as core_events
use Rattle.bio.specs.declared.request.Bio.{Bio}
use Rattle.bio.specs.Events.{end_of, is_before, is_below, is_end_of, is_flush_submit, is_request}
use Rattle.bio.specs.Events.{submits}
use Rattle.bio.specs.PlaceLaws.{any_below-none, any_below-some, bool_cases, differ-eqb}
use Rattle.bio.specs.PlaceLaws.{first_below-found, option_cases, or_cases, or_second}
use Rattle.bio.specs.PlaceLaws.{slice_get-within}
use Rattle.bio.specs.Possible.{Possible, PossibleAt, covers_at, ended_ok, has_kept, is_durable}
use Rattle.bio.specs.Possible.{is_flushed, is_kept, is_replaced, is_success_at}
use Rattle.bio.specs.RequestLaws.{covered_value}
use Rattle.bio.specs.Requests.{covers, has_fua}
use Rattle.world.proofs.Calls.{among_more, among_new, any_call, any_weaker}
use Rattle.world.proofs.Calls.{calls_before, came_before, came_early, clash, each_covered, good_end}
use Rattle.world.proofs.Calls.{is_good_end, not_true, with_cases}
use Rattle.world.specs.declared.step.Step.{Step}
use Rattle.world.specs.declared.step.Step.TheVariants.{Submit, Land, Destage, End, Power}
use Rattle.world.specs.Machine.{IsReachable, Machine, machine_after, before_submit, event_step, calls_below}
use Rattle.world.specs.Machine.{durable, has_landed, has_settled, has_step, is_among, is_end}
use Rattle.world.specs.Machine.{is_pending, is_run, is_submit, may_succeed, may_take, newest}
use Rattle.world.specs.Machine.{settled_if_ended, start, taken}

abbrev pub is_not_newest : ℕ → List ℕ → Bool
is_not_newest id [] = true
is_not_newest id (other ∷ ids) = not (other == id)

-- Only submitted requests end or land, and they land only on sectors that they cover. What is
-- settled has landed, and what ended durably is settled (`fua`, `flushed`). If `later` was
-- submitted after the end of `id` and is in a sector's list, `id` isn't the newest there.
pub record IsSoundMachine (events : List CoreEvent) (m : Machine) : Type 0 where
  pub ended : (id : ℕ) → list_any (is_end id) m.calls ≡ true
      → list_any (is_submit id) m.calls ≡ true
  pub submitted : (sector id : ℕ) → is_among (m.landed sector) id ≡ true
      → list_any (is_submit id) m.calls ≡ true
  pub covers : (sector id : ℕ) → is_among (m.landed sector) id ≡ true
      → covers_at sector (slice_get events id) ≡ true
  pub settled : (sector id : ℕ) → is_among (m.settled sector) id ≡ true
      → is_among (m.landed sector) id ≡ true
  pub fua : (sector id : ℕ) → list_any (is_good_end id) m.calls ≡ true
      → submits has_fua (slice_get events id) ≡ true
      → covers_at sector (slice_get events id) ≡ true → is_among (m.settled sector) id ≡ true
  pub flushed : (sector id flush : ℕ) → list_any (is_good_end flush) m.calls ≡ true
      → is_flush_submit (slice_get events flush) ≡ true
      → came_before (is_good_end id) (is_submit flush) m.calls ≡ true
      → covers_at sector (slice_get events id) ≡ true
      → is_among (m.settled sector) id ≡ true
  pub landed_later : (sector id later : ℕ)
      → came_before (is_end id) (is_submit later) m.calls ≡ true
      → is_among (m.landed sector) later ≡ true → is_not_newest id (m.landed sector) ≡ true
  pub settled_later : (sector id later : ℕ)
      → came_before (is_end id) (is_submit later) m.calls ≡ true
      → is_among (m.settled sector) later ≡ true → is_not_newest id (m.settled sector) ≡ true

pub start_sound : (events : List CoreEvent) → IsSoundMachine events start
start_sound events = record {
  ended = λ id h. h;
  submitted = λ sector id h. cc;
  covers = λ sector id h. cc;
  settled = λ sector id h. h;
  fua = λ sector id h fua covers. cc;
  flushed = λ sector id flush h is_flush came covers. cc;
  landed_later = λ sector id later came h. refl;
  settled_later = λ sector id later came h. refl;
}

came_new : (early : Step → Bool) (later id : ℕ) (calls : List Step)
    → list_any (is_submit later) calls ≡ true → not (list_any (is_submit id) calls) ≡ true
    → came_before early (is_submit later) (Submit id ∷ calls) ≡ true
    → came_before early (is_submit later) calls ≡ true
came_new early later id calls known new h =
    elim (or_cases (id == later && list_any early calls)
    (came_before early (is_submit later) calls) h) [
      | inl here ↦
          grind (arith, eqb-true, and_parts, clash, not_true)
      | inr there ↦ there
    ]

submit_keeps : (events : List CoreEvent) (m : Machine) (id : ℕ) → IsSoundMachine events m
    → not (list_any (is_submit id) m.calls) ≡ true
    → IsSoundMachine events (machine_after m (Submit id))
submit_keeps events m id sound new = record {
  ended =
      λ other h. or_second (id == other) (list_any (is_submit other) m.calls) (sound.ended other h);
  submitted =
      λ sector other h. grind (arith, or_second);
  covers = sound.covers;
  settled = sound.settled;
  fua = sound.fua;
  flushed = λ sector other flush good is_flush came covers.
      let known =
      sound.ended flush (any_weaker (is_good_end flush) (is_end flush)
      (good_end flush) m.calls good) in
      sound.flushed sector other flush good is_flush
      (came_new (is_good_end other) flush id m.calls known new came) covers;
  landed_later = λ sector other later came among.
      grind (arith, came_new);
  settled_later = λ sector other later came among.
      grind (arith, came_new);
}

land_keeps : (events : List CoreEvent) (m : Machine) (id sector : ℕ) → IsSoundMachine events m
    → is_pending m id ≡ true
    → covers_at sector (slice_get events id) ≡ true → IsSoundMachine events (machine_after m (Land id sector))
land_keeps events m id sector sound pending covered =
    let parts = and_parts (list_any (is_submit id) m.calls)
    (not (list_any (is_end id) m.calls)) pending in
    let open_yet = not_true (list_any (is_end id) m.calls) parts.1 in
    record {
      ended = sound.ended;
      submitted =
          λ at other h. grind (arith, with_cases, true, or_cases, eqb-true);
      covers =
          λ at other h. grind (arith, with_cases, true, or_cases, eqb-true);
      settled =
          λ at other h. grind (arith, with_cases, true, among_more);
      fua = sound.fua;
      flushed = sound.flushed;
      landed_later =
          λ at other later came h. grind (
            arith,
            with_cases,
            true,
            not,
            differ-eqb,
            clash,
            came_early,
          );
      settled_later = sound.settled_later;
    }

destage_keeps : (events : List CoreEvent) (m : Machine) (sector : ℕ) → IsSoundMachine events m
    → IsSoundMachine events (machine_after m (Destage sector))
destage_keeps events m sector sound = record {
  ended = sound.ended;
  submitted = sound.submitted;
  covers = sound.covers;
  settled =
      λ at id h. grind (arith, with_cases, true);
  fua =
      λ at id good fua covered. grind (arith, with_cases, true);
  flushed =
      λ at id flush good is_flush came covered. grind (arith, with_cases, true);
  landed_later = sound.landed_later;
  settled_later =
      λ at id later came h. grind (arith, with_cases, true);
}

-- `before_submit` takes the newest submission of `id`, so it has the calls before older ones too
came_submit : (early : Step → Bool) (id : ℕ) (calls : List Step)
    → came_before early (is_submit id) calls ≡ true → list_any early (before_submit id calls) ≡ true
came_submit early id [] h = cc
came_submit early id (call ∷ calls) h = elim (bool_cases (is_submit id call)) [
  | inl here ↦
      grind (arith, or_cases, and_parts, came_early)
  | inr other ↦
      rw other (came_submit early id calls (sym (grind (arith, other)) ∙ h))
]

good_settled : (events : List CoreEvent) (m : Machine) (id : ℕ) (steps : List Step)
    → list_all (settled_if_ended events m) steps ≡ true
    → list_any (is_good_end id) steps ≡ true → has_settled events m id ≡ true
good_settled events m id [] all good = cc
good_settled events m id (step ∷ steps) all good =
    let parts =
    and_parts (settled_if_ended events m step)
    (list_all (settled_if_ended events m) steps) all in
    elim (or_cases (is_good_end id step) (list_any (is_good_end id) steps) good) [
      | inl here ↦ of_step step parts.0 here
      | inr there ↦ good_settled events m id steps parts.1 there
    ]
  where
    of_end : (ended : ℕ) (ok : Bool) → (not ok || has_settled events m ended) ≡ true
        → (ended == id) ≡ true → ok ≡ true → has_settled events m id ≡ true
    of_end ended true passes is good = cc (eqb-true ended id is)
    of_end ended false passes is good = cc

    of_step : (step : Step) → settled_if_ended events m step ≡ true → is_good_end id step ≡ true
        → has_settled events m id ≡ true
    of_step (End ended ok) passes good =
        let both = and_parts (ended == id) ok good in of_end ended ok passes both.0 both.1
    of_step rest passes good = cc

other_way : (a b : Bool) → (not a || b) ≡ true → a ≡ true → b ≡ true
other_way true b h is = h
other_way false b h is = cc

end_keeps : (events : List CoreEvent) (m : Machine) (id : ℕ) (ok : Bool) → IsSoundMachine events m
    → is_pending m id ≡ true
    → (not ok || may_succeed events m id) ≡ true → IsSoundMachine events (machine_after m (End id ok))
end_keeps events m id ok sound pending may =
    let parts = and_parts (list_any (is_submit id) m.calls)
    (not (list_any (is_end id) m.calls)) pending in
    let landed = has_landed events m id in
    let fua = not (submits has_fua (slice_get events id)) || has_settled events m id in
    let flush =
    not (is_flush_submit (slice_get events id))
    || list_all (settled_if_ended events m) (before_submit id m.calls) in
    let of_fua : ok ≡ true →
    fua ≡ true = λ good.
    (and_parts landed fua
    (and_parts (landed && fua) flush
    (other_way ok (landed && fua && flush) may good)).0).1 in
    let of_flush : ok ≡ true → flush ≡ true =
    λ good. grind (arith, and_parts, other_way) in
    record {
      ended = λ other h. elim (or_cases (id == other) (list_any (is_end other) m.calls) h) [
        | inl same ↦
            grind (arith, eqb-true id other same, parts.0)
        | inr older ↦ sound.ended other older
      ];
      submitted = sound.submitted;
      covers = sound.covers;
      settled = sound.settled;
      fua = λ sector other good is_fua covered.
          elim (or_cases (id == other && ok) (list_any (is_good_end other) m.calls) good) [
            | inl here ↦
                let both = and_parts (id == other) ok here in
                let same = eqb-true id other both.0 in
                let all =
                other_way (submits has_fua (slice_get events id)) (has_settled events m id)
                (of_fua both.1)
                (rw same is_fua) in
                each_covered (λ at. is_among (m.settled at) other) (slice_get events other) sector
                (ap (has_settled events m) (sym same) ∙ all) covered
            | inr older ↦ sound.fua sector other older is_fua covered
          ];
      flushed = λ sector other late good is_flush came covered.
          elim (or_cases (id == late && ok) (list_any (is_good_end late) m.calls) good) [
            | inl here ↦
                let both = and_parts (id == late) ok here in
                let same = eqb-true id late both.0 in
                let all =
                other_way (is_flush_submit (slice_get events id))
                (list_all (settled_if_ended events m) (before_submit id m.calls))
                (of_flush both.1)
                (rw same is_flush) in
                let ended =
                came_submit (is_good_end other) id m.calls
                (rw same came) in
                each_covered (λ at. is_among (m.settled at) other) (slice_get events other) sector
                (good_settled events m other (before_submit id m.calls) all ended) covered
            | inr older ↦ sound.flushed sector other late older is_flush came covered
          ];
      landed_later = sound.landed_later;
      settled_later = sound.settled_later;
    }

power_keeps : (events : List CoreEvent) (m : Machine) → IsSoundMachine events m
    → IsSoundMachine events (machine_after m Power)
power_keeps events m sound = record {
  ended = sound.ended;
  submitted = sound.submitted;
  covers = sound.covers;
  settled = sound.settled;
  fua = sound.fua;
  flushed = sound.flushed;
  landed_later = sound.landed_later;
  settled_later = sound.settled_later;
}

pub keeps : (events : List CoreEvent) (m : Machine) (step : Step) → IsSoundMachine events m
    → may_take events m step ≡ true → IsSoundMachine events (machine_after m step)
keeps events m (Submit id) sound may =
    submit_keeps events m id sound
    (and_parts (is_request (slice_get events id)) (not (list_any (is_submit id) m.calls)) may).1
keeps events m (Land id sector) sound may =
    let both =
    and_parts (is_pending m id && covers_at sector (slice_get events id))
    (not (is_among (m.landed sector) id)) may in
    let first = and_parts (is_pending m id) (covers_at sector (slice_get events id)) both.0 in
    land_keeps events m id sector sound first.0 first.1
keeps events m (Destage sector) sound may = destage_keeps events m sector sound
keeps events m (End id ok) sound may =
    let both = and_parts (is_pending m id) (not ok || may_succeed events m id) may in
    end_keeps events m id ok sound both.0 both.1
keeps events m Power sound may = power_keeps events m sound

pub run_sound : (events : List CoreEvent) (m : Machine) (run : List Step) → IsSoundMachine events m
    → is_run events m run ≡ true → IsSoundMachine events (taken m run)
run_sound events m [] sound runs = sound
run_sound events m (step ∷ run) sound runs =
    let parts = and_parts (has_step events m step) (is_run events (machine_after m step) run) runs in
    let may = and_parts (not m.off) (may_take events m step) parts.0 in
    run_sound events (machine_after m step) run (keeps events m step sound may.1) parts.1

end_is : (id : ℕ) (event : Option CoreEvent) → is_end_of id event ≡ true
    → (ok : Bool) × (event ≡ Some (core_events.Complete id ok))
end_is id (Some (core_events.Submit bio)) h = cc
end_is id (Some (core_events.Complete ended ok)) h =
    (ok, rw (eqb-true ended id h))
end_is id other h = cc

pub record StepsEnd (events : List CoreEvent) (id place : ℕ) : Type 0 where
  pub within : place < length events
  pub later : id < place
  pub ok : Bool
  pub event : slice_get events place ≡ Some (core_events.Complete id ok)

pub end_found : (events : List CoreEvent) (id place : ℕ) → end_of events id ≡ Some place
    → StepsEnd events id place
end_found events id place is =
    grind (arith, first_below-found, and_parts, end_is, ltb-true)

pub good_found : (events : List CoreEvent) (id : ℕ) → ended_ok events id ≡ true
    → (place : ℕ) × (end_of events id ≡ Some place)
    × (slice_get events place ≡ Some (core_events.Complete id true))
good_found events id good = elim (option_cases (end_of events id)) [
  | inl none ↦ clash (ended_ok events id) good (ap (is_success_at events) none)
  | inr some ↦
      grind (arith, end_found events id some.0 some.1, true)
]

below_found : (found : Option ℕ) (limit place : ℕ) → found ≡ Some place
    → is_below found limit ≡ true → place < limit
below_found found limit place is below = grind (arith, ltb-true)

before_found : (events : List CoreEvent) (id later : ℕ) → is_before events id later ≡ true
    → (place : ℕ) × (end_of events id ≡ Some place) × (place < later)
before_found events id later before = grind (arith, option_cases, below_found)

submit_call : (events : List CoreEvent) (place : ℕ) (bio : Bio)
    → slice_get events place ≡ Some (core_events.Submit bio)
    → event_step place (slice_get events place) ≡ Submit place ∷ []
submit_call events place bio is = ap (event_step place) is

end_call : (events : List CoreEvent) (place id : ℕ) (ok : Bool)
    → slice_get events place ≡ Some (core_events.Complete id ok)
    → event_step place (slice_get events place) ≡ End id ok ∷ []
end_call events place id ok is = ap (event_step place) is

pub submits_some : (test : Bio → Bool) (event : Option CoreEvent) → submits test event ≡ true
    → (bio : Bio) × (event ≡ Some (core_events.Submit bio))
submits_some test (Some (core_events.Submit bio)) h = (bio, refl)
submits_some test other h = cc

pub flush_some : (event : Option CoreEvent) → is_flush_submit event ≡ true
    → (bio : Bio) × (event ≡ Some (core_events.Submit bio))
flush_some (Some (core_events.Submit bio)) h = (bio, refl)
flush_some other h = cc

good_step : (id : ℕ) → is_good_end id (End id true) ≡ true
good_step id = grind (arith, eq-eqb)

good_called : (events : List CoreEvent) (id : ℕ) → ended_ok events id ≡ true
    → list_any (is_good_end id) (calls_below events (length events)) ≡ true
good_called events id good =
    grind (
      arith,
      good_found events id good,
      length events,
      good_step id,
      slice_get-within,
      any_call,
      end_call,
    )

kept_settled : (events : List CoreEvent) (m : Machine) (sector id : ℕ) → IsSoundMachine events m
    → m.calls ≡ calls_below events (length events)
    → is_kept events sector id ≡ true → is_among (m.settled sector) id ≡ true
kept_settled events m sector id sound fits kept =
    let parts = and_parts (is_durable events id) (covers_at sector (slice_get events id)) kept in
    let both =
    and_parts (ended_ok events id)
    (submits has_fua (slice_get events id) || is_flushed events id) parts.0 in
    let good = ap (list_any (is_good_end id)) fits ∙ good_called events id both.0 in
    elim (or_cases (submits has_fua (slice_get events id)) (is_flushed events id) both.1) [
      | inl fua ↦ sound.fua sector id good fua parts.1
      | inr flushed ↦
          let found = any_below-some
          (λ flush. is_flush_submit (slice_get events flush)
          && (ended_ok events flush && is_before events id flush))
          (length events) flushed in
          let flush = found.0 in
          let is_flush =
          and_parts (is_flush_submit (slice_get events flush))
          (ended_ok events flush && is_before events id flush) found.2 in
          let ended = and_parts (ended_ok events flush) (is_before events id flush) is_flush.1 in
          let before = before_found events id flush ended.1 in
          let end = good_found events id both.0 in
          let same : end.0 ≡ before.0 = let one = sym end.1 ∙ before.1 in
          grind (arith, one) in
          let less = before.2 in
          let bio = flush_some (slice_get events flush) is_flush.0 in
          let came =
          calls_before (is_good_end id) (is_submit flush) events (length events) end.0 flush
          (End id true) (Submit flush) (omega arith) found.1
          (end_call events end.0 id true end.2) (submit_call events flush bio.0 bio.1)
          (good_step id) (eq-eqb flush flush refl) in
          sound.flushed sector id flush
          (ap (list_any (is_good_end flush)) fits ∙ good_called events flush ended.0) is_flush.0
          (ap (came_before (is_good_end id) (is_submit flush)) fits ∙ came) parts.1
    ]

newest_stays : (events : List CoreEvent) (m : Machine) (sector id : ℕ) → IsSoundMachine events m
    → m.calls ≡ calls_below events (length events)
    → is_not_newest id (m.settled sector) ≡ false → is_replaced events sector id ≡ false
newest_stays events m sector id sound fits is_newest =
    any_below-none (λ later. is_kept events sector later && is_before events id later)
    (length events) (λ later h.
    elim (bool_cases (is_kept events sector later && is_before events id later)) [
      | inl both ↦
          let parts = and_parts (is_kept events sector later) (is_before events id later) both in
          let covered =
          (and_parts (is_durable events later)
          (covers_at sector (slice_get events later)) parts.0).1 in
          let before = before_found events id later parts.1 in
          let end = end_found events id before.0 before.1 in
          let bio = submits_some (λ bio. covers bio sector) (slice_get events later) covered in
          let came =
          calls_before (is_end id) (is_submit later) events (length events) before.0 later
          (End id end.ok) (Submit later) before.2 h
          (end_call events before.0 id end.ok end.event) (submit_call events later bio.0 bio.1)
          (eq-eqb id id refl) (eq-eqb later later refl) in
          clash (is_not_newest id (m.settled sector))
          (sound.settled_later sector id later
          (ap (came_before (is_end id) (is_submit later)) fits ∙ came)
          (kept_settled events m sector later sound fits parts.0))
          is_newest
      | inr other ↦ other
    ])

none_kept : (events : List CoreEvent) (m : Machine) (sector : ℕ) → IsSoundMachine events m
    → m.calls ≡ calls_below events (length events)
    → m.settled sector ≡ [] → has_kept events sector ≡ false
none_kept events m sector sound fits none = grind (arith, any_below-none, bool_cases, kept_settled)

newest_cases : (ids : List ℕ)
    → (ids ≡ []) ⊎ ((id : ℕ) × (newest ids ≡ Some id) × (is_among ids id ≡ true)
    × (is_not_newest id ids ≡ false))
newest_cases [] = inl refl
newest_cases (id ∷ ids) = inr (id, refl, among_new id ids, ap not (eq-eqb id id refl))

possible_at : (events : List CoreEvent) (m : Machine) (first now : Content) (sector : ℕ)
    → IsSoundMachine events m → m.calls ≡ calls_below events (length events)
    → durable events first m sector ≡ now sector → PossibleAt events first now sector
possible_at events m first now sector sound fits left =
    grind (arith, newest_cases (m.settled sector), none_kept, covered_value, newest_stays)

pub reachable_possible : (events : List CoreEvent) (first now : Content)
    → IsReachable events first now → Possible events first now
reachable_possible events first now reached =
    let run = reached.0 in
    let leaves = reached.1 in
    λ sector. possible_at events (taken start run) first now sector
    (run_sound events start run (start_sound events) leaves.runs) leaves.fits
    (leaves.left sector)
