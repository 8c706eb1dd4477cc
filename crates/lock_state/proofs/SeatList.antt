-- Laws of the loops that compare lists with a seat's events and with taken items, and count done
-- calls.
use Rattle.std.proofs.Common.{List, [], ◌∷◌, ◌++◌, sym, ◌∙◌, arith, true≢false, eqb, ne_eqb, eq-eqb}
use Rattle.std.proofs.Common.{◌≡◌, ◌≢◌, ℕ, zero, suc, ◌+◌, ◌<◌, ◌≤◌, Bool, true, false}
use Rattle.std.proofs.Common.{append_assoc, length, map, take, drop, Option, Some, None, refl, ap}
use Rattle.std.proofs.Common.{subst}
use Rattle.std.specs.Prelude.{slice_get, IsTrue, if◌then◌else◌, MatchBool, ◌&&◌}
use Rattle.std.proofs.lemmas.Bool.{cases_lt, and_parts}
use Rattle.std.proofs.lemmas.Bool.Decides.{eqb_tells}
use Rattle.std.proofs.lemmas.Option.{slice_get_past, slice_get_within}
use Rattle.refusals.specs.declared.run_error.End.{End}
use Rattle.refusals.specs.declared.run_error.End.TheVariants.{Full, Device, Memory}
use Rattle.bio.specs.declared.event.CoreEvent.{CoreEvent}
use Rattle.bio.specs.declared.event.CoreEvent.TheVariants.{Submit}
use Rattle.bio.specs.declared.request.Bio.{Bio}
use Rattle.bio.specs.Events.{is_lawful, is_lawful_sized, is_well_formed}
use Rattle.bio.specs.PlaceLaws.{slice_get-append_here, slice_get-append_front}
use Rattle.pending.specs.CompletionList.{IsQueued, Item, completion_list, dm_log_writes, entry_at}
use Rattle.pending.specs.CoreState.{CoreState, items_of}
use Rattle.pending.specs.QueueEvent.{log_writes_order}
use Rattle.lock_state.proofs.Lists.{take_next}
use Rattle.lock_state.specs.Calls.{done_call}
use Rattle.lock_state.specs.Comparison.{AllNotesMatch, AreCauses, IsDoneOnce, IsItem, IsNoted}
use Rattle.lock_state.specs.Comparison.{IsOkAt, MayBeReported, AgreesWithCalls, is_of, is_ok_of, listed_item, of}
use Rattle.lock_state.specs.Comparison.{of_from, seen_more, call_count}
use Rattle.lock_state.specs.declared.note.Done.{Done}
use Rattle.lock_state.specs.declared.note.LogItem.{LogItem as Placed}
use Rattle.lock_state.specs.declared.note.Own.{Own}
use Rattle.lock_state.specs.declared.note.ReportedCauses.{ReportedCauses}
use Rattle.lock_state.specs.declared.served.CallsSeen.{CallsSeen}
use Rattle.lock_state.specs.declared.served.CallsSeen.TheVariants.{Never, Once, Again}
use Rattle.lock_state.specs.History.{one_if, own_at, taken_ids}

-- the seat's events from index `place` on
abbrev pub rest_of : List CoreEvent → List (Option ℕ) → ℕ → ℕ → List Own
rest_of events by seat place = of_from place (drop place events) (drop place by) seat

-- The first `found` items of the list are the seat's events before index `place`.
pub record Matched (events : List CoreEvent) (by : List (Option ℕ)) (seat : ℕ) (list : List Own)
    (place found : ℕ) : Type 0 where
  pub within : found ≤ length list
  pub so_far : of events by seat ≡ take found list ++ rest_of events by seat place

drop_next : {A : Type 0} (xs : List A) (n : ℕ) (x : A) → slice_get xs n ≡ Some x
    → drop n xs ≡ x ∷ drop (suc n) xs
drop_next [] n x e = absurd (cc)
drop_next (y ∷ ys) zero x e = grind arith
drop_next (y ∷ ys) (suc n) x e = drop_next ys n x e

rest-step : (events : List CoreEvent) (by : List (Option ℕ)) (seat place : ℕ) (event : CoreEvent)
    (name : Option ℕ) → slice_get events place ≡ Some event → slice_get by place ≡ Some name
    → rest_of events by seat place
    ≡ (if is_of seat name then own_at place event ∷ rest_of events by seat
    (suc place) else rest_of events by seat (suc place))
rest-step events by seat place event name e n = grind (arith, drop_next)

pub matched-other : (events : List CoreEvent) (by : List (Option ℕ)) (seat : ℕ) (list : List Own)
    (place next found : ℕ) (event : CoreEvent) (name : Option ℕ)
    → slice_get events place ≡ Some event → slice_get by place ≡ Some name
    → is_of seat name ≡ false → next ≡ suc place → Matched events by seat list place found
    → Matched events by seat list next found
matched-other events by seat list place next found event name e n other is matched = record {
  within = matched.within;
  so_far =
      matched.so_far ∙ rw (rest-step events by seat place event name e n ∙ ap (λ b. if b then
      own_at place event ∷ rest_of events by seat (suc place) else rest_of events by seat (suc
      place)) other ∙ ap (rest_of events by seat) (sym is));
}

rest-own : (events : List CoreEvent) (by : List (Option ℕ)) (seat place : ℕ) (event : CoreEvent)
    (name : Option ℕ) → slice_get events place ≡ Some event → slice_get by place ≡ Some name
    → is_of seat name ≡ true
    → rest_of events by seat place ≡ own_at place event ∷ rest_of events by seat (suc place)
rest-own events by seat place event name e n own = rest-step events by seat place event name e n
    ∙ rw own

pub matched-own : (events : List CoreEvent) (by : List (Option ℕ)) (seat : ℕ) (list : List Own)
    (place next found more : ℕ) (event : CoreEvent) (name : Option ℕ)
    → slice_get events place ≡ Some event → slice_get by place ≡ Some name
    → is_of seat name ≡ true → next ≡ suc place → more ≡ suc found
    → slice_get list found ≡ Some (own_at place event) → Matched events by seat list place found
    → Matched events by seat list next more
matched-own events by seat list place next found more event name e n own is is_more there matched =
    record {
      within = let h = slice_get_within list found (own_at place event) there in omega arith;
      so_far =
          matched.so_far ∙ ap (λ xs. take found list ++ xs)
          (rest-own events by seat place event name e n own)
          ∙ sym (append_assoc (take found list) (own_at place event ∷ [])
          (rest_of events by seat (suc place)))
          ∙ ap (λ (x : List Own × ℕ). x.0 ++ rest_of events by seat x.1)
          (λ i. (sym (take_next list found more (own_at place event) is_more there) i, sym is i));
    }

pub take_length : {A : Type 0} (xs : List A) (n : ℕ) → n ≤ length xs → length (take n xs) ≡ n
take_length xs zero h = refl
take_length [] (suc n) h = absurd (omega arith)
take_length (x ∷ xs) (suc n) h = ap suc (take_length xs n (omega arith))

pub unmatched : (events : List CoreEvent) (by : List (Option ℕ)) (seat : ℕ) (list : List Own)
    (place found : ℕ) (event : CoreEvent) (name : Option ℕ) → slice_get events place ≡ Some event
    → slice_get by place ≡ Some name
    → is_of seat name ≡ true → slice_get list found ≢ Some (own_at place event) →
    Matched events by seat list place found → of events by seat ≢ list
unmatched events by seat list place found event name e n own apart matched same =
    let full : list ≡ take found list ++ own_at place event ∷ rest_of events by seat (suc place) =
    sym same ∙ matched.so_far
    ∙ ap (λ xs. take found list ++ xs) (rest-own events by seat place event name e n own) in
    apart (ap (λ (xs : List Own). slice_get xs found) full
    ∙ ap (slice_get (take found list ++ own_at place event ∷ rest_of events by seat (suc place)))
    (sym (take_length list found matched.within))
    ∙ slice_get-append_here (take found list) (own_at place event)
    (rest_of events by seat (suc place)))

drop_all : {A : Type 0} (xs : List A) (n : ℕ) → length xs ≤ n → drop n xs ≡ []
drop_all [] zero h = refl
drop_all [] (suc n) h = refl
drop_all (x ∷ xs) zero h = absurd (omega arith)
drop_all (x ∷ xs) (suc n) h = drop_all xs n (omega arith)

pub take_past : {A : Type 0} (xs : List A) (n : ℕ) → length xs ≤ n → take n xs ≡ xs
take_past [] zero h = refl
take_past [] (suc n) h = refl
take_past (x ∷ xs) zero h = absurd (omega arith)
take_past (x ∷ xs) (suc n) h = grind (arith, take_past xs n (omega arith))

pub causes_all : (told : ReportedCauses) (stop end : Option End) (a b c : Bool)
    → MatchBool a (MayBeReported told.full Full stop end) (MayBeReported told.full Full stop end
    → ⊥)
    → MatchBool b (MayBeReported told.device Device stop end)
    (MayBeReported told.device Device stop end → ⊥)
    → MatchBool c (MayBeReported told.memory Memory stop end)
    (MayBeReported told.memory Memory stop end → ⊥)
    → MatchBool (a && (b && c)) (AreCauses told stop end) (AreCauses told stop end → ⊥)
causes_all told stop end false b c f d m = λ each. f (each Full)
causes_all told stop end true false c f d m = λ each. d (each Device)
causes_all told stop end true true false f d m = λ each. m (each Memory)
causes_all told stop end true true true f d m = each
  where
    each : AreCauses told stop end
    each Full = f
    each Device = d
    each Memory = m

-- a law that is passed in: each item of the completion list has the entry of an event that is
-- queued
abbrev pub Only : Type 0
Only =
    (size : ℕ) (events : List CoreEvent) (k : ℕ) (item : Item) → is_well_formed events ≡ true
    → slice_get (completion_list (dm_log_writes size) events) k ≡ Some item
    → (item.1 ≡ entry_at size (slice_get events item.0))
    × ((event : ℕ) × (end : ℕ) × IsQueued log_writes_order events item.0 event end)

some_there : {A : Type 0} (xs : List A) (k : ℕ) → k < length xs
    → (x : A) × (slice_get xs k ≡ Some x)
some_there [] k h = absurd (omega arith)
some_there (x ∷ xs) zero h = (x, refl)
some_there (x ∷ xs) (suc k) h = some_there xs k (omega arith)

get_taken : (items : List Item) (n k : ℕ) (item : Item) → k < n → slice_get items k ≡ Some item
    → slice_get (map (λ (x : Item). x.0) (take n items)) k ≡ Some item.0
get_taken items zero k item h e = absurd (omega arith)
get_taken [] (suc n) k item h e = absurd (cc)
get_taken (x ∷ xs) (suc n) zero item h e = ap first e
  where
    first : Option Item → Option ℕ
    first None = None
    first (Some x) = Some x.0
get_taken (x ∷ xs) (suc n) (suc k) item h e = get_taken xs n k item (omega arith) e

queued_within : (events : List CoreEvent) (id event end : ℕ)
    → IsQueued log_writes_order events id event end → id < length events
queued_within events id event end queued = grind (arith, cases_lt, slice_get_past)

-- Item `k` of the completion list was taken, and its id is in `taken`.
pub record IsTaken (core : CoreState) (taken : List ℕ) (k : ℕ) : Type 0 where
  pub item : Item
  pub listed_there : slice_get (items_of core) k ≡ Some item
  pub noted : slice_get taken k ≡ Some item.0
  pub entry_is : item.1 ≡ entry_at core.sector_bytes (slice_get core.events item.0)
  pub within : item.0 < length core.events

pub taken_as : (sectors bytes : ℕ) (core : CoreState) (taken : List ℕ) (k : ℕ) → Only
    → IsTrue (is_lawful_sized bytes sectors core.events) → core.taken ≤ length (items_of core)
    → taken ≡ taken_ids core → k < core.taken
    → IsTaken core taken k
taken_as sectors bytes core taken k only lawful within took below =
    let there = some_there (items_of core) k (omega arith) in
    let said =
    only core.sector_bytes core.events k there.0
    (and_parts (is_well_formed core.events) _
    (and_parts (is_lawful sectors core.events) _ lawful).0).0 there.1 in
    record {
      item = there.0;
      listed_there = there.1;
      noted =
          rw took (get_taken (items_of core) core.taken k there.0 below there.1);
      entry_is = said.0;
      within = queued_within core.events there.0.0 said.1.0 said.1.1 said.1.2;
    }

pub taken_match : (bytes : ℕ) (core : CoreState) (taken : List ℕ) (k id : ℕ) (event : CoreEvent)
    (result : Bool) (item : Placed) → core.sector_bytes ≡ bytes → IsTaken core taken k
    → slice_get taken k ≡ Some id → slice_get core.events id ≡ Some event
    → MatchBool result (IsItem bytes item id event) (IsItem bytes item id event → ⊥)
    → MatchBool result (slice_get (items_of core) k ≡ Some (listed_item item))
    (slice_get (items_of core) k ≢ Some (listed_item item))
taken_match bytes core taken k id event result item size is there stands = by_cases result
  where
    same_id : is.item.0 ≡ id
    same_id = let a = is.noted in cc

    entry : is.item.1 ≡ entry_at bytes (Some event)
    entry =
        grind arith

    by_cases : (result : Bool)
        → MatchBool result (IsItem bytes item id event) (IsItem bytes item id event → ⊥)
        → MatchBool result (slice_get (items_of core) k ≡ Some (listed_item item))
        (slice_get (items_of core) k ≢ Some (listed_item item))
    by_cases true same =
        is.listed_there ∙ ap Some (λ i. ((same_id ∙ sym same.id) i, (entry ∙ sym same.entry) i))
    by_cases false apart = λ e.
        grind arith

times-push : (id : ℕ) (calls : List Done) (call : Done)
    → call_count id (calls ++ call ∷ []) ≡ call_count id calls + one_if (is_ok_of id call)
times-push id [] call = omega arith
times-push id (x ∷ xs) call = let h = times-push id xs call in omega arith

ok_on : (calls : List Done) (call : Done) (id place : ℕ) → IsOkAt calls id place
    → IsOkAt (calls ++ call ∷ []) id place
ok_on calls call id place at = grind (arith, slice_get-append_front, slice_get_within)

tells-push : (calls : List Done) (call : Done) (id : ℕ) (was : CallsSeen) → AgreesWithCalls calls id was
    → AgreesWithCalls (calls ++ call ∷ []) id (if is_ok_of id call then seen_more was (length calls) else was)
tells-push calls call id was tells = by_cases (is_ok_of id call) refl was tells
  where
    by_cases : (b : Bool) → is_ok_of id call ≡ b → (was : CallsSeen) → AgreesWithCalls calls id was
        → AgreesWithCalls (calls ++ call ∷ []) id (if b then seen_more was (length calls) else was)
    by_cases false e Never tells = grind (arith, times-push)
    by_cases false e (Once place)
        tells = grind (arith, times-push, ok_on)
    by_cases false e Again tells = let p = times-push id calls call in omega arith
    by_cases true e Never tells = grind (arith, times-push, slice_get-append_here)
    by_cases true e (Once place) tells = grind (arith, times-push)
    by_cases true e Again tells = let p = times-push id calls call in omega arith

pub all_tell-push : (calls : List Done) (call : Done) (before after : List CallsSeen) (place : ℕ)
    → place ≡ length calls → AllNotesMatch calls before
    → ((id : ℕ) (seen : CallsSeen) → slice_get after id ≡ Some seen → IsNoted before place call id seen)
    → AllNotesMatch (calls ++ call ∷ []) after
all_tell-push calls call before after place is tells noted id seen e =
    let n = noted id seen e in
    subst (AgreesWithCalls (calls ++ call ∷ []) id)
    (sym (n.now ∙ rw is))
    (tells-push calls call id n.was (tells id n.was n.there))

and_false : (b : Bool) → (b && false) ≡ false
and_false true = refl
and_false false = refl

pub other_ok : (call : Done) (id other : ℕ) → call.id ≡ Some other → other ≢ id
    → is_ok_of id call ≡ false
other_ok call id other e apart = grind (arith, ne_eqb, and_false)

own_ok : (call : Done) (id : ℕ) → call.id ≡ Some id → call.ok ≡ true → is_ok_of id call ≡ true
own_ok call id e ok =
    ap (λ (x : Bool × Option ℕ). x.0 && is_of id x.1) (λ i. (ok i, e i)) ∙ eqb_same id
  where
    eqb_same : (n : ℕ) → eqb n n ≡ true
    eqb_same n = eq-eqb n n refl

counted : (id : ℕ) (calls : List Done) (place : ℕ) (call : Done) → slice_get calls place ≡ Some call
    → is_ok_of id call ≡ true → 1 ≤ call_count id calls
counted id [] place call e ok = absurd (cc)
counted id (x ∷ xs) zero call e ok = grind arith
counted id (x ∷ xs) (suc place) call e ok = let h = counted id xs place call e ok in omega arith

one_place : (id : ℕ) (calls : List Done) (p q : ℕ) (c d : Done) → call_count id calls ≡ 1
    → slice_get calls p ≡ Some c → is_ok_of id c ≡ true → slice_get calls q ≡ Some d
    → is_ok_of id d ≡ true → p ≡ q
one_place id [] p q c d once e ok f too = absurd (cc)
one_place id (x ∷ xs) zero zero c d once e ok f too = refl
one_place id (x ∷ xs) zero (suc q) c d once e ok f too =
    let same : x ≡ c = cc in
    let one : one_if (is_ok_of id x) ≡ 1 = ap one_if (ap (is_ok_of id) same ∙ ok) in
    let more = counted id xs q d f too in absurd (omega arith)
one_place id (x ∷ xs) (suc p) zero c d once e ok f too =
    let same : x ≡ d = cc in
    let one : one_if (is_ok_of id x) ≡ 1 = ap one_if (ap (is_ok_of id) same ∙ too) in
    let more = counted id xs p c e ok in absurd (omega arith)
one_place id (x ∷ xs) (suc p) (suc q) c d once e ok f too =
    let more = counted id xs p c e ok in
    let rest : call_count id xs ≡ 1 = omega arith in
    ap suc (one_place id xs p q c d rest e ok f too)

is_its : (id : ℕ) (name : Option ℕ) → is_of id name ≡ true → name ≡ Some id
is_its id None e = absurd (true≢false (sym e))
is_its id (Some other) e = grind (arith, eqb_tells)

call_is : (id : ℕ) (call : Done) → is_ok_of id call ≡ true
    → call ≡ done_call (Some id) call.bio true
call_is id call ok = grind (arith, and_parts, is_its)

pub done_as : (calls : List Done) (id place : ℕ) (event : CoreEvent) (bio : Bio) (call : Done)
    (result : Bool) → AgreesWithCalls calls id (Once place) → slice_get calls place ≡ Some call
    → event ≡ Submit bio
    → MatchBool result (bio ≡ call.bio) (bio ≢ call.bio)
    → MatchBool result (IsDoneOnce calls id (Some event)) (IsDoneOnce calls id (Some event) → ⊥)
done_as calls id place event bio call result tells there is = by_cases result
  where
    same : tells.1.call ≡ call
    same = let a = tells.1.there in cc

    ok : is_ok_of id call ≡ true
    ok = ap (is_ok_of id) (sym same) ∙ tells.1.ok

    by_cases : (result : Bool) → MatchBool result (bio ≡ call.bio) (bio ≢ call.bio)
        → MatchBool result (IsDoneOnce calls id (Some event)) (IsDoneOnce calls id (Some event) → ⊥)
    by_cases true one = grind (arith, call_is)
    by_cases false apart = λ d.
        grind (
          arith,
          one_place id calls place d.place call (done_call (Some id) d.bio true)
              tells.0 there ok d.done (own_ok (done_call (Some id) d.bio true) id refl refl),
          true,
        )
