-- Laws of candidates, of the picks of a crash, and of the view of a disk.
use Rattle.std.proofs.Common.{true, false, IsTrue, Option, None, subst, sym, ◌∙◌, inl, inr, ◌≡◌, ℕ}
use Rattle.std.proofs.Common.{suc, zero, ◌+◌, ◌-◌, ◌<◌, ◌≤◌, Bool, ◌++◌, arith, length-append, Some}
use Rattle.std.proofs.Common.{List, [], ◌∷◌, length, replicate, refl, ap}
use Rattle.std.specs.Prelude.{Contains, MatchBool, if◌then◌else◌, ◌⊎◌, nat_lt, slice_get}
use Rattle.std.specs.Prelude.{slice_index_or, unwrap_or}
use Rattle.std.proofs.lemmas.Bool.{cases_lt, le-ltb, lt-ltb}
use Rattle.std.proofs.lemmas.List.Elements.{Contains-append_cases, Contains-append_left}
use Rattle.std.proofs.lemmas.List.Elements.{Contains-append_right}
use Rattle.std.proofs.lemmas.Option.{get_or_from_slice_get, slice_get-get_or}
use Rattle.std.proofs.Math.Nat.{mod-eq_of_lt, mod-lt}
use Rattle.bio.specs.Content.{Content, HasWholeSectors, HasWholeValues, Patch, nothing}
use Rattle.bio.specs.ContentLaws.{discards-whole, patched-same, patched-whole, whole-patched}
use Rattle.bio.specs.ContentLaws.{writes-whole}
use Rattle.bio.specs.PlaceLaws.{last_or_below, slice_get-append_front, slice_get-append_here}
use Rattle.bio.specs.PlaceLaws.{slice_get-within}
use Rattle.blockdev.specs.Law.{AfterPatch, AfterWhole, DeviceFrame, WriteDone, FlushDone}
use Rattle.blockdev.specs.View.{IsLawful}
use Rattle.sector_disk.specs.Candidates.{Cache, Flushes, LeftDuring, LeftSince, MayLeave, Puts}
use Rattle.sector_disk.specs.Candidates.{PastStep, after_step, cache_after, candidates_after, choice_of}
use Rattle.sector_disk.specs.Candidates.{left_by, settled, unsynced_below, view_of}
use Rattle.sector_disk.specs.declared.call.PastCall.{PastCall}
use Rattle.sector_disk.specs.declared.call.PastChange.{PastChange}
use Rattle.sector_disk.specs.declared.call.PastChange.TheVariants.{Write, Image, Discard}
use Rattle.sector_disk.specs.declared.disk.SectorDisk.{SectorDisk}
use Rattle.sector_disk.specs.DiskView.{shown_of, start_of}
use Rattle.sector_disk.specs.DiskView as shown
use Rattle.sector_disk.specs.inside.Storage.{change_values, flushed_if, step_after, stored_steps}
use Rattle.sector_disk.specs.inside.Storage.{value_at, value_in, change_values_of}

-- Laws of candidates: the view of a disk, which its candidates define, satisfies the law of
-- devices.

-- A list of one element contains this element and no other.
pub contains_one : {X : Type 0} (x : X) → Contains (x ∷ []) x
contains_one x = (0, omega arith, refl)

pub one_contains : {X : Type 0} (x y : X) → Contains (x ∷ []) y → y ≡ x
one_contains x y has = at has.0 has.1 has.2
  where
    at : (k : ℕ) → k < 1 → slice_index_or (x ∷ []) k y ≡ y → y ≡ x
    at zero h e = sym e
    at (suc k) h e = absurd (omega arith)

-- the value of each sector is one of its candidates
abbrev pub ValuesAreCandidates : Cache → Type 0
ValuesAreCandidates cache = (sector : ℕ) → Contains (cache.may sector) (cache.now sector)

-- Each candidate of a sector after a call was a candidate before, or is the call's value.
candidate_torn : (value : Option (List ℕ)) (fua : Bool) (old : List (List ℕ)) (now left : List ℕ)
    → Contains old now
    → Contains (candidates_after value fua old) left
    → (before : List ℕ) × Contains old before × ((left ≡ before) ⊎ (left ≡ unwrap_or value before))
candidate_torn None fua old now left current has = (left, has, inl refl)
candidate_torn (Some value) true old now left current has =
    (now, current, inr (one_contains value left has))
candidate_torn (Some value) false old now left current has =
    elim (Contains-append_cases old (value ∷ []) left has) [
      | inl before ↦ (left, before, inl refl)
      | inr after ↦ (now, current, inr (one_contains value left after))
    ]

-- If a call has FUA and a value for the sector, each candidate after the call is this value.
candidate_durable : (value : Option (List ℕ)) (fua : Bool) (old : List (List ℕ)) (now left : List ℕ)
    → IsTrue fua → Contains old now
    → Contains (candidates_after value fua old) left
    → (before : List ℕ) × Contains old before × (left ≡ unwrap_or value before)
candidate_durable None fua old now left is current has = (left, has, refl)
candidate_durable (Some value) true old now left is current has = grind (arith, one_contains)
candidate_durable (Some value) false old now left is current has = cc

-- the value of a sector after a call is one of its candidates
candidate_current : (value : Option (List ℕ)) (fua : Bool) (old : List (List ℕ)) (now : List ℕ)
    → Contains old now
    → Contains (candidates_after value fua old) (unwrap_or value now)
candidate_current None fua old now current = current
candidate_current (Some value) true old now current = contains_one value
candidate_current (Some value) false old now current =
    Contains-append_right old (value ∷ []) value (contains_one value)

-- Each candidate before a call without FUA is still a candidate after the call.
candidate_kept : (value : Option (List ℕ)) (old : List (List ℕ)) (before : List ℕ)
    → Contains old before
    → Contains (candidates_after value false old) before
candidate_kept None old before has = has
candidate_kept (Some value) old before has = Contains-append_left old (value ∷ []) before has

-- Each content that a crash may leave after a call is one that a crash could leave before, patched.
pub left-torn : (patch : Patch) (fua : Bool) (cache : Cache) (left : Content) → ValuesAreCandidates cache
    → MayLeave (after_step (Puts patch fua) cache) left → AfterPatch patch (MayLeave cache) left
left-torn patch fua cache left current may =
    let at : (sector : ℕ) → (before : List ℕ) × Contains (cache.may sector) before
    × ((left sector ≡ before) ⊎ (left sector ≡ unwrap_or (patch sector) before)) =
    λ sector. candidate_torn (patch sector) fua (cache.may sector) (cache.now sector) (left sector)
    (current sector) (may sector) in
    (λ sector. (at sector).0, λ sector. (at sector).1, λ sector. (at sector).2)

-- Each content that a crash may leave after a call with FUA is one that it could leave before, with
-- all of the call's values.
pub left-durable : (patch : Patch) (fua : Bool) (cache : Cache) (left : Content) → IsTrue fua
    → ValuesAreCandidates cache
    → MayLeave (after_step (Puts patch fua) cache) left → AfterWhole patch (MayLeave cache) left
left-durable patch fua cache left is current may =
    let at : (sector : ℕ) → (before : List ℕ) × Contains (cache.may sector) before
    × (left sector ≡ unwrap_or (patch sector) before) =
    λ sector. candidate_durable (patch sector) fua (cache.may sector) (cache.now sector)
    (left sector) is (current sector) (may sector) in
    (λ sector. (at sector).0, λ sector. (at sector).1, λ sector. (at sector).2)

-- Each content that a crash could leave before a call without FUA, a crash may leave after the
-- call.
pub left-kept : (patch : Patch) (cache : Cache) (left : Content) → MayLeave cache left
    → MayLeave (after_step (Puts patch false) cache) left
left-kept patch cache left may = grind (arith, candidate_kept)

-- If all values are durable, a crash leaves exactly these values.
pub left-settled : (content left : Content) → MayLeave (settled content) left → (sector : ℕ)
    → left sector ≡ content sector
left-settled content left may sector = one_contains (content sector) (left sector) (may sector)

-- Each content that a crash may leave after a flush, a crash could leave before the flush.
pub left-flushed : (cache : Cache) (left : Content) → ValuesAreCandidates cache
    → MayLeave (settled cache.now) left → MayLeave cache left
left-flushed cache left current may = λ sector.
    let Has : List ℕ → Type 0 = λ value. Contains (cache.may sector) value in
    subst Has (sym (left-settled cache.now left may sector)) (current sector)

-- After any past, the value of each sector is one of its candidates.
pub is_current : (start : Content) (past : List PastStep) → ValuesAreCandidates (cache_after start past)
is_current start [] = λ sector. contains_one (start sector)
is_current start (Puts patch fua ∷ past) = λ sector.
    let cache = cache_after start past in
    candidate_current (patch sector) fua (cache.may sector) (cache.now sector)
    (is_current start past sector)
is_current start (Flushes ∷ past) = λ sector. contains_one ((cache_after start past).now sector)

-- Each content that a crash may leave after a step, a crash may leave during the step.
during : (start : Content) (step : PastStep) (past : List PastStep) (left : Content)
    → MayLeave (cache_after start (step ∷ past)) left
    → LeftDuring step (cache_after start past) left
during start (Puts patch fua) past left may = grind (arith, left-torn, is_current)
during start Flushes past left may =
    left-flushed (cache_after start past) left (is_current start past) may

-- `MatchBool b P Q` holds if `P` holds when `b` is true, and `Q` when `b` is false.
match_intro : (b : Bool) (P Q : Type 0) → (b ≡ true → P) → (b ≡ false → Q) → MatchBool b P Q
match_intro true P Q yes_case no_case = yes_case refl
match_intro false P Q yes_case no_case = no_case refl

match_true : (b : Bool) (P Q : Type 0) → b ≡ true → MatchBool b P Q → P
match_true true P Q is has = has
match_true false P Q is has = cc

match_false : (b : Bool) (P Q : Type 0) → b ≡ false → MatchBool b P Q → Q
match_false true P Q is has = cc
match_false false P Q is has = has

-- Whatever a crash now may leave, a crash since an earlier reading may have left.
pub since-nested : (start : Content) (past : List PastStep) (reading : ℕ) (left : Content)
    → reading ≤ length past
    → MayLeave (cache_after start past) left → LeftSince start past reading left
since-nested start [] reading left h may = may
since-nested start (step ∷ past) reading left h may =
    match_intro (nat_lt (length past) reading) (MayLeave (cache_after start (step ∷ past)) left)
    (LeftSince start past reading left ⊎ LeftDuring step (cache_after start past) left)
    (λ after. may) (λ before. inr (during start step past left may))

-- Whatever a crash since now may have left, a crash now may leave.
pub since-now : (start : Content) (past : List PastStep) (left : Content)
    → LeftSince start past (length past) left
    → MayLeave (cache_after start past) left
since-now start [] left may = may
since-now start (step ∷ past) left may = grind (arith, match_true, lt-ltb)

-- If a crash since an earlier reading may have left a content, a crash before the step or during
-- the step may have left it.
pub since-step : (start : Content) (step : PastStep) (past : List PastStep) (reading : ℕ) (left : Content)
    → reading ≤ length past
    → LeftSince start (step ∷ past) reading left
    → LeftSince start past reading left ⊎ LeftDuring step (cache_after start past) left
since-step start step past reading left h may = grind (arith, match_false, le-ltb)

-- Each content that a crash may have left before a step is still one that a crash may have left
-- after the step.
pub since-kept : (start : Content) (step : PastStep) (past : List PastStep) (reading : ℕ) (left : Content)
    → reading ≤ length past
    → LeftSince start past reading left → LeftSince start (step ∷ past) reading left
since-kept start step past reading left h may = grind (arith, match_intro, le-ltb)

-- Whatever a crash during a step may leave, a crash since the step's start may have left.
pub since-during : (start : Content) (step : PastStep) (past : List PastStep) (left : Content)
    → LeftDuring step (cache_after start past) left
    → LeftSince start (step ∷ past) (length past) left
since-during start step past left during_it = grind (arith, match_intro, le-ltb)

-- A write or a discard changes the view of a disk within the call's frame.
pub goes_puts : (size : ℕ) (start : Content) (past : List PastStep) (patch : Patch) (fua : Bool)
    → DeviceFrame patch (view_of size start past) (view_of size start (Puts patch fua ∷ past))
goes_puts size start past patch fua =
    grind (arith, patched-whole, left-torn, is_current, since-step, since-kept)

-- A write or a discard of a disk is done (`WriteDone`).
pub lands_puts : (size : ℕ) (start : Content) (past : List PastStep) (patch : Patch) (fua : Bool)
    → WriteDone patch fua (view_of size start past) (view_of size start (Puts patch fua ∷ past))
lands_puts size start past patch fua = grind (arith, left-durable, is_current)

-- A flush changes the view of a disk within the frame of a flush.
pub goes_flush : (size : ℕ) (start : Content) (past : List PastStep)
    → DeviceFrame nothing (view_of size start past) (view_of size start (Flushes ∷ past))
goes_flush size start past = record {
  size = refl;
  origin = refl;
  content = λ sector. inl refl;
  crash =
      λ left may. (
        left,
        left-flushed (cache_after start past) left (is_current start past) may,
        patched-same nothing left,
      );
  clock = omega arith;
  gains = λ reading left h may. elim (since-step start Flushes past reading left h may) [
    | inl before ↦ inl before
    | inr during_it ↦ inr (left, during_it, patched-same nothing left)
  ];
  keeps = λ reading left h may. since-kept start Flushes past reading left h may;
  faults = omega arith;
  lies = omega arith;
  can_lie = refl;
  honest = λ none. refl;
}

-- A flush of a disk is done (`FlushDone`): a crash then leaves the content.
pub syncs_flush : (size : ℕ) (start : Content) (past : List PastStep)
    → FlushDone (view_of size start (Flushes ∷ past))
syncs_flush size start past =
    record { only = λ left may. left-settled (cache_after start past).now left may }

-- If a disk has no past, a crash leaves its content.
pub syncs_start : (size : ℕ) (start : Content) → FlushDone (view_of size start [])
syncs_start size start = record { only = λ left may. left-settled start left may }

-- each value that the steps put has 512 bytes
abbrev pub HasWholeSteps : List PastStep → Type 0
HasWholeSteps [] = Unit {0}
HasWholeSteps (Puts patch fua ∷ past) = HasWholeValues patch × HasWholeSteps past
HasWholeSteps (Flushes ∷ past) = HasWholeSteps past

-- each of `values` has 512 bytes
abbrev AreWhole : List (List ℕ) → Type 0
AreWhole values = (value : List ℕ) → Contains values value → length value ≡ 512

one-whole : (value : List ℕ) → length value ≡ 512 → AreWhole (value ∷ [])
one-whole value whole = λ other has. ap length (one_contains value other has) ∙ whole

candidates-whole : (value : Option (List ℕ)) (fua : Bool) (old : List (List ℕ))
    → ((x : List ℕ) → value ≡ Some x → length x ≡ 512)
    → AreWhole old → AreWhole (candidates_after value fua old)
candidates-whole None fua old values whole = whole
candidates-whole (Some x) true old values whole = one-whole x (values x refl)
candidates-whole (Some x) false old values whole =
    λ other has. elim (Contains-append_cases old (x ∷ []) other has) [
      | inl before ↦ whole other before
      | inr after ↦ one-whole x (values x refl) other after
    ]

may-whole : (size : ℕ) (start : Content) (past : List PastStep) → HasWholeSectors size start
    → HasWholeSteps past
    → (sector : ℕ) → sector < size → AreWhole ((cache_after start past).may sector)
may-whole size start [] whole steps sector h = one-whole (start sector) (whole sector h)
may-whole size start (Puts patch fua ∷ past) whole steps sector h =
    candidates-whole (patch sector) fua ((cache_after start past).may sector) (steps.0 sector)
    (may-whole size start past whole steps.1 sector h)
may-whole size start (Flushes ∷ past) whole steps sector h =
    let now = (cache_after start past).now sector in
    one-whole now (may-whole size start past whole steps sector h now
    (is_current start past sector))

left-whole : (size : ℕ) (start : Content) (past : List PastStep) (left : Content)
    → HasWholeSectors size start → HasWholeSteps past
    → MayLeave (cache_after start past) left → HasWholeSectors size left
left-whole size start past left whole steps may =
    λ sector h. may-whole size start past whole steps sector h (left sector) (may sector)

during-whole : (size : ℕ) (start : Content) (step : PastStep) (past : List PastStep) (left : Content)
    → HasWholeSectors size start
    → HasWholeSteps (step ∷ past) → LeftDuring step (cache_after start past) left
    → HasWholeSectors size left
during-whole size start (Puts patch fua) past left whole steps during_it =
    whole-patched size patch during_it.0 left steps.0 during_it.2
    (left-whole size start past during_it.0 whole steps.1 during_it.1)
during-whole size start Flushes past left whole steps during_it =
    left-whole size start past left whole steps during_it

earlier-whole : (step : PastStep) (past : List PastStep) → HasWholeSteps (step ∷ past) → HasWholeSteps past
earlier-whole (Puts patch fua) past steps = steps.1
earlier-whole Flushes past steps = steps

-- If the first content and all values that were put are whole sectors, whatever a crash left has
-- whole sectors.
pub since-whole : (size : ℕ) (start : Content) (past : List PastStep) → HasWholeSectors size start
    → HasWholeSteps past
    → (reading : ℕ) (left : Content) → LeftSince start past reading left → HasWholeSectors size left
since-whole size start [] whole steps reading left may =
    left-whole size start [] left whole steps may
since-whole size start (step ∷ past) whole steps reading left may =
    elim (cases_lt (length past) reading) [
      | inl after ↦
          left-whole size start (step ∷ past) left whole steps (
          match_true (nat_lt (length past) reading) (MayLeave (cache_after start (step ∷ past)) left)
          (LeftSince start past reading left ⊎ LeftDuring step (cache_after start past) left)
          (lt-ltb (length past) reading after) may
          )
      | inr before ↦ elim (since-step start step past reading left before may) [
        | inl earlier ↦
            since-whole size start past whole (earlier-whole step past steps) reading left earlier
        | inr during_it ↦ during-whole size start step past left whole steps during_it
      ]
    ]

-- If the size is 1 to 1,048,576, and the first content and all values that were put have whole
-- sectors, the view is lawful.
pub view-lawful : (size : ℕ) (start : Content) (past : List PastStep) → 0 < size → size ≤ 1048576
    → HasWholeSectors size start
    → HasWholeSteps past → IsLawful (view_of size start past)
view-lawful size start past some few whole steps =
    grind (arith, is_current, since-nested, since-now, since-whole)

-- Laws of the picks of a crash: all picks leave a content that a crash may leave, and some picks
-- leave each such content.

-- If `k` is an index of the list, the list contains the element at `k`.
at-contains : (xs : List (List ℕ)) (k : ℕ) → k < length xs
    → Contains xs (unwrap_or (slice_get xs k) [])
at-contains xs k h =
    let there = slice_get-get_or xs k [] h in
    let same : unwrap_or (slice_get xs k) [] ≡ slice_index_or xs k [] =
    rw there in (
      k,
      h,
      get_or_from_slice_get xs k (unwrap_or (slice_get xs k) [])
          (unwrap_or (slice_get xs k) []) (there ∙ rw (← same)),
    )

-- A crash may leave the content that `picks` leave, whatever `picks` are.
pub picks_leave_one : (cache : Cache) (picks : List ℕ) → ValuesAreCandidates cache
    → MayLeave cache (left_by cache picks)
picks_leave_one cache picks current = λ sector.
    let one = current sector in
    let some : 0 < length (cache.may sector) = let h = one.1 in omega arith in
    at-contains (cache.may sector) (choice_of cache picks sector)
    (mod-lt (unwrap_or (slice_get picks (unsynced_below cache sector)) 0) some)

-- the picks by which each unsynced sector below a number takes its candidate at `index sector`
abbrev picks_for : Cache → (ℕ → ℕ) → ℕ → List ℕ
picks_for cache index zero = []
picks_for cache index (suc sector) =
    picks_for cache index sector
    ++ (if nat_lt 1 (length (cache.may sector)) then index sector ∷ [] else [])

length-picks : (cache : Cache) (index : ℕ → ℕ) (n : ℕ)
    → length (picks_for cache index n) ≡ unsynced_below cache n
length-picks cache index zero = refl
length-picks cache index (suc n) =
    length-append (picks_for cache index n)
    (if nat_lt 1 (length (cache.may n)) then index n ∷ [] else [])
    ∙ ap (λ (m : ℕ). m + length (if nat_lt 1 (length (cache.may n)) then index n ∷ [] else []))
    (length-picks cache index n)
    ∙ ap (λ (m : ℕ). unsynced_below cache n + m) (one (nat_lt 1 (length (cache.may n))))
  where
    one : (b : Bool) → length (if b then index n ∷ [] else []) ≡ (if b then 1 else 0)
    one true = refl
    one false = refl

-- In the picks, the index of an unsynced sector's pick is the number of unsynced sectors below it.
pick-there : (cache : Cache) (index : ℕ → ℕ) (n sector : ℕ) → sector < n
    → 1 < length (cache.may sector)
    → slice_get (picks_for cache index n) (unsynced_below cache sector) ≡ Some (index sector)
pick-there cache index zero sector h many = absurd (omega arith)
pick-there cache index (suc n) sector h many = elim (last_or_below sector n h) [
  | inl last ↦
      let more = picks_for cache index n in
      let unsynced : nat_lt 1 (length (cache.may n)) ≡ true =
      grind (arith, last)
      ∙ lt-ltb 1 (length (cache.may sector)) many in
      let place : unsynced_below cache sector ≡ length more =
      ap (unsynced_below cache) last ∙ sym (length-picks cache index n) in
      grind (arith, unsynced)
      ∙ ap (slice_get (more ++ index n ∷ [])) place
      ∙ slice_get-append_here more (index n) []
      ∙ ap (λ k. Some (index k)) (sym last)
  | inr below ↦
      let earlier = pick-there cache index n sector below many in
      slice_get-append_front (picks_for cache index n)
      (if nat_lt 1 (length (cache.may n)) then index n ∷ [] else [])
      (unsynced_below cache sector)
      (slice_get-within (picks_for cache index n) (unsynced_below cache sector)
      (index sector) earlier)
      ∙ earlier
]

-- With the picks of `picks_for`, each sector below `n` takes its candidate at `index sector`.
choice-there : (cache : Cache) (index : ℕ → ℕ) (n sector : ℕ) → sector < n
    → index sector < length (cache.may sector)
    → choice_of cache (picks_for cache index n) sector ≡ index sector
choice-there cache index n sector h within =
    grind (arith, cases_lt, pick-there, mod-eq_of_lt, mod-lt)

-- For each content that a crash may leave, some picks leave it in all sectors of the disk.
pub each_is_picked : (size : ℕ) (cache : Cache) (left : Content) → MayLeave cache left
    → (picks : List ℕ) × ((sector : ℕ) → sector < size → left_by cache picks sector ≡ left sector)
each_is_picked size cache left may =
    let index : ℕ → ℕ = λ sector. (may sector).0 in (
      picks_for cache index size,
      λ sector h.
          let there = may sector in
          ap (λ (k : ℕ). unwrap_or (slice_get (cache.may sector) k) [])
          (choice-there cache index size sector h there.1)
          ∙ ap (λ (o : Option (List ℕ)). unwrap_or o [])
          (slice_get-get_or (cache.may sector) there.0 (left sector) there.1)
          ∙ there.2,
    )

-- The view of a `SectorDisk` is lawful.

-- each value that a call puts has 512 bytes
values-whole : (call : PastCall) → HasWholeValues (change_values_of call)
values-whole call = at call.first call.change
  where
    at : (first : ℕ) (change : PastChange) → HasWholeValues (change_values first change)
    at first (Write bytes) = writes-whole first bytes
    at first (Image bytes) = writes-whole first bytes
    at first (Discard count) = discards-whole first count

-- The value of a sector by the call at any index has 512 bytes.
pub value_at-whole : (calls : List PastCall) (place sector : ℕ)
    → length (value_at calls place sector) ≡ 512
value_at-whole calls place sector = at (slice_get calls place)
  where
    there : (o : Option (List ℕ)) → ((x : List ℕ) → o ≡ Some x → length x ≡ 512)
        → length (unwrap_or o (replicate 512 0)) ≡ 512
    there None whole = refl
    there (Some x) whole = whole x refl

    at : (o : Option PastCall) → length (value_in o sector) ≡ 512
    at None = refl
    at (Some call) = there (change_values_of call sector) (values-whole call sector)

flushed-whole : (flushed : Bool) (past : List PastStep) → HasWholeSteps past
    → HasWholeSteps (flushed_if flushed past)
flushed-whole true past whole = whole
flushed-whole false past whole = whole

-- Each value that the steps of a disk's past put has 512 bytes.
steps-whole : (calls : List PastCall) (begun n : ℕ) → HasWholeSteps (stored_steps calls begun n)
steps-whole calls begun zero = tt
steps-whole calls begun (suc n) = at (slice_get calls (begun + n)) (steps-whole calls begun n)
  where
    at : (o : Option PastCall) → HasWholeSteps (stored_steps calls begun n)
        → HasWholeSteps (step_after o (stored_steps calls begun n))
    at None earlier = earlier
    at (Some call) earlier = grind (arith, values-whole, flushed-whole)

-- The view of each disk is lawful.
pub disk_lawful : (disk : SectorDisk) → IsLawful (shown_of disk)
disk_lawful disk =
    view-lawful disk.sectors (start_of disk) (shown.past_steps disk) disk.kept.some disk.kept.few
    (λ sector h. value_at-whole disk.calls.items _ sector)
    (flushed-whole disk.flushed _
    (steps-whole disk.calls.items disk.begun (length disk.calls.items - disk.begun)))

-- The content of a disk has whole sectors.
pub content_whole : (disk : SectorDisk) → HasWholeSectors disk.sectors (shown_of disk).content
content_whole disk = grind (arith, disk_lawful disk)
