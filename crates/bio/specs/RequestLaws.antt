-- Laws of the tests of requests and events, of the sectors of a request, and of requests that are
-- whole log sectors.
use Rattle.std.proofs.Common.{◌↔◌, ℕ, ◌-◌, zero, suc, ◌+◌, ◌/◌, ◌%◌, ◌==◌, ◌<◌, ◌≤◌, ◌≢◌, Bool, not}
use Rattle.std.proofs.Common.{◌&&◌, Option, Some, None, List, replicate, [], ◌∷◌, ◌++◌, length, ◌≡◌}
use Rattle.std.proofs.Common.{get_or, Result, Ok, Err, refl, ap, ◌∙◌, inl, inr, arith, true, false}
use Rattle.std.specs.Prelude.{slice_get, ◌⊎◌, is_ok, nat_lt, if◌then◌else◌}
use Rattle.std.proofs.lemmas.Bool.{ltb-false, cases_lt, and_parts, le-leb, le-ltb, leb-true, lt-ltb}
use Rattle.std.proofs.lemmas.Bool.{ltb-true}
use Rattle.std.proofs.Math.Nat.{mod-one}
use Rattle.bio.specs.Content.{over, sector_of}
use Rattle.bio.specs.declared.event.CoreEvent.{CoreEvent}
use Rattle.bio.specs.declared.event.CoreEvent.TheVariants.{Submit, Complete, Mark, Stop, Close}
use Rattle.bio.specs.declared.request.BadBio.{BadBio}
use Rattle.bio.specs.declared.request.BadBio.TheVariants.{NotWhole, TooLong, PastEnd}
use Rattle.bio.specs.declared.request.Bio.{Bio}
use Rattle.bio.specs.declared.request.Bio.TheVariants.{Write, Flush, Discard, Read}
use Rattle.bio.specs.PlaceLaws.{all_below-ext, bool_cases, differ-eqb, each_all_below, lawful-grown}
use Rattle.bio.specs.PlaceLaws.{length-snoc, slice_get-append_front, slice_get-append_here}
use Rattle.bio.specs.Events.{all_aligned, end_of, is_before, is_below, is_lawful, is_lawful_sized}
use Rattle.bio.specs.Events.{is_text, is_well_formed, is_within, submits_aligned}
use Rattle.bio.specs.Places.{all_below}
use Rattle.bio.specs.Possible.{covers_at, values_at}
use Rattle.bio.specs.Requests.{check_answer, check_sized_answer, covers, first_sector, is_aligned}
use Rattle.bio.specs.Requests.{is_tracked, overlaps, range_answer, sector_count, unless_unaligned}

-- Laws of the tests of requests and events, as statements about numbers.

-- If a request covers a sector, it is tracked, and the sector is in its range.
pub covers-parts : (bio : Bio) (sector : ℕ) → covers bio sector ≡ true
    → (is_tracked bio ≡ true) × (first_sector bio ≤ sector)
    × (sector < first_sector bio + sector_count bio)
covers-parts bio sector h =
    grind (arith, and_parts, leb-true, ltb-true)

-- a tracked request covers the sectors of its range
pub covers-within : (bio : Bio) (sector : ℕ) → is_tracked bio ≡ true → first_sector bio ≤ sector
    → sector < first_sector bio + sector_count bio
    → covers bio sector ≡ true
covers-within bio sector tracked from to = grind (arith, le-leb, lt-ltb)

-- a tracked request covers exactly the sectors of its range
pub covers-range : (bio : Bio) (sector : ℕ) → is_tracked bio ≡ true
    → (covers bio sector ≡ true)
    ↔ ((first_sector bio ≤ sector) × (sector < first_sector bio + sector_count bio))
covers-range bio sector tracked = grind (arith, covers-parts, covers-within)

-- `a` and `b` pass the tests of `overlaps`
pub record Overlap (a b : Bio) : Type 0 where
  pub first : is_tracked a ≡ true
  pub second : is_tracked b ≡ true
  pub some : 0 < sector_count a
  pub others : 0 < sector_count b
  pub below : first_sector a < first_sector b + sector_count b
  pub above : first_sector b < first_sector a + sector_count a

-- If two requests overlap, they pass the tests of `overlaps`.
pub overlaps-parts : (a b : Bio) → overlaps a b ≡ true → Overlap a b
overlaps-parts a b h = grind (arith, and_parts, ltb-true)

-- If six tests hold, their conjunction does.
six_hold : (a b c d e f : Bool) → a ≡ true → b ≡ true → c ≡ true → d ≡ true → e ≡ true → f ≡ true
    → (a && b && c && d && e && f) ≡ true
six_hold true true true true true true ha hb hc hd he hf = refl
six_hold a b c d e false ha hb hc hd he hf = cc
six_hold a b c d false f ha hb hc hd he hf = cc
six_hold a b c false e f ha hb hc hd he hf = cc
six_hold a b false d e f ha hb hc hd he hf = cc
six_hold a false c d e f ha hb hc hd he hf = cc
six_hold false b c d e f ha hb hc hd he hf = cc

-- the greater of two numbers is one of them
greater : (m n : ℕ) → (top : ℕ) × (m ≤ top) × (n ≤ top) × ((top ≡ m) ⊎ (top ≡ n))
greater m n = elim (cases_lt m n) [
  | inl below ↦ (n, omega arith, omega arith, inr refl)
  | inr above ↦ (m, omega arith, omega arith, inl refl)
]

-- Two requests overlap exactly if both cover some common sector.
pub overlaps-common : (a b : Bio)
    → (overlaps a b ≡ true) ↔ ((sector : ℕ) × (covers a sector ≡ true) × (covers b sector ≡ true))
overlaps-common a b = (
  λ h.
      let parts = overlaps-parts a b h in
      let top = greater (first_sector a) (first_sector b) in
      let some = parts.some in
      let others = parts.others in
      let below = parts.below in
      let above = parts.above in
      let within : (top.0 < first_sector a + sector_count a)
      × (top.0 < first_sector b + sector_count b) =
      elim top.3 [ inl is ↦ (omega arith, omega arith) | inr is ↦ (omega arith, omega arith) ] in (
        top.0,
        covers-within a top.0 parts.first top.1 within.0,
        covers-within b top.0 parts.second top.2 within.1,
      ),
  λ common.
      let of_a = covers-parts a common.0 common.1 in
      let of_b = covers-parts b common.0 common.2 in
      six_hold
      (is_tracked a)
      (is_tracked b)
      (nat_lt 0 (sector_count a))
      (nat_lt 0 (sector_count b))
      (nat_lt (first_sector a) (first_sector b + sector_count b))
      (nat_lt (first_sector b) (first_sector a + sector_count a))
      of_a.0
      of_b.0
      (lt-ltb 0 (sector_count a) (omega arith))
      (lt-ltb 0 (sector_count b) (omega arith))
      (lt-ltb (first_sector a) (first_sector b + sector_count b) (omega arith))
      (lt-ltb (first_sector b) (first_sector a + sector_count a) (omega arith)),
)

-- `is_below` holds exactly if an index was found that is less than `limit`.
pub is_below-found : (found : Option ℕ) (limit : ℕ)
    → (is_below found limit ≡ true) ↔ ((place : ℕ) × (found ≡ Some place) × (place < limit))
is_below-found None limit = (λ h. let none : false ≡ true = h in cc, λ some. let is = some.1 in cc)
is_below-found (Some place) limit = (
  λ h. (place, refl, ltb-true place limit h),
  λ some. let same : place ≡ some.0 =
      let is = some.1 in cc in let less = some.2 in lt-ltb place limit (omega arith),
)

-- One request ended before another was submitted exactly if its end has the lower index.
pub is_before-end : (events : List CoreEvent) (earlier later : ℕ)
    → (is_before events earlier later ≡ true)
    ↔ ((end : ℕ) × (end_of events earlier ≡ Some end) × (end < later))
is_before-end events earlier later = is_below-found (end_of events earlier) later

-- A byte passes the test of `is_text` exactly if it isn't zero.
nonzero : (byte : ℕ) → (not (byte == 0) ≡ true) ↔ (byte ≢ 0)
nonzero zero = (λ h. let none : false ≡ true = h in cc, λ differ. absurd (differ refl))
nonzero (suc byte) = (λ h e. omega arith, λ differ. ap not (differ-eqb (suc byte) 0 differ))

-- A text passes `is_text` exactly if none of its bytes is zero.
pub is_text-nonzero : (text : List ℕ)
    → (is_text text ≡ true) ↔ ((k : ℕ) → k < length text → get_or text k 0 ≢ 0)
is_text-nonzero [] = (λ h k less. absurd (omega arith), λ each. refl)
is_text-nonzero (byte ∷ text) = (
  λ h.
      let parts = and_parts (not (byte == 0)) (is_text text) h in
      each_of byte text ((nonzero byte).0 parts.0) ((is_text-nonzero text).0 parts.1),
  λ each.
      ap (λ b. b && is_text text) ((nonzero byte).1 (each 0 (omega arith)))
      ∙ (is_text-nonzero text).1 (λ k less. each (suc k) (omega arith)),
)
  where
    each_of : (byte : ℕ) (text : List ℕ) → byte ≢ 0
        → ((k : ℕ) → k < length text → get_or text k 0 ≢ 0)
        → (k : ℕ) → k < length (byte ∷ text) → get_or (byte ∷ text) k 0 ≢ 0
    each_of byte text here others zero less = here
    each_of byte text here others (suc k) less = others k (omega arith)

-- the result for a range whose three tests of `range_answer` give `none`, `long` and `past`
range_of_tests : Bool → Bool → Bool → Result (Unit {0}) BadBio
range_of_tests none long past =
    if none then Err NotWhole else if long then Err TooLong else if past then Err PastEnd else Ok tt

-- if the result is Ok, the range isn't past the end
not_past : (none long past : Bool) → range_of_tests none long past ≡ Ok tt → past ≡ false
unfolding range_of_tests
not_past true long past e = cc
not_past false true past e = cc
not_past false false true e = cc
not_past false false false e = refl

-- a range that may be sent to a device may be sent to a larger one
range_answer-larger : (first count n m : ℕ) → range_answer first count n ≡ Ok tt → n ≤ m
    → range_answer first count m ≡ Ok tt
unfolding range_of_tests
range_answer-larger first count n m passed more =
    grind (arith, not_past, ltb-false, range_of_tests, le-ltb)

-- a write that may be sent to a device may be sent to a larger one; `whole` says whether its data
-- is whole sectors
write_answer-larger : (whole : Bool) (first count n m : ℕ)
    → (if whole then range_answer first count n else Err NotWhole) ≡ Ok tt → n ≤ m
    → (if whole then range_answer first count m else Err NotWhole) ≡ Ok tt
write_answer-larger true first count n m passed more =
    range_answer-larger first count n m passed more
write_answer-larger false first count n m passed more = passed

-- a request that may be sent to a device may be sent to a larger one
pub check_answer-larger : (bio : Bio) (n m : ℕ) → check_answer bio n ≡ Ok tt → n ≤ m
    → check_answer bio m ≡ Ok tt
check_answer-larger (Write first bytes flush fua meta) n m passed more =
    grind (arith, write_answer-larger)
check_answer-larger Flush n m passed more = refl
check_answer-larger (Discard first count) n m passed more =
    range_answer-larger first count n m passed more
check_answer-larger (Read first count) n m passed more =
    range_answer-larger first count n m passed more

-- a result that passes `is_ok` is Ok
pub is_ok-ok : (answer : Result (Unit {0}) BadBio) → is_ok answer ≡ true → answer ≡ Ok tt
is_ok-ok (Ok tt) e = refl
is_ok-ok (Err bad) e = cc

-- a request that may be sent to a device ends within it
pub passed_within : (bio : Bio) (sectors : ℕ) → check_answer bio sectors ≡ Ok tt
    → first_sector bio + sector_count bio ≤ sectors
unfolding range_of_tests
passed_within (Write first bytes flush fua meta) sectors passed =
    let past = by_whole (length bytes % 512 == 0) passed in
    ltb-false sectors (first + length bytes / 512) past
  where
    by_whole : (whole : Bool)
        → (if whole then range_answer first (length bytes / 512) sectors else Err NotWhole) ≡ Ok tt
        → nat_lt sectors (first + length bytes / 512) ≡ false
    by_whole true e = grind (arith, not_past)
    by_whole false e = cc
passed_within Flush sectors passed = omega arith
passed_within (Discard first count) sectors passed = grind (arith, ltb-false, not_past)
passed_within (Read first count) sectors passed = grind (arith, ltb-false, not_past)

-- If an event is within a device, the request that it submits ends within the device.
pub submits_within : (bio : Bio) (sectors : ℕ) → is_within sectors (Some (Submit bio)) ≡ true
    → first_sector bio + sector_count bio ≤ sectors
submits_within bio sectors within =
    passed_within bio sectors (is_ok-ok (check_answer bio sectors) within)

-- if an event is within a device, its request covers no sector past the device's end
pub event_within : (event : Option CoreEvent) (sectors sector : ℕ) → is_within sectors event ≡ true
    → sectors ≤ sector → covers_at sector event ≡ false
event_within (Some (Submit bio)) sectors sector within past =
    grind (arith, bool_cases, covers-parts, submits_within)
event_within (Some (Complete id ok)) sectors sector within past = refl
event_within (Some (Mark text)) sectors sector within past = refl
event_within (Some (Stop cause)) sectors sector within past = refl
event_within (Some Close) sectors sector within past = refl
event_within None sectors sector within past = refl

-- The sectors for which a request has values: exactly those that it covers.

-- If a request doesn't cover a sector, it has no value for it.
request_uncovered : (bio : Bio) (sector : ℕ) → covers bio sector ≡ false
    → values_at (Some (Submit bio)) sector ≡ None
unfolding over
request_uncovered (Write first bytes flush fua meta) sector passes = grind arith
request_uncovered Flush sector passes = refl
request_uncovered (Discard first count) sector passes = grind arith
request_uncovered (Read first count) sector passes = refl

-- If an event's request doesn't cover a sector, the event has no value for it.
pub uncovered_value : (event : Option CoreEvent) (sector : ℕ) → covers_at sector event ≡ false
    → values_at event sector ≡ None
uncovered_value (Some (Submit bio)) sector passes = request_uncovered bio sector passes
uncovered_value (Some (Complete id ok)) sector passes = refl
uncovered_value (Some (Mark text)) sector passes = refl
uncovered_value (Some (Stop cause)) sector passes = refl
uncovered_value (Some Close) sector passes = refl
uncovered_value None sector passes = refl

-- a request has a value for each sector that it covers
request_covered : (bio : Bio) (sector : ℕ) → covers bio sector ≡ true
    → (value : List ℕ) × (values_at (Some (Submit bio)) sector ≡ Some value)
unfolding over
request_covered (Write first bytes flush fua meta) sector covered = (
  sector_of bytes (sector - first),
  rw covered,
)
request_covered Flush sector covered =
    let range = covers-parts Flush sector covered in let less = range.2 in absurd (omega arith)
request_covered (Discard first count) sector covered =
    (replicate 512 0, rw covered)
request_covered (Read first count) sector covered = cc

pub covered_value : (event : Option CoreEvent) (sector : ℕ) → covers_at sector event ≡ true
    → (value : List ℕ) × (values_at event sector ≡ Some value)
covered_value (Some (Submit bio)) sector covered = request_covered bio sector covered
covered_value (Some (Complete id ok)) sector covered = cc
covered_value (Some (Mark text)) sector covered = cc
covered_value (Some (Stop cause)) sector covered = cc
covered_value (Some Close) sector covered = cc
covered_value None sector covered = cc

-- If an event has a value for a sector, its request covers the sector.
pub value_covers : (event : Option CoreEvent) (sector : ℕ) (value : List ℕ)
    → values_at event sector ≡ Some value → covers_at sector event ≡ true
value_covers event sector value is = grind (arith, bool_cases, uncovered_value)

-- Laws of requests that are whole log sectors.

-- each request is aligned to log sectors of 512 bytes
pub small_sectors_align : (bio : Bio) → is_aligned 512 bio ≡ true
small_sectors_align bio =
    rw (mod-one (first_sector bio), mod-one (sector_count bio))

-- for an aligned request the result of `check` stays
pub aligned_answer : (answer : Result (Unit {0}) BadBio) → unless_unaligned true answer ≡ answer
aligned_answer (Ok tt) = refl
aligned_answer (Err bad) = refl

-- with log sectors of 512 bytes `check_sized` gives the result of `check`
pub small_answer : (bio : Bio) (sectors : ℕ)
    → check_sized_answer 512 bio sectors ≡ check_answer bio sectors
small_answer bio sectors =
    rw (small_sectors_align bio) (aligned_answer (check_answer bio sectors))

-- if the result is Ok, both tests passed
both_passed : (aligned : Bool) (answer : Result (Unit {0}) BadBio)
    → unless_unaligned aligned answer ≡ Ok tt → (answer ≡ Ok tt) × (aligned ≡ true)
both_passed true (Ok tt) e = (refl, refl)
both_passed false (Ok tt) e = cc
both_passed aligned (Err bad) e = cc

pub sized_passed : (size : ℕ) (bio : Bio) (sectors : ℕ)
    → check_sized_answer size bio sectors ≡ Ok tt
    → (check_answer bio sectors ≡ Ok tt) × (is_aligned size bio ≡ true)
sized_passed size bio sectors passed =
    both_passed (is_aligned size bio) (check_answer bio sectors) passed

-- if both tests passed, the result is Ok
pub sized_passes : (size : ℕ) (bio : Bio) (sectors : ℕ) → check_answer bio sectors ≡ Ok tt
    → is_aligned size bio ≡ true
    → check_sized_answer size bio sectors ≡ Ok tt
sized_passes size bio sectors passed aligned =
    rw aligned (aligned_answer (check_answer bio sectors) ∙ passed)

-- each event's request is aligned to log sectors of 512 bytes
pub submits_small : (event : Option CoreEvent) → submits_aligned 512 event ≡ true
submits_small (Some (Submit bio)) = small_sectors_align bio
submits_small (Some (Complete id ok)) = refl
submits_small (Some (Mark text)) = refl
submits_small (Some (Stop cause)) = refl
submits_small (Some Close) = refl
submits_small None = refl

-- with log sectors of 512 bytes all requests are aligned
pub all_small : (events : List CoreEvent) → all_aligned 512 events ≡ true
all_small events =
    each_all_below (λ place. submits_aligned 512 (slice_get events place)) (length events)
    (λ place less. submits_small (slice_get events place))

-- If a list is lawful with log sectors of `size` bytes, it is lawful, and all requests are aligned.
pub lawful_parts : (size sectors : ℕ) (events : List CoreEvent)
    → is_lawful_sized size sectors events ≡ true
    → (is_lawful sectors events ≡ true) × (all_aligned size events ≡ true)
lawful_parts size sectors events lawful =
    and_parts (is_lawful sectors events) (all_aligned size events) lawful

-- `is_lawful_sized` with log sectors of 512 bytes is `is_lawful`.
pub lawful_small : (sectors : ℕ) (events : List CoreEvent)
    → is_lawful_sized 512 sectors events ≡ is_lawful sectors events
lawful_small sectors events =
    and_true (is_lawful sectors events) (all_aligned 512 events) (all_small events)
  where
    and_true : (a b : Bool) → b ≡ true → (a && b) ≡ a
    and_true true b h = h
    and_true false b h = refl

-- If all requests are aligned, and an event with an aligned request or none is added, all are
-- aligned.
pub aligned-grown : (size : ℕ) (events : List CoreEvent) (event : CoreEvent)
    → all_aligned size events ≡ true
    → submits_aligned size (Some event) ≡ true → all_aligned size (events ++ event ∷ []) ≡ true
aligned-grown size events event aligned here =
    let longer : ℕ → Bool = λ k. submits_aligned size (slice_get (events ++ event ∷ []) k) in
    let test : ℕ → Bool = λ k. submits_aligned size (slice_get events k) in
    ap (all_below longer) (length-snoc events event)
    ∙ ap (λ b. b && longer (length events)) (
    all_below-ext longer test (length events)
    (λ k h. ap (submits_aligned size) (slice_get-append_front events (event ∷ []) k h))
    ∙ aligned)
    ∙ ap (submits_aligned size) (slice_get-append_here events event [])
    ∙ here

-- A lawful list stays lawful if an event is added that leaves it well-formed, and whose request, if
-- any, passes `check` and is aligned.
pub sized-grown : (size sectors : ℕ) (events : List CoreEvent) (event : CoreEvent)
    → is_well_formed (events ++ event ∷ []) ≡ true
    → is_lawful_sized size sectors events ≡ true → is_within sectors (Some event) ≡ true
    → submits_aligned size (Some event) ≡ true
    → is_lawful_sized size sectors (events ++ event ∷ []) ≡ true
sized-grown size sectors events event well_formed lawful within aligned =
    let parts = lawful_parts size sectors events lawful in
    ap (λ b. b && all_aligned size (events ++ event ∷ []))
    (lawful-grown sectors events event well_formed parts.0 within)
    ∙ aligned-grown size events event parts.1 aligned
