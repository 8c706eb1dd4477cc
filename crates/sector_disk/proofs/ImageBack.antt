-- Laws of the values of sectors, of each sector's chain of calls, and of the image that a disk
-- returns.
use Rattle.std.proofs.Common.{◌/◌, ◌<◌, ◌≤◌, Some, None, ◌&&◌, Bool, false, [], ◌∷◌, ◌++◌, length}
use Rattle.std.proofs.Common.{take, drop, ◌≡◌, ℕ, suc, zero, ◌+◌, ◌-◌, ◌*◌, replicate, ap, refl}
use Rattle.std.proofs.Common.{sym, ◌∙◌, append_assoc, inl, inr, arith, true, get_or, List}
use Rattle.std.specs.Prelude.{nat_lt, ◌⊎◌, ◌==◌, Option, slice_get, unwrap_or}
use Rattle.std.proofs.lemmas.Bool.{and_parts, cases_lt, eqb-true, ltb-true}
use Rattle.std.proofs.lemmas.List.{append-nil, drop-drop, take_all}
use Rattle.std.proofs.lemmas.Slice.{drop-put_mid, take-put_mid}
use Rattle.std.proofs.Math.Seq.{take-add}
use borrow.Rule.Slice.PartMut.{put_mid}
use Rattle.bio.specs.Content.{Content, HasWholeValues, discards, gather, over, sector_of, writes}
use Rattle.bio.specs.ContentLaws.{over_cases, discards-whole, writes-whole, over-after, over-before}
use Rattle.bio.specs.ContentLaws.{gather-ext, gather-sector_of, length-gather, over-in}
use Rattle.bio.specs.PlaceLaws.{last_or_below, length-snoc, slice_get-append_front}
use Rattle.bio.specs.PlaceLaws.{slice_get-append_here}
use Rattle.sector_disk.specs.declared.call.PastCall.{PastCall}
use Rattle.sector_disk.specs.declared.call.PastChange.{PastChange}
use Rattle.sector_disk.specs.declared.call.PastChange.TheVariants.{Write, Image, Discard}
use Rattle.sector_disk.specs.inside.Storage.{IsPlaced, back, before_at, change_values, content_at}
use Rattle.sector_disk.specs.inside.Storage.{is_chain, is_image_in, is_open, is_write_of, left_at}
use Rattle.sector_disk.specs.inside.Storage.{place_of, put_over, value_at, value_in, change_values_of}
use Rattle.sector_disk.specs.inside.Storage.{walk}

pub written_whole : (bytes : List ℕ) (sector : ℕ) → sector < length bytes / 512
    → unwrap_or (writes 0 bytes sector) (replicate 512 0) ≡ sector_of bytes sector
written_whole bytes sector within =
    let place : sector ≡ 0 + sector = omega arith in
    grind (arith, place)
    ∙ ap (λ (o : Option (List ℕ)). unwrap_or o (replicate 512 0))
    (over-in 0 (length bytes / 512) (sector_of bytes) sector within)

pub left_later : (later : List PastCall) (image : List ℕ) (place sector : ℕ) → 0 < place
    → left_at later image place sector ≡ value_at later (place - 1) sector
left_later later image zero sector some = absurd (omega arith)
left_later later image (suc place) sector some = grind arith

pub left_first : (later : List PastCall) (image : List ℕ) (place sector : ℕ) → (0 < place → ⊥)
    → left_at later image place sector ≡ sector_of image sector
left_first later image zero sector none = refl
left_first later image (suc place) sector none = absurd (none (omega arith))

pub rest-next : (index : ℕ) (old first : List ℕ) → drop (512 * index) old ≡ drop (512 * index) first
    → drop (512 * (index + 1)) old ≡ drop (512 * (index + 1)) first
rest-next index old first rest =
    let place : 512 * (index + 1) ≡ 512 * index + 512 = omega arith in
    grind (arith, place)
    ∙ sym (drop-drop 512 (512 * index) old)
    ∙ ap (drop 512) rest
    ∙ drop-drop 512 (512 * index) first
    ∙ ap (λ (n : ℕ). drop n first) (sym place)

pub rest-put : (index : ℕ) (old first value : List ℕ) → 512 * (index + 1) ≤ length old
    → length value ≡ 512
    → drop (512 * index) old ≡ drop (512 * index) first
    → drop (512 * (index + 1)) (put_mid (index * 512) (index * 512 + 512 - index * 512) old value)
    ≡ drop (512 * (index + 1)) first
rest-put index old first value within size rest = grind (arith, drop-put_mid, rest-next)

pub gather-kept : (content : Content) (index : ℕ) (old first : List ℕ)
    → drop (512 * index) old ≡ drop (512 * index) first
    → content index ≡ sector_of first index → take (512 * index) old ≡ gather content 0 index
    → take (512 * (index + 1)) old ≡ gather content 0 (index + 1)
gather-kept content index old first rest is earlier =
    let place : 512 * (index + 1) ≡ 512 * index + 512 = omega arith in
    let more : suc index ≡ index + 1 = omega arith in
    let from : index ≡ 0 + index = omega arith in
    grind (arith, place)
    ∙ take-add (512 * index) 512 old
    ∙ ap (λ (xs : List ℕ). xs ++ take 512 (drop (512 * index) old)) earlier
    ∙ ap (λ (xs : List ℕ). gather content 0 index ++ take 512 xs) rest
    ∙ ap (λ (xs : List ℕ). gather content 0 index ++ xs) (sym is ∙ ap content from)
    ∙ ap (gather content 0) more

-- the image that the first call wrote, with later calls' values put over it, is the content
pub given : (calls : List PastCall) (places : List ℕ) (sectors : ℕ) (first : PastCall)
    (bytes image : List ℕ) → first ≡ get_or calls 0 first
    → first.change ≡ Write bytes → image ≡ bytes
    → is_image_in (slice_get calls 0) sectors ≡ true
    → gather (put_over (take (length calls - 1) (drop 1 calls)) places image) 0 sectors
    ≡ gather (content_at calls places) 0 sectors
given [] places sectors first bytes image at is same covers = cc
given (call ∷ later) places sectors first bytes image at is same covers =
    gather-ext (put_over (take (length (call ∷ later) - 1) later) places image)
    (content_at (call ∷ later) places) 0 0 sectors
    (λ s within. each (place_of places (0 + s)) (0 + s) (omega arith))
  where
    change_is : call.change ≡ Write bytes
    change_is = grind arith

    split : (a b : Bool) → (a && b) ≡ true → (a ≡ true) × (b ≡ true)
    split true b both = (refl, both)
    split false b both = cc

    parts : ((call.first == 0) ≡ true) × (is_write_of call.change sectors ≡ true)
    parts = split (call.first == 0) (is_write_of call.change sectors) covers

    zero_is : call.first ≡ 0
    zero_is = eqb-true call.first 0 parts.0

    size_is : length bytes ≡ sectors * 512
    size_is = grind (arith, eqb-true, change_is)

    each : (place sector : ℕ) → sector < sectors
        → left_at (take (length (call ∷ later) - 1) later) image place sector
        ≡ value_at (call ∷ later) place sector
    each zero sector within =
        grind (arith, size_is, zero_is, change_is, written_whole)
    each (suc place) sector within = grind (arith, take_all)

pub written-none : (first sector : ℕ) (bytes : List ℕ)
    → (sector < first) ⊎ (length bytes / 512 ≤ sector - first) → writes first bytes sector ≡ None
written-none first sector bytes outside = elim outside [
  | inl before ↦ over-before first (length bytes / 512) (sector_of bytes) sector before
  | inr after ↦ early after
]
  where
    early : length bytes / 512 ≤ sector - first → writes first bytes sector ≡ None
    early after = grind (arith, cases_lt, over-before, over-after)

pub written-some : (first sector : ℕ) (bytes : List ℕ) → first ≤ sector
    → sector - first < length bytes / 512
    → writes first bytes sector ≡ Some (take 512 (drop ((sector - first) * 512) bytes))
written-some first sector bytes low high =
    let place : sector ≡ first + (sector - first) = omega arith in
    let from : 512 * (sector - first) ≡ (sector - first) * 512 = omega arith in
    ap (over first (length bytes / 512) (sector_of bytes)) place
    ∙ over-in first (length bytes / 512) (sector_of bytes) (sector - first) high
    ∙ ap (λ (n : ℕ). Some (take 512 (drop n bytes))) from

-- a sector outside the discarded range is zeroes too, since that is the default
pub discarded : (first count sector : ℕ)
    → unwrap_or (discards first count sector) (replicate 512 0) ≡ replicate 512 0
discarded first count sector = grind (arith, over_cases, over-in)

-- sectors that only the image in the first call put have the image's bytes
pub gather-image : (calls : List PastCall) (places : List ℕ) (call : PastCall) (image : List ℕ)
    (first n from : ℕ) → slice_get calls 0 ≡ Some call → call.first ≡ 0
    → call.change ≡ Image image → ((k : ℕ) → k < n → place_of places (first + k) ≡ 0)
    → from ≡ 512 * first → from + 512 * n ≤ length image
    → take (512 * n) (drop from image) ≡ gather (content_at calls places) first n
gather-image calls places call image first n from at zero_is change zeroes place within =
    rw place (sym (gather-sector_of image first n))
    ∙ gather-ext (sector_of image) (content_at calls places) first first n (λ k less.
    sym (ap (λ p. value_at calls p (first + k)) (zeroes k less)
    ∙ ap (λ o. value_in o (first + k)) at
    ∙ grind (arith, zero_is, change, written_whole)))

gather-add : (content : Content) (first m n : ℕ)
    → gather content first (m + n) ≡ gather content first m ++ gather content (first + m) n
gather-add content first m zero = grind (arith, append-nil)
gather-add content first m (suc n) =
    let more : m + suc n ≡ suc (m + n) = omega arith in
    let place : first + m + n ≡ first + (m + n) = omega arith in
    ap (gather content first) more
    ∙ ap (λ xs. xs ++ content (first + (m + n))) (gather-add content first m n)
    ∙ append_assoc (gather content first m) (gather content (first + m) n) (content (first + (m + n)))
    ∙ ap (λ p. gather content first m ++ (gather content (first + m) n ++ content p)) (sym place)

pub gather-more : (content : Content) (first index n : ℕ) (old new value : List ℕ)
    → 512 * index ≤ length old → length value ≡ 512 * n
    → new ≡ put_mid (index * 512) (index * 512 + n * 512 - index * 512) old value
    → value ≡ gather content (first + index) n
    → take (512 * index) old ≡ gather content first index
    → take (512 * (index + n)) new ≡ gather content first (index + n)
gather-more content first index n old new value within size is read earlier =
    grind (arith, take-put_mid, gather-add)

pub gather-next : (content : Content) (first index : ℕ) (old new value : List ℕ)
    → 512 * (index + 1) ≤ length old → length value ≡ 512
    → new ≡ put_mid (index * 512) (index * 512 + 512 - index * 512) old value
    → value ≡ content (first + index)
    → take (512 * index) old ≡ gather content first index
    → take (512 * (index + 1)) new ≡ gather content first (index + 1)
gather-next content first index old new value within size is read earlier =
    grind (arith, take-put_mid)

pub length-value_at : (calls : List PastCall) (place sector : ℕ)
    → length (value_at calls place sector) ≡ 512
length-value_at calls place sector = at (slice_get calls place)
  where
    values : (call : PastCall) → HasWholeValues (change_values_of call)
    values call = by_change call.first call.change
      where
        by_change : (from : ℕ) (change : PastChange) → HasWholeValues (change_values from change)
        by_change from (Write bytes) = writes-whole from bytes
        by_change from (Image bytes) = writes-whole from bytes
        by_change from (Discard count) = discards-whole from count

    there : (o : Option (List ℕ)) → ((x : List ℕ) → o ≡ Some x → length x ≡ 512)
        → length (unwrap_or o (replicate 512 0)) ≡ 512
    there None whole = refl
    there (Some x) whole = whole x refl

    at : (o : Option PastCall) → length (value_in o sector) ≡ 512
    at None = refl
    at (Some call) = there (change_values_of call sector) (values call sector)

pub length-gather_at : (calls : List PastCall) (places : List ℕ) (first n : ℕ)
    → length (gather (content_at calls places) first n) ≡ 512 * n
length-gather_at calls places first n =
    length-gather (first + n) (content_at calls places) first n
    (λ sector within. length-value_at calls (place_of places sector) sector) (omega arith)

chain_parts : (calls : List PastCall) (synced s n place : ℕ)
    → is_chain calls synced s (suc (suc n)) place ≡ true
    → (nat_lt place (length calls) ≡ true) × (is_open calls synced place ≡ true)
    × (is_chain calls synced s (suc n) (before_at calls place s) ≡ true)
chain_parts calls synced s n place e = grind (arith, and_parts)

pub chain-within : (calls : List PastCall) (synced s n place : ℕ)
    → is_chain calls synced s n place ≡ true → place < length calls
chain-within calls synced s zero place e = let never : ⊥ = cc in absurd never
chain-within calls synced s (suc zero) place e = grind (arith, ltb-true, and_parts)
chain-within calls synced s (suc (suc n)) place e = grind (arith, ltb-true, chain_parts)

pub chain-open : (calls : List PastCall) (synced s n place : ℕ) → is_chain calls synced s n place ≡ true
    → is_open calls synced place ≡ true
    → (1 < n) × (is_chain calls synced s (n - 1) (before_at calls place s) ≡ true)
chain-open calls synced s zero place e open_there = let never : ⊥ = cc in absurd never
chain-open calls synced s (suc zero) place e open_there = grind (arith, and_parts)
chain-open calls synced s (suc (suc n)) place e open_there =
    let parts = chain_parts calls synced s n place e in
    let less : suc (suc n) - 1 ≡ suc n = omega arith in (
      omega arith,
      rw less parts.2,
    )

pub chain-closed : (calls : List PastCall) (synced s n place : ℕ)
    → is_chain calls synced s n place ≡ true → is_open calls synced place ≡ false → n ≡ 1
chain-closed calls synced s zero place e closed = let never : ⊥ = cc in absurd never
chain-closed calls synced s (suc zero) place e closed = refl
chain-closed calls synced s (suc (suc n)) place e closed = grind (arith, chain_parts)

pub walk-within : (calls : List PastCall) (synced s n place k : ℕ)
    → is_chain calls synced s n place ≡ true → k < n → walk calls s k place < length calls
walk-within calls synced s n place zero e h = chain-within calls synced s n place e
walk-within calls synced s (suc (suc n)) place (suc k) e h =
    walk-within calls synced s (suc n) (before_at calls place s) k
    (chain_parts calls synced s n place e).2 (omega arith)
walk-within calls synced s other place (suc k) e h = absurd (omega arith)

pub length-back : (calls : List PastCall) (s n place : ℕ) → length (back calls s n place) ≡ n
length-back calls s zero place = refl
length-back calls s (suc n) place =
    grind (arith, length-back calls s n (before_at calls place s), length-snoc)

pub back-at : (calls : List PastCall) (s n place j : ℕ) → j < n
    → slice_get (back calls s n place) j ≡ Some (value_at calls (walk calls s (n - 1 - j) place) s)
back-at calls s zero place j h = absurd (omega arith)
back-at calls s (suc n) place j h = elim (last_or_below j n h) [
  | inl last ↦
      let old = back calls s n (before_at calls place s) in
      let value = value_at calls place s in
      let here : j ≡ length old = last ∙ sym (length-back calls s n (before_at calls place s)) in
      let none : 0 ≡ suc n - 1 - j = omega arith in
      ap (slice_get (old ++ value ∷ [])) here ∙ slice_get-append_here old value []
      ∙ ap (λ (k : ℕ). Some (value_at calls (walk calls s k place) s)) none
  | inr below ↦
      let old = back calls s n (before_at calls place s) in
      let value = value_at calls place s in
      let size = length-back calls s n (before_at calls place s) in
      let more : suc (n - 1 - j) ≡ suc n - 1 - j = omega arith in
      slice_get-append_front old (value ∷ []) j (omega arith)
      ∙ back-at calls s n (before_at calls place s) j below
      ∙ ap (λ (k : ℕ). Some (value_at calls (walk calls s k place) s)) more
]

pub candidate-value : (calls : List PastCall) (synced s place : ℕ) (now : List ℕ) (may : List (List ℕ))
    (j : ℕ)
    → IsPlaced calls synced s place now may → j < length may
    → value_at calls (walk calls s (length may - 1 - j) place) s ≡ unwrap_or (slice_get may j) []
candidate-value calls synced s place now may j placed h = grind (arith, back-at)

pub candidate-within : (calls : List PastCall) (synced s place : ℕ) (now : List ℕ) (may : List (List ℕ))
    (j : ℕ)
    → IsPlaced calls synced s place now may → j < length may
    → walk calls s (length may - 1 - j) place < length calls
candidate-within calls synced s place now may j placed h = grind (arith, walk-within)
