-- Laws of contents: after a patch, after its parts, and of the bytes in ranges of sectors.
use Rattle.std.proofs.Common.{◌++◌, None, arith, ◌≡◌, ℕ, ◌+◌, ◌-◌, ◌*◌, ◌/◌, ◌<◌, ◌≤◌, true, false}
use Rattle.std.proofs.Common.{◌&&◌, Some, List, length, take, drop, replicate, refl, ap, sym, ◌∙◌}
use Rattle.std.proofs.Common.{length-append, ⊎_elim, inl, inr, zero, suc}
use Rattle.std.specs.Prelude.{◌⊎◌, nat_lt, nat_le, if◌then◌else◌}
use Rattle.std.proofs.lemmas.Bool.{cases_lt, lt-ltb, le-ltb, le-leb, leb-true}
use Rattle.std.proofs.lemmas.List.{drop-append-le, drop-drop, drop-take, length-drop}
use Rattle.std.proofs.lemmas.List.{length-replicate, length-take-le, take-append-le, take-take}
use Rattle.std.proofs.lemmas.List.{take_all}
use Rattle.std.proofs.Math.Bool.{and-false}
use Rattle.std.proofs.Math.Seq.{drop-append-add, drop-append_seam, take-add}
use Rattle.bio.specs.Content.{AgreeBelow, AgreeWithin, Content, HasBytes, HasNoneBelow, HasNoneFrom}
use Rattle.bio.specs.Content.{HasWholeSectors, HasWholeValues, IsPart, Joins, Patch, Patched}
use Rattle.bio.specs.Content.{SameValues, below, between, discards, gather, moved, nothing, over}
use Rattle.bio.specs.Content.{put, sector_of, writes}
use Rattle.bio.specs.PlaceLaws.{bool_cases, last_or_below, option_cases}

-- Laws of `over`, for proofs that don't unfold it, and of the content after a patch.

-- The patch `over first count value` has `value k` for sector `first + k`.
pub over-in : (first count : ℕ) (value : ℕ → List ℕ) (k : ℕ) → k < count
    → over first count value (first + k) ≡ Some (value k)
unfolding over
over-in first count value k h = grind (arith, le-leb, lt-ltb)

-- the patch has no value for a sector before the range
pub over-before : (first count : ℕ) (value : ℕ → List ℕ) (sector : ℕ) → sector < first
    → over first count value sector ≡ None
unfolding over
over-before first count value sector h =
    ap (λ b. if b && nat_lt sector (first + count) then Some (value (sector - first)) else None)
    (lt-leb first sector h)
  where
    lt-leb : (a b : ℕ) → b < a → nat_le a b ≡ false
    lt-leb a b less = grind (arith, bool_cases, leb-true)

-- the patch has no value for a sector after the range
pub over-after : (first count : ℕ) (value : ℕ → List ℕ) (sector : ℕ) → first + count ≤ sector
    → over first count value sector ≡ None
unfolding over
over-after first count value sector h = grind (arith, le-ltb, and-false)

-- a sector is in the range, or the patch has no value for it
pub over_cases : (first count : ℕ) (value : ℕ → List ℕ) (sector : ℕ)
    → ((k : ℕ) × (k < count) × (sector ≡ first + k)) ⊎ (over first count value sector ≡ None)
over_cases first count value sector = elim (cases_lt sector first) [
  | inl before ↦ inr (over-before first count value sector before)
  | inr from ↦ elim (cases_lt sector (first + count)) [
    | inl within ↦ inl (sector - first, omega arith, omega arith)
    | inr after ↦ inr (over-after first count value sector after)
  ]
]

-- The definition of `over`, for proofs that don't unfold it.
pub over-at : (first count : ℕ) (value : ℕ → List ℕ) (sector : ℕ)
    → over first count value sector
    ≡ (if nat_le first sector
    && nat_lt sector (first + count) then Some (value (sector - first)) else None)
unfolding over
over-at first count value sector = refl

-- a sector is before a range, within it or after it
pub range_cases : (first count sector : ℕ)
    → (sector < first) ⊎ (((k : ℕ) × (k < count) × (sector ≡ first + k)) ⊎ (first + count ≤ sector))
range_cases first count sector = elim (cases_lt sector first) [
  | inl before ↦ inl before
  | inr from ↦ elim (cases_lt sector (first + count)) [
    | inl within ↦ inr (inl (sector - first, omega arith, omega arith))
    | inr after ↦ inr (inr after)
  ]
]

-- If a range is moved by `offset`, its values move with it.
pub over-shift : (offset first count : ℕ) (value : ℕ → List ℕ) (sector : ℕ)
    → over (offset + first) count value (offset + sector) ≡ over first count value sector
over-shift offset first count value sector = elim (range_cases first count sector) [
  | inl before ↦
      over-before (offset + first) count value (offset + sector) (omega arith)
      ∙ sym (over-before first count value sector before)
  | inr from ↦ elim from [
    | inl within ↦
        let place = within.2 in
        ap (over (offset + first) count value) (omega arith)
        ∙ over-in (offset + first) count value within.0 within.1
        ∙ sym (over-in first count value within.0 within.1)
        ∙ ap (over first count value) (sym place)
    | inr after ↦
        over-after (offset + first) count value (offset + sector) (omega arith)
        ∙ sym (over-after first count value sector after)
  ]
]

-- A sector for which the patch has a value gets it.
pub put-some : (patch : Patch) (content : Content) (sector : ℕ) (value : List ℕ)
    → patch sector ≡ Some value → put patch content sector ≡ value
put-some patch content sector value is = grind arith

-- A sector for which the patch has no value is unchanged.
pub put-none : (patch : Patch) (content : Content) (sector : ℕ) → patch sector ≡ None
    → put patch content sector ≡ content sector
put-none patch content sector is = grind arith

-- After the values of a range are put, each sector of the range has its value.
pub put-in : (first count : ℕ) (value : ℕ → List ℕ) (content : Content) (k : ℕ) → k < count
    → put (over first count value) content (first + k) ≡ value k
put-in first count value content k h = grind (arith, put-some, over-in)

-- After a write, the content has the write's bytes.
pub HasBytes-put : (first : ℕ) (bytes : List ℕ) (content : Content)
    → HasBytes (put (writes first bytes) content) first bytes
HasBytes-put first bytes content = put-in first (length bytes / 512) (sector_of bytes) content

-- After a discard, each of its sectors is zeroes.
pub discards-zeroes : (first count : ℕ) (content : Content) (k : ℕ) → k < count
    → put (discards first count) content (first + k) ≡ replicate 512 0
discards-zeroes first count content k h = put-in first count (λ _. replicate 512 0) content k h

-- a range has no values below its first sector
pub over-below : (end first count : ℕ) (value : ℕ → List ℕ) → end ≤ first
    → HasNoneBelow end (over first count value)
over-below end first count value h = grind (arith, over-before)

-- If a patch has no values below `end`, the contents before and after it agree there.
pub below-patched : (end : ℕ) (patch : Patch) (old new : Content) → HasNoneBelow end patch
    → Patched patch old new → AgreeBelow end old new
below-patched end patch old new none patched = grind (arith, put-none)

-- If the patch's values have 512 bytes each, a disk of whole sectors has whole sectors after the
-- patch.
pub whole-patched : (disk : ℕ) (patch : Patch) (old new : Content) → HasWholeValues patch
    → Patched patch old new
    → HasWholeSectors disk old → HasWholeSectors disk new
whole-patched disk patch old new values patched whole =
    grind (arith, option_cases, put-none, put-some)

-- If each `value k` of a range has 512 bytes, so has each value of its patch.
pub over-whole : (first count : ℕ) (value : ℕ → List ℕ)
    → ((k : ℕ) → k < count → length (value k) ≡ 512) → HasWholeValues (over first count value)
over-whole first count value whole sector found is = grind (arith, over_cases, over-in)

-- Each value of a write has 512 bytes.
pub writes-whole : (first : ℕ) (bytes : List ℕ) → HasWholeValues (writes first bytes)
writes-whole first bytes =
    let whole : (k : ℕ) → k < length bytes / 512 → length (sector_of bytes k) ≡ 512 =
    λ k h. let rest =
    length-drop (512 * k) bytes in length-take-le 512 (drop (512 * k) bytes) (omega arith) in
    over-whole first (length bytes / 512) (sector_of bytes) whole

-- Each value of a discard has 512 bytes.
pub discards-whole : (first count : ℕ) → HasWholeValues (discards first count)
discards-whole first count = grind (arith, over-whole, length-replicate)

-- `nothing` has no values, so each of its values has 512 bytes.
pub nothing-whole : HasWholeValues nothing
nothing-whole sector value is = cc

-- A write puts its bytes in each sector of its range.
pub put-writes : (first : ℕ) (bytes : List ℕ) (content : Content) (sector : ℕ) → first ≤ sector
    → sector < first + length bytes / 512
    → put (writes first bytes) content sector ≡ sector_of bytes (sector - first)
put-writes first bytes content sector low high =
    ap (put (writes first bytes) content) (omega arith)
    ∙ put-in first (length bytes / 512) (sector_of bytes) content (sector - first) (omega arith)

-- A discard puts zeroes in each sector of its range.
pub put-discards : (first count : ℕ) (content : Content) (sector : ℕ) → first ≤ sector
    → sector < first + count
    → put (discards first count) content sector ≡ replicate 512 0
put-discards first count content sector low high =
    ap (put (discards first count) content) (omega arith)
    ∙ discards-zeroes first count content (sector - first) (omega arith)

-- A patch over a range leaves each sector outside it unchanged.
pub put-outside : (first count : ℕ) (value : ℕ → List ℕ) (content : Content) (sector : ℕ)
    → (sector < first) ⊎ (first + count ≤ sector)
    → put (over first count value) content sector ≡ content sector
put-outside first count value content sector outside =
    grind (arith, put-none, over-before, over-after)

-- A content that gets none of the patch's values satisfies `Patched`.
pub patched-same : (patch : Patch) (content : Content) → Patched patch content content
patched-same patch content = λ sector. inl refl

-- A content that gets all of the patch's values satisfies `Patched`.
pub patched-whole : (patch : Patch) (content : Content) → Patched patch content (put patch content)
patched-whole patch content = λ sector. inr refl

-- Laws of the parts of a patch, and of the content after one part and then another.

-- `below` and `between` have the patch's value for a sector within their range, and none outside.
pub below-in : (end : ℕ) (patch : Patch) (sector : ℕ) → sector < end
    → below end patch sector ≡ patch sector
below-in end patch sector h = grind (arith, lt-ltb)

pub below-out : (end : ℕ) (patch : Patch) (sector : ℕ) → end ≤ sector
    → below end patch sector ≡ None
below-out end patch sector h = grind (arith, le-ltb)

pub between-in : (from to : ℕ) (patch : Patch) (sector : ℕ) → from ≤ sector → sector < to
    → between from to patch sector ≡ patch sector
between-in from to patch sector low high = grind (arith, le-leb, lt-ltb)

pub between-before : (from to : ℕ) (patch : Patch) (sector : ℕ) → sector < from
    → between from to patch sector ≡ None
between-before from to patch sector h =
    ap (λ b. if b && nat_lt sector to then patch sector else None) (above (nat_le from sector) refl)
  where
    above : (b : _) → nat_le from sector ≡ b → b ≡ false
    above true e = absurd (let within = leb-true from sector e in omega arith)
    above false e = refl

pub between-after : (from to : ℕ) (patch : Patch) (sector : ℕ) → to ≤ sector
    → between from to patch sector ≡ None
between-after from to patch sector h = grind (arith, le-ltb, and-false)

-- If a patch has no values from `end` on, its part below `end` has all its values.
pub below_all : (end : ℕ) (patch : Patch) → HasNoneFrom end patch
    → SameValues (below end patch) patch
below_all end patch none = grind (arith, cases_lt, below-in, below-out)

-- If a patch has no values below `end`, its part below `end` has none.
pub below_none : (end : ℕ) (patch : Patch) → HasNoneBelow end patch → (sector : ℕ)
    → below end patch sector ≡ None
below_none end patch none sector = grind (arith, cases_lt, below-in, below-out)

-- A patch's values below a sector are a part of the patch.
pub below-part : (end : ℕ) (patch : Patch) → IsPart (below end patch) patch
below-part end patch = grind (arith, cases_lt, below-in, below-out)

-- A patch's values below a sector are a part of its values below a later sector.
pub below_more : (end more : ℕ) (patch : Patch) → end ≤ more
    → IsPart (below end patch) (below more patch)
below_more end more patch h = grind (arith, cases_lt, below-in, below-out)

-- A patch's values between two sectors are a part of its values below the second.
pub between-part : (from to : ℕ) (patch : Patch) → IsPart (between from to patch) (below to patch)
between-part from to patch =
    grind (arith, cases_lt, between-before, between-in, below-in, between-after)

-- A patch's values below `from`, and then those from there to `to`, join to its values below `to`.
pub below-joins : (from to : ℕ) (patch : Patch) → from ≤ to
    → Joins (below from patch) (between from to patch) (below to patch)
below-joins from to patch h = λ sector. elim (cases_lt sector from) [
  | inl before ↦ inl (
    between-before from to patch sector before,
    below-in from patch sector before ∙ sym (below-in to patch sector (omega arith)),
  )
  | inr low ↦ elim (cases_lt sector to) [
    | inl high ↦ elim (option_cases (patch sector)) [
      | inl none ↦ inl (
        between-in from to patch sector low high ∙ none,
        below-out from patch sector low ∙ sym none ∙ sym (below-in to patch sector high),
      )
      | inr some ↦ inr (
        some.0,
        between-in from to patch sector low high ∙ some.1,
        below-in to patch sector high ∙ some.1,
      )
    ]
    | inr past ↦ inl (
      between-after from to patch sector past,
      below-out from patch sector low ∙ sym (below-out to patch sector past),
    )
  ]
]

-- If a content is patched by a part, it is patched by the whole.
pub patched-part : (part whole : Patch) (old new : Content) → IsPart part whole
    → Patched part old new → Patched whole old new
patched-part part whole old new is patched = grind (arith, put-none)

-- If parts of a patch lead from `old` to `mid`, and from `mid` to `new`, a part of it leads from
-- `old` to `new`.
pub patched_twice : (patch : Patch) (old mid new : Content) → Patched patch old mid
    → Patched patch mid new → Patched patch old new
patched_twice patch old mid new before after = grind (arith, option_cases, put-none, put-some)

-- A patched sector is unchanged, or has the patch's value.
pub patched_cases : (patch : Patch) (old new : Content) → Patched patch old new
    → (sector : ℕ) → (new sector ≡ old sector) ⊎ (patch sector ≡ Some (new sector))
patched_cases patch old new patched sector = grind (arith, option_cases, put-none, put-some)

-- A patched sector is unchanged if the patch has no value for it.
pub patched-none : (patch : Patch) (old new : Content) → Patched patch old new → (sector : ℕ)
    → patch sector ≡ None → new sector ≡ old sector
patched-none patch old new patched sector none = grind (arith, put-none)

-- If two patches have the same values, the content is the same after either.
pub put-same : (patch other : Patch) (content : Content) → SameValues patch other → (sector : ℕ)
    → put patch content sector ≡ put other content sector
put-same patch other content same sector = grind arith

-- If two patches join to a whole, to put one and then the other is to put the whole.
pub put-joined : (first second whole : Patch) (old mid : Content) (sector : ℕ)
    → Joins first second whole → mid sector ≡ put first old sector
    → put second mid sector ≡ put whole old sector
put-joined first second whole old mid sector joins before = grind (arith, put-none, put-some)

-- If a part of a range has the range's values, the part's patch is the range's patch between the
-- part's ends.
pub over-between : (first count k n : ℕ) (value piece : ℕ → List ℕ) → k + n ≤ count
    → ((i : ℕ) → i < n → piece i ≡ value (k + i))
    → SameValues (over (first + k) n piece)
    (between (first + k) (first + k + n) (over first count value))
over-between first count k n value piece within same =
    λ sector. elim (range_cases (first + k) n sector) [
      | inl before ↦
          over-before (first + k) n piece sector before
          ∙ sym (between-before (first + k) (first + k + n) (over first count value) sector before)
      | inr from ↦ elim from [
        | inl inside ↦
            let place = inside.2 in
            ap (over (first + k) n piece) place
            ∙ over-in (first + k) n piece inside.0 inside.1
            ∙ ap (λ (x : List ℕ). Some x) (same inside.0 inside.1)
            ∙ sym (over-in first count value (k + inside.0) (let h = inside.1 in omega arith))
            ∙ ap (over first count value) (omega arith)
            ∙ sym (between-in (first + k) (first + k + n) (over first count value) sector
            (omega arith) (let h = inside.1 in omega arith))
        | inr after ↦
            over-after (first + k) n piece sector after
            ∙ sym (between-after (first + k) (first + k + n) (over first count value) sector after)
      ]
    ]

-- A sector of a part of an image is a sector of the image.
pub sector_of-part : (bytes : List ℕ) (k n i : ℕ) → i < n → 512 * (k + n) ≤ length bytes
    → sector_of (take (512 * n) (drop (512 * k) bytes)) i ≡ sector_of bytes (k + i)
sector_of-part bytes k n i h within =
    let rest = 512 * n - 512 * i in
    let split : 512 * n ≡ 512 * i + rest = omega arith in
    ap (λ (m : ℕ). take 512 (drop (512 * i) (take m (drop (512 * k) bytes)))) split
    ∙ ap (take 512) (drop-take (512 * i) rest (drop (512 * k) bytes))
    ∙ take-take 512 rest (drop (512 * i) (drop (512 * k) bytes)) (omega arith)
    ∙ ap (take 512) (drop-drop (512 * i) (512 * k) bytes
    ∙ ap (λ (m : ℕ). drop m bytes) (omega arith))

-- A write of `n` sectors of the bytes has the values of the whole write for these sectors.
pub writes-between : (first k n : ℕ) (bytes : List ℕ) → 512 * (k + n) ≤ length bytes
    → SameValues (writes (first + k) (take (512 * n) (drop (512 * k) bytes)))
    (between (first + k) (first + k + n) (writes first bytes))
writes-between first k n bytes within =
    let cut : length (take (512 * n) (drop (512 * k) bytes)) ≡ 512 * n =
    let rest = length-drop (512 * k) bytes in
    length-take-le (512 * n) (drop (512 * k) bytes) (omega arith) in
    let count : length (take (512 * n) (drop (512 * k) bytes)) / 512 ≡ n = omega arith in
    λ sector. ap (λ (m : ℕ). over (first + k) m
    (sector_of (take (512 * n) (drop (512 * k) bytes))) sector) count
    ∙ over-between first (length bytes / 512) k n (sector_of bytes)
    (sector_of (take (512 * n) (drop (512 * k) bytes))) (omega arith)
    (λ i h. sector_of-part bytes k n i h within) sector

-- A discard of `n` of the sectors has the values of the whole discard for these sectors.
pub discards-between : (first count k n : ℕ) → k + n ≤ count
    → SameValues (discards (first + k) n)
    (between (first + k) (first + k + n) (discards first count))
discards-between first count k n within = grind (arith, over-between)

-- Laws of ranges of sectors and of the bytes in them.

-- If two ranges have the same sectors, their bytes are equal.
pub gather-ext : (c d : Content) (a b n : ℕ) → ((s : ℕ) → s < n → c (a + s) ≡ d (b + s))
    → gather c a n ≡ gather d b n
gather-ext c d a b zero same = refl
gather-ext c d a b (suc n) same =
    let rest = gather-ext c d a b n (λ s h. same s (omega arith)) in
    let last = same n (omega arith) in
    cc

-- A range of a moved content is a range of the content, `offset` sectors further.
pub gather-shift : (offset : ℕ) (c : Content) (first n : ℕ)
    → gather (moved offset c) first n ≡ gather c (offset + first) n
gather-shift offset c first n = grind (arith, gather-ext)

-- If two contents agree from sector `from` to before `to`, each range within has the same bytes.
pub gather-within : (from to : ℕ) (old new : Content) (first n : ℕ) → AgreeWithin from to old new
    → from ≤ first → first + n ≤ to
    → gather new first n ≡ gather old first n
gather-within from to old new first n agree low high = grind (arith, gather-ext)

-- If two contents agree below sector `end`, they agree on each range below `end`.
pub within-below : (from to end : ℕ) (old new : Content) → to ≤ end → AgreeBelow end old new
    → AgreeWithin from to old new
within-below from to end old new within agree = λ sector low high. agree sector (omega arith)

-- a range of an image is a part of its bytes
pub gather-sector_of : (bytes : List ℕ) (a n : ℕ)
    → gather (sector_of bytes) a n ≡ take (512 * n) (drop (512 * a) bytes)
gather-sector_of bytes a zero = refl
gather-sector_of bytes a (suc n) =
    let rest = gather-sector_of bytes a n in
    let split = take-add (512 * n) 512 (drop (512 * a) bytes) in
    let past = drop-drop (512 * n) (512 * a) bytes in
    let place : 512 * a + 512 * n ≡ 512 * (a + n) = omega arith in
    let total : 512 * n + 512 ≡ 512 * suc n = omega arith in
    ap (λ (xs : List ℕ). xs ++ take 512 (drop (512 * (a + n)) bytes)) rest
    ∙ ap (λ (k : ℕ). take (512 * n) (drop (512 * a) bytes) ++ take 512 (drop k bytes)) (sym place)
    ∙ ap (λ (xs : List ℕ). take (512 * n) (drop (512 * a) bytes) ++ take 512 xs) (sym past)
    ∙ sym split
    ∙ ap (λ (k : ℕ). take k (drop (512 * a) bytes)) total

-- A range of `n` whole sectors has 512 bytes for each.
pub length-gather : (disk : ℕ) (c : Content) (a n : ℕ) → HasWholeSectors disk c → a + n ≤ disk
    → length (gather c a n) ≡ 512 * n
length-gather disk c a zero whole within = refl
length-gather disk c a (suc n) whole within =
    let rest = length-gather disk c a n whole (omega arith) in
    let last = whole (a + n) (omega arith) in
    length-append (gather c a n) (c (a + n)) ∙ omega arith

-- If an image is gathered from whole sectors, it has these sectors.
pub sector_of-gather : (n : ℕ) (c : Content) → HasWholeSectors n c
    → AgreeBelow n c (sector_of (gather c 0 n))
sector_of-gather zero c whole sector h = absurd (omega arith)
sector_of-gather (suc n) c whole sector h =
    let front : length (gather c 0 n) ≡ 512 * n = length-gather (suc n) c 0 n whole (omega arith) in
    let here : c (0 + n) ≡ c n = ap c (omega arith) in
    let size : length (c (0 + n)) ≡ 512 = ap length here ∙ whole n (omega arith) in
    elim (last_or_below sector n h) [
      | inl last ↦
          ap (λ (k : ℕ). take 512 (drop (512 * k) (gather c 0 n ++ c (0 + n)))) last
          ∙ ap (λ (k : ℕ). take 512 (drop k (gather c 0 n ++ c (0 + n)))) (sym front)
          ∙ ap (λ (bytes : List ℕ). take 512 bytes) (drop-append_seam (gather c 0 n) (c (0 + n)))
          ∙ take_all 512 (c (0 + n)) (omega arith)
          ∙ here
          ∙ ap c (sym last)
      | inr below ↦
          let rest = sector_of-gather n c (λ s low. whole s (omega arith)) sector below in
          let len = length-drop (512 * sector) (gather c 0 n) in
          ap (λ (bytes : List ℕ). take 512 bytes)
          (drop-append-le (512 * sector) (gather c 0 n) (c (0 + n)) (omega arith))
          ∙ take-append-le 512 (drop (512 * sector) (gather c 0 n)) (c (0 + n)) (omega arith)
          ∙ rest
    ]

-- If a content has `bytes` from sector `first` on, a range of these sectors has a part of `bytes`.
pub gather-HasBytes : (c : Content) (first : ℕ) (bytes : List ℕ) (a n : ℕ) → HasBytes c first bytes
    → 512 * (a + n) ≤ length bytes
    → gather c (first + a) n ≡ take (512 * n) (drop (512 * a) bytes)
gather-HasBytes c first bytes a n has within =
    let same : (s : ℕ) → s < n → c (first + a + s) ≡ sector_of bytes (a + s) =
    λ s h. ap c (omega arith) ∙ has (a + s) (omega arith) in
    gather-ext c (sector_of bytes) (first + a) a n same ∙ gather-sector_of bytes a n

-- If a content has the bytes `xs ++ ys`, it has `xs`.
pub HasBytes-front : (c : Content) (first : ℕ) (xs ys : List ℕ) → HasBytes c first (xs ++ ys)
    → HasBytes c first xs
HasBytes-front c first xs ys has s h =
    let total = length-append xs ys in
    let within : 512 * s + 512 ≤ length xs = omega arith in
    let cut = drop-append-le (512 * s) xs ys (omega arith) in
    let rest = length-drop (512 * s) xs in
    has s (omega arith) ∙ ap (take 512) cut
    ∙ take-append-le 512 (drop (512 * s) xs) ys (omega arith)

-- If a content has the bytes `xs ++ ys`, and `xs` are `n` whole sectors, it has `ys` from `n`
-- sectors further on.
pub HasBytes-back : (c : Content) (first : ℕ) (xs ys : List ℕ) (n : ℕ) → length xs ≡ 512 * n
    → HasBytes c first (xs ++ ys) → HasBytes c (first + n) ys
HasBytes-back c first xs ys n whole has s h =
    let total = length-append xs ys in
    let past = drop-append-add xs ys (512 * s) in
    let place : length xs + 512 * s ≡ 512 * (n + s) = omega arith in
    ap c (omega arith) ∙ has (n + s) (omega arith)
    ∙ ap (λ (k : ℕ). take 512 (drop k (xs ++ ys))) (sym place) ∙ ap (take 512) past

-- If a content has `xs`, `n` whole sectors, and `ys` after them, it has `xs ++ ys`.
pub HasBytes_joined : (c : Content) (first : ℕ) (xs ys : List ℕ) (n : ℕ) → length xs ≡ 512 * n
    → HasBytes c first xs → HasBytes c (first + n) ys
    → HasBytes c first (xs ++ ys)
HasBytes_joined c first xs ys n whole has_xs has_ys s h =
    let total = length-append xs ys in
    ⊎_elim
    (λ (below : s < n).
    let cut = drop-append-le (512 * s) xs ys (omega arith) in
    let rest = length-drop (512 * s) xs in
    has_xs s (omega arith) ∙ sym (take-append-le 512 (drop (512 * s) xs) ys (omega arith))
    ∙ ap (take 512) (sym cut))
    (λ (above : n ≤ s).
    let past = drop-append-add xs ys (512 * (s - n)) in
    let place : length xs + 512 * (s - n) ≡ 512 * s = omega arith in
    ap c (omega arith) ∙ has_ys (s - n) (omega arith) ∙ ap (take 512) (sym past)
    ∙ ap (λ (k : ℕ). take 512 (drop k (xs ++ ys))) place)
    (cases_lt s n)
