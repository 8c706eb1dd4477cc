-- A `RamDisk`: what replacing a piece of its image puts, and what one more call puts.
use Rattle.std.proofs.Common.{◌≡◌, ◌∙◌, ◌⊎◌, ℕ, suc, zero, ◌+◌, ◌-◌, ◌*◌, ◌/◌, ◌<◌, ◌≤◌}
use Rattle.std.proofs.Common.{List, [], ◌∷◌, ◌++◌, Some, None, ap, append_assoc, arith, drop, inl, inr}
use Rattle.std.proofs.Common.{length, length-append, refl, replicate, sym, take}
use Rattle.std.specs.Prelude.{slice_get, slice_set, unwrap_or}
use Rattle.std.proofs.lemmas.Bool.{cases_lt}
use Rattle.std.proofs.lemmas.List.{drop-append-le, drop-drop, drop-take, length-drop, length-take-le}
use Rattle.std.proofs.lemmas.List.{take-append-le, take-take}
use Rattle.std.proofs.Math.Seq.{drop-append-add, take-append-add}
use Rattle.bio.specs.Content.{Content, put, sector_of, writes}
use Rattle.bio.specs.ContentLaws.{over-after, over-before, put-none, put-writes}
use Rattle.sector_disk.proofs.ImageBack.{written_whole}
use Rattle.sector_disk.specs.declared.call.PastCall.{PastCall}
use Rattle.sector_disk.specs.declared.call.PastChange.TheVariants.{Image}
use Rattle.sector_disk.specs.inside.Pieces.{PiecesAreWhole, pieces_bytes, with_piece}
use Rattle.sector_disk.specs.inside.Storage.{IsFilled, content_at, place_of, value_in}

-- the pieces after piece `k` was replaced by `piece`
pub record IsReplaced (pieces : List (List ℕ)) (k : ℕ) (piece : List ℕ) : Type 0 where
  pub there : k < length pieces
  pub whole : PiecesAreWhole (slice_set pieces k piece)
  pub bytes : pieces_bytes (slice_set pieces k piece) ≡ with_piece (65536 * k) piece (pieces_bytes pieces)

later : (first piece bytes : List ℕ) (from : ℕ) → length first ≡ 65536
    → first ++ with_piece from piece bytes ≡ with_piece (65536 + from) piece (first ++ bytes)
later first piece bytes from size =
    let front = take-append-add first bytes from in
    let back = drop-append-add first bytes (from + 65536) in
    let rest = piece ++ drop (from + 65536) bytes in
    let from_is : 65536 + from ≡ length first + from = omega arith in
    let to_is : 65536 + from + 65536 ≡ length first + (from + 65536) = omega arith in
    sym (append_assoc first (take from bytes) rest)
    ∙ ap (λ xs. xs ++ rest) (sym front ∙ ap (λ n. take n (first ++ bytes)) (sym from_is))
    ∙ ap (λ xs. take (65536 + from) (first ++ bytes) ++ (piece ++ xs))
    (sym back ∙ ap (λ n. drop n (first ++ bytes)) (sym to_is))

alone : (first piece bytes : List ℕ) → length first ≡ 65536
    → piece ++ bytes ≡ with_piece 0 piece (first ++ bytes)
alone first piece bytes size =
    let place : 65536 ≡ length first + 0 = omega arith in
    ap (λ xs. piece ++ xs) (sym (drop-append-add first bytes 0)
    ∙ ap (λ n. drop n (first ++ bytes)) (sym place))

pub replaced : (pieces : List (List ℕ)) (k : ℕ) (piece : List ℕ) → PiecesAreWhole pieces
    → length piece ≡ 65536 → 65536 * k + 65536 ≤ length (pieces_bytes pieces)
    → IsReplaced pieces k piece
replaced [] k piece whole size within = absurd (omega arith)
replaced (p ∷ []) zero piece whole size within = record {
  there = omega arith;
  whole = (omega arith, omega arith);
  bytes = alone p piece [] (let all = length-append p [] in let most = whole.1 in omega arith);
}
replaced (p ∷ []) (suc k) piece whole size within =
    absurd (let all = length-append p [] in let most = whole.1 in omega arith)
replaced (p ∷ (q ∷ ps)) zero piece whole size within = record {
  there = omega arith;
  whole = (size, whole.1);
  bytes = alone p piece (pieces_bytes (q ∷ ps)) whole.0;
}
replaced (p ∷ (q ∷ ps)) (suc k) piece whole size within =
    let full = whole.0 in
    let all = length-append p (pieces_bytes (q ∷ ps)) in
    let rest = replaced (q ∷ ps) k piece whole.1 size (omega arith) in
    let place : 65536 + 65536 * k ≡ 65536 * suc k = omega arith in
    record {
      there = let h = rest.there in omega arith;
      whole = whole_next ps k piece full rest.whole;
      bytes = ap (λ xs. p ++ xs) rest.bytes
          ∙ later p piece (pieces_bytes (q ∷ ps)) (65536 * k) full
          ∙ ap (λ n. with_piece n piece (pieces_bytes (p ∷ (q ∷ ps)))) place;
    }
  where
    whole_next : (ps : List (List ℕ)) (k : ℕ) (piece : List ℕ) → length p ≡ 65536
        → PiecesAreWhole (slice_set (q ∷ ps) k piece) → PiecesAreWhole (p ∷ slice_set (q ∷ ps) k piece)
    whole_next ps zero piece full whole = (full, whole)
    whole_next ps (suc k) piece full whole = (full, whole)

pub sector_before : (bytes part : List ℕ) (from sector : ℕ) → 512 * sector + 512 ≤ from
    → from ≤ length bytes
    → sector_of (with_piece from part bytes) sector ≡ sector_of bytes sector
sector_before bytes part from sector low within =
    let rest = part ++ drop (from + 65536) bytes in
    let size = length-take-le from bytes within in
    let one : from ≡ 512 * sector + (from - 512 * sector) = omega arith in
    ap (take 512) (drop-append-le (512 * sector) (take from bytes) rest (omega arith))
    ∙ take-append-le 512 (drop (512 * sector) (take from bytes)) rest
    (omega (arith, length-drop (512 * sector) (take from bytes)))
    ∙ ap (λ n. take 512 (drop (512 * sector) (take n bytes))) one
    ∙ ap (take 512) (drop-take (512 * sector) (from - 512 * sector) bytes)
    ∙ take-take 512 (from - 512 * sector) (drop (512 * sector) bytes) (omega arith)

pub sector_within : (bytes part : List ℕ) (first sector : ℕ) → length part ≡ 65536
    → sector < 128 → 512 * first ≤ length bytes
    → sector_of (with_piece (512 * first) part bytes) (first + sector) ≡ sector_of part sector
sector_within bytes part first sector size less within =
    let front = take (512 * first) bytes in
    let rest = drop (512 * first + 65536) bytes in
    let held = length-take-le (512 * first) bytes within in
    let place : 512 * (first + sector) ≡ length front + 512 * sector = omega arith in
    ap (λ n. take 512 (drop n (front ++ (part ++ rest)))) place
    ∙ ap (take 512) (drop-append-add front (part ++ rest) (512 * sector))
    ∙ ap (take 512) (drop-append-le (512 * sector) part rest (omega arith))
    ∙ take-append-le 512 (drop (512 * sector) part) rest
    (omega (arith, length-drop (512 * sector) part))

pub sector_after : (bytes part : List ℕ) (from sector : ℕ) → length part ≡ 65536
    → from + 65536 ≤ 512 * sector → from ≤ length bytes
    → sector_of (with_piece from part bytes) sector ≡ sector_of bytes sector
sector_after bytes part from sector size past within =
    let front = take from bytes in
    let held = length-take-le from bytes within in
    let more = 512 * sector - from - 65536 in
    let place : 512 * sector ≡ length front + (length part + more) = omega arith in
    let there : from + 65536 + more ≡ 512 * sector = omega arith in
    ap (λ n. take 512 (drop n (with_piece from part bytes))) place
    ∙ ap (take 512) (drop-append-add front (part ++ drop (from + 65536) bytes) (length part + more))
    ∙ ap (take 512) (drop-append-add part (drop (from + 65536) bytes) more)
    ∙ ap (take 512) (drop-drop more (from + 65536) bytes)
    ∙ ap (λ n. take 512 (drop n bytes)) (grind arith)

pub length_with : (from : ℕ) (piece bytes : List ℕ) → length piece ≡ 65536
    → from + 65536 ≤ length bytes → length (with_piece from piece bytes) ≡ length bytes
length_with from piece bytes size within =
    let rest = drop (from + 65536) bytes in
    omega (
      arith,
      length-append (take from bytes) (piece ++ rest),
      length-append piece rest,
      length-take-le from bytes (omega arith),
      length-drop (from + 65536) bytes,
    )

-- the value that an image from sector 0 on has for a sector
abbrev image_value : List ℕ → Content
image_value bytes sector = unwrap_or (writes 0 bytes sector) (replicate 512 0)

value_past : (bytes : List ℕ) (sector : ℕ) → length bytes / 512 ≤ sector
    → image_value bytes sector ≡ replicate 512 0
value_past bytes sector past =
    rw (over-after 0 (length bytes / 512) (sector_of bytes) sector (omega arith))

pub image_put : (bytes part : List ℕ) (first : ℕ) → length part ≡ 65536
    → 512 * first + 65536 ≤ length bytes → (sector : ℕ)
    → image_value (with_piece (512 * first) part bytes) sector
    ≡ put (writes first part) (image_value bytes) sector
image_put bytes part first size within sector = elim (cases_lt sector first) [
  | inl low ↦
      written_whole new sector (omega (arith, long))
      ∙ sector_before bytes part (512 * first) sector (omega arith) (omega arith)
      ∙ sym (written_whole bytes sector (omega arith))
      ∙ sym (put-none (writes first part) (image_value bytes) sector
      (over-before first (length part / 512) (sector_of part) sector low))
  | inr from ↦ elim (cases_lt sector (first + 128)) [
    | inl high ↦
        let place : sector ≡ first + (sector - first) = omega arith in
        written_whole new sector (omega (arith, long))
        ∙ ap (sector_of new) place
        ∙ sector_within bytes part first (sector - first) size (omega arith) (omega arith)
        ∙ sym (put-writes first part (image_value bytes) sector from (omega arith))
    | inr after ↦
        past after (cases_lt sector (length bytes / 512))
        ∙ sym (put-none (writes first part) (image_value bytes) sector
        (over-after first (length part / 512) (sector_of part) sector (omega arith)))
  ]
]
  where
    new : List ℕ
    new = with_piece (512 * first) part bytes

    long : length (with_piece (512 * first) part bytes) ≡ length bytes
    long = length_with (512 * first) part bytes size within

    past : first + 128 ≤ sector
        → (sector < length bytes / 512) ⊎ (length bytes / 512 ≤ sector)
        → image_value new sector ≡ image_value bytes sector
    past after (inl less) =
        written_whole new sector (omega (arith, long))
        ∙ sector_after bytes part (512 * first) sector size (omega arith) (omega arith)
        ∙ sym (written_whole bytes sector less)
    past after (inr more) =
        value_past new sector (omega (arith, long)) ∙ sym (value_past bytes sector more)

pub value_put : (call : PastCall) (bytes now part : List ℕ) (first from : ℕ) → call.first ≡ 0
    → call.change ≡ Image bytes → from ≡ 512 * first → now ≡ with_piece from part bytes
    → length part ≡ 65536 → 512 * first + 65536 ≤ length bytes → (sector : ℕ)
    → unwrap_or (writes call.first now sector) (replicate 512 0)
    ≡ put (writes first part) (value_in (Some call)) sector
value_put call bytes now part first from zero_is change place is size within sector =
    grind (arith, image_put bytes part first size within sector)

pub content_put : (call now : PastCall) (rest : List PastCall) (newest filled : List ℕ) (first : ℕ)
    (part : List ℕ) → length part ≡ 65536 → IsFilled first 128 0 newest filled
    → ((sector : ℕ)
    → value_in (Some now) sector ≡ put (writes first part) (value_in (Some call)) sector)
    → (sector : ℕ)
    → content_at (now ∷ rest) filled sector
    ≡ put (writes first part) (content_at (call ∷ rest) newest) sector
content_put call now rest newest filled first part size fills put_in sector =
    elim (cases_lt sector first) [
      | inl low ↦ outside (inl low)
          (over-before first (length part / 512) (sector_of part) sector low)
      | inr from ↦ elim (cases_lt sector (first + 128)) [
        | inl high ↦
            ap (λ place. content_of place) (fills.within sector from high)
            ∙ put_in sector
            ∙ put-writes first part (value_in (Some call)) sector from (omega arith)
            ∙ sym (put-writes first part (content_at (call ∷ rest) newest) sector from (omega arith))
        | inr after ↦ outside (inr after)
            (over-after first (length part / 512) (sector_of part) sector (omega arith))
      ]
    ]
  where
    content_of : ℕ → List ℕ
    content_of place = value_in (slice_get (now ∷ rest) place) sector

    outside : (sector < first) ⊎ (first + 128 ≤ sector) → writes first part sector ≡ None
        → content_at (now ∷ rest) filled sector
        ≡ put (writes first part) (content_at (call ∷ rest) newest) sector
    outside side none =
        ap (λ place. content_of place) (fills.outside sector side)
        ∙ old (place_of newest sector)
        ∙ sym (put-none (writes first part) (content_at (call ∷ rest) newest) sector none)
      where
        old : (place : ℕ) → content_of place ≡ value_in (slice_get (call ∷ rest) place) sector
        old zero = put_in sector ∙ put-none (writes first part) (value_in (Some call)) sector none
        old (suc place) = refl
