-- Laws of packed sectors and of the pieces of an image.
use Rattle.std.proofs.Common.{append_assoc, replicate, sym, take, Some, ap, arith, drop, get_or}
use Rattle.std.proofs.Common.{inl, inr, length, length-append, length-drop, refl, ◌≡◌, ℕ, suc, zero}
use Rattle.std.proofs.Common.{◌+◌, ◌-◌, ◌*◌, ◌/◌, ◌%◌, ◌<◌, ◌≤◌, List, [], ◌∷◌, ◌++◌, ◌∙◌, true}
use Rattle.std.specs.Prelude.{min, nat_lt, slice_get, slice_index, slice_range}
use Rattle.std.proofs.lemmas.Bool.{cases_lt, ltb-true}
use Rattle.std.proofs.lemmas.Grind.{common_steps}
use Rattle.std.proofs.lemmas.List.{append-nil, drop-append-le, drop-drop, drop-replicate}
use Rattle.std.proofs.lemmas.List.{get_or-drop, get_or-replicate, get_or-take, length-replicate}
use Rattle.std.proofs.lemmas.List.{length-take-le, take-append-drop, take-append-le, take_all}
use Rattle.std.proofs.Math.ListN.{get_or-append}
use Rattle.std.proofs.Math.Seq.{drop-append-add, drop-append_seam, get_or-append_seam}
use Rattle.bio.specs.Content.{HasWholeSectors, gather, sector_of}
use Rattle.bio.specs.ContentLaws.{gather-ext, gather-sector_of, length-gather, sector_of-gather}
use Rattle.bio.specs.PlaceLaws.{last_or_below}
use Rattle.sector_disk.specs.inside.Packed.{BoundsArePacked, IsPackedTo, RangeIsPacked, packed, part_at, refilled}
use Rattle.sector_disk.specs.inside.Packed.{unpacked}
use Rattle.sector_disk.specs.inside.Pieces.{PiecesAreWhole, pieces_bytes}

-- if equal bytes end the sector, the first of them is enough to refill it
refilled_at : (sector : List ℕ) (n last : ℕ) → length sector ≡ 512 → n < 512
    → drop n sector ≡ replicate (512 - n) last → refilled (take (n + 1) sector) ≡ sector
refilled_at sector n last size less same =
    let held = length-take-le (n + 1) sector (omega arith) in
    let place : n + 1 - 1 ≡ n = omega arith in
    let first : n + 0 ≡ n = omega arith in
    let here : get_or (take (n + 1) sector) (n + 1 - 1) 0 ≡ last =
    grind (arith, place)
    ∙ get_or-take (n + 1) sector n 0 (omega arith)
    ∙ ap (λ (k : ℕ). get_or sector k 0) (sym first)
    ∙ sym (get_or-drop n sector 0 0)
    ∙ ap (λ (xs : List ℕ). get_or xs 0 0) same
    ∙ get_or-replicate (512 - n) 0 last 0 (omega arith) in
    let left : 512 - n - 1 ≡ 512 - (n + 1) = omega arith in
    let rest : drop (n + 1) sector ≡ replicate (512 - (n + 1)) last =
    sym (drop-drop 1 n sector)
    ∙ ap (drop 1) same
    ∙ drop-replicate 1 (512 - n) last
    ∙ ap (λ (k : ℕ). replicate k last) left in
    rw (held, here, ← rest) (take-append-drop (n + 1) sector)

pub refilled_held : (sector : List ℕ) (n held last : ℕ) → length sector ≡ 512 → n ≤ 512
    → held ≡ min (n + 1) 512
    → drop n sector ≡ replicate (512 - n) last → refilled (take held sector) ≡ sector
refilled_held sector n held last size within is same =
    grind (arith, cases_lt, refilled_at, take_all, append-nil)

front : (bytes more : List ℕ) (from to : ℕ) → from ≤ to → to ≤ length bytes
    → slice_range (bytes ++ more) from to ≡ slice_range bytes from to
front bytes more from to order within = grind (arith, drop-append-le, take-append-le, length-drop)

seam : (bytes part : List ℕ) (from to : ℕ) → from ≡ length bytes → to ≡ length bytes + length part
    → slice_range (bytes ++ part) from to ≡ part
seam bytes part from to begins ends = grind (arith, drop-append_seam, take_all)

pub packed_more : (image bytes bounds part : List ℕ) (end count : ℕ)
    → IsPackedTo image bytes bounds count
    → length part ≤ 512 → refilled part ≡ sector_of image count → end ≡ length bytes + length part
    → IsPackedTo image (bytes ++ part) (bounds ++ end ∷ []) (count + 1)
packed_more image bytes bounds part end count earlier few is ends_at = record {
  counted = omega (arith, length-append bounds (end ∷ []));
  last = newest ∙ sym (length-append bytes part);
  few = omega (arith, length-append bytes part);
  parts = λ sector within. (each sector (omega (arith, length-append bounds (end ∷ [])))).0;
  same = λ sector within. (each sector within).1;
}
  where
    new : List ℕ
    new = bounds ++ end ∷ []

    older : (k : ℕ) → k < length bounds → slice_index new k ≡ slice_index bounds k
    older k within = get_or-append bounds (end ∷ []) 0 k within

    newest : slice_index new (count + 1) ≡ length bytes + length part
    newest = grind (arith, get_or-append_seam)

    each : (sector : ℕ) → sector < count + 1
        → RangeIsPacked (bytes ++ part) (slice_index new sector) (slice_index new (sector + 1))
        × (packed (bytes ++ part) new sector ≡ sector_of image sector)
    each sector within =
        let size = length-append bytes part in
        let from = older sector (omega arith) in elim (last_or_below sector count (omega arith)) [
          | inl here ↦
              let begins = from ∙ ap (slice_index bounds) here ∙ earlier.last in
              let ends = ap (λ (k : ℕ). slice_index new (k + 1)) here ∙ newest in (
                record { order = omega arith; few = omega arith; within = omega arith },
                ap refilled (seam bytes part _ _ begins ends) ∙ is ∙ ap (sector_of image) (sym here),
              )
          | inr below ↦
              let old = earlier.parts sector (omega arith) in
              let to = older (sector + 1) (omega arith) in
              let kept = front bytes part _ _ old.order old.within in
              let same : part_at (bytes ++ part) new sector ≡ part_at bytes bounds sector = cc in (
                record { order = omega arith; few = omega arith; within = omega arith },
                ap refilled same ∙ earlier.same sector below,
              )
        ]

pub packed_all : (image bytes bounds : List ℕ) (count : ℕ) → length image ≡ 512 * count
    → IsPackedTo image bytes bounds count
    → unpacked bytes bounds ≡ image
packed_all image bytes bounds count size done =
    let sectors : length bounds - 1 ≡ count = omega arith in
    ap (gather (packed bytes bounds) 0) sectors
    ∙ gather-ext (packed bytes bounds) (sector_of image) 0 0 count (λ s within.
    let place : 0 + s ≡ s = omega arith in
    ap (packed bytes bounds) place ∙ done.same s within ∙ ap (sector_of image) (sym place))
    ∙ gather-sector_of image 0 count
    ∙ take_all (512 * count) image (omega arith)

pub packed_whole : (bytes bounds : List ℕ) → BoundsArePacked bytes bounds
    → HasWholeSectors (length bounds - 1) (packed bytes bounds)
packed_whole bytes bounds parts =
    grind (arith, length-take-le, length-drop, length-append, length-replicate)

pub length-unpacked : (bytes bounds : List ℕ) → BoundsArePacked bytes bounds
    → length (unpacked bytes bounds) ≡ 512 * (length bounds - 1)
length-unpacked bytes bounds parts = grind (arith, length-gather, packed_whole)

pub sector_there : (bytes bounds : List ℕ) (from : ℕ) → BoundsArePacked bytes bounds → from % 512 ≡ 0
    → from / 512 + 1 < length bounds
    → take 512 (drop from (unpacked bytes bounds)) ≡ packed bytes bounds (from / 512)
sector_there bytes bounds from parts place within =
    let at : from ≡ 512 * (from / 512) = omega arith in
    grind (arith, at)
    ∙ sector_of-gather (length bounds - 1) (packed bytes bounds)
    (packed_whole bytes bounds parts) (from / 512) (omega arith)

-- the sector at byte `from` of the joined pieces is in piece `k`, at byte `r` of it
pub record LiesIn (pieces : List (List ℕ)) (from k r : ℕ) : Type 0 where
  pub piece : List ℕ
  pub is : slice_get pieces k ≡ Some piece
  pub within : r + 512 ≤ length piece
  pub part : take 512 (drop from (pieces_bytes pieces)) ≡ take 512 (drop r piece)

first : (piece rest : List ℕ) (r n : ℕ) → r + n ≤ length piece
    → take n (drop r (piece ++ rest)) ≡ take n (drop r piece)
first piece rest r n within =
    ap (take n) (drop-append-le r piece rest (omega arith))
    ∙ take-append-le n (drop r piece) rest (omega (arith, length-drop r piece))

later : (piece rest : List ℕ) (from : ℕ) → length piece ≡ 65536 → 65536 ≤ from
    → drop from (piece ++ rest) ≡ drop (from - 65536) rest
later piece rest from size past = grind (arith, drop-append-add)

pub lies_in : (pieces : List (List ℕ)) (from k r : ℕ) → from ≡ 65536 * k + r → r + 512 ≤ 65536
    → PiecesAreWhole pieces → from + 512 ≤ length (pieces_bytes pieces) → LiesIn pieces from k r
lies_in [] from k r place small whole within = absurd (omega arith)
lies_in (p ∷ []) from zero r place small whole within =
    let same : from ≡ r = omega arith in
    let size : r + 512 ≤ length p = omega (arith, length-append p []) in
    record {
      piece = p;
      is = refl;
      within = size;
      part = rw same (first p [] r 512 size);
    }
lies_in (p ∷ []) from (suc k) r place small whole within = grind (arith, length-append)
lies_in (p ∷ (q ∷ ps)) from zero r place small whole within =
    let same : from ≡ r = omega arith in
    let full = whole.0 in
    let size : r + 512 ≤ length p = omega arith in
    record {
      piece = p;
      is = refl;
      within = size;
      part = rw same (first p (pieces_bytes (q ∷ ps)) r 512 size);
    }
lies_in (p ∷ (q ∷ ps)) from (suc k) r place small whole within =
    let full = whole.0 in
    let there = lies_in (q ∷ ps) (from - 65536) k r (omega arith) small whole.1
    (omega (arith, length-append p (pieces_bytes (q ∷ ps)))) in
    record {
      piece = there.piece;
      is = there.is;
      within = there.within;
      part = ap (take 512) (later p (pieces_bytes (q ∷ ps)) from full (omega arith)) ∙ there.part;
    }

-- the image has `n` bytes from byte `from` on, and they are those of a piece from byte `r` on
pub record PieceIsRun (pieces : List (List ℕ)) (from r n : ℕ) (piece : List ℕ) : Type 0 where
  pub within : from + n ≤ length (pieces_bytes pieces)
  pub part : take n (drop from (pieces_bytes pieces)) ≡ take n (drop r piece)

pub run_in : (pieces : List (List ℕ)) (from k r n : ℕ) (d : List ℕ) → from ≡ 65536 * k + r
    → k < length pieces → PiecesAreWhole pieces → r + n ≤ length (get_or pieces k d)
    → PieceIsRun pieces from r n (get_or pieces k d)
run_in [] from k r n d place there whole within = absurd (omega arith)
run_in (p ∷ []) from zero r n d place there whole within =
    let same : from ≡ r = omega arith in
    record { within = omega (arith, length-append p []); part = rw same (first p [] r n within) }
run_in (p ∷ []) from (suc k) r n d place there whole within = absurd (omega arith)
run_in (p ∷ (q ∷ ps)) from zero r n d place there whole within =
    let same : from ≡ r = omega arith in
    record {
      within = omega (arith, length-append p (pieces_bytes (q ∷ ps)));
      part = rw same (first p (pieces_bytes (q ∷ ps)) r n within);
    }
run_in (p ∷ (q ∷ ps)) from (suc k) r n d place there whole within =
    let full = whole.0 in
    let rest = run_in (q ∷ ps) (from - 65536) k r n d (omega arith) (omega arith) whole.1 within in
    let low = rest.within in
    record {
      within = omega (arith, length-append p (pieces_bytes (q ∷ ps)));
      part = ap (take n) (later p (pieces_bytes (q ∷ ps)) from full (omega arith)) ∙ rest.part;
    }

-- the bytes that a piece reads at its byte `from % 65536` are those of the image at byte `from`
pub read_in : (pieces lent : List (List ℕ)) (image piece : List ℕ) (from n : ℕ) → PiecesAreWhole pieces
    → pieces_bytes pieces ≡ image → lent ≡ pieces → true ≡ nat_lt (from / 65536) (length lent)
    → piece ≡ get_or lent (from / 65536) piece → from % 65536 + n ≤ length piece
    → (from + n ≤ length image) × (take n (drop from image) ≡ take n (drop (from % 65536) piece))
read_in pieces lent image piece from n whole view same there is within =
    let size = ap length same in
    let here : from / 65536 < length pieces = omega (arith, ltb-true (from / 65536) (length lent) (sym there)) in
    let found : piece ≡ get_or pieces (from / 65536) piece = grind (arith, is, same) in
    let run = run_in pieces from (from / 65536) (from % 65536) n piece (omega arith) here whole
    (omega (arith, ap length found)) in
    rw (← view) (run.within, rw found run.part)

pub joined-more : (pieces : List (List ℕ)) (piece : List ℕ)
    → pieces_bytes (pieces ++ piece ∷ []) ≡ pieces_bytes pieces ++ piece
joined-more [] piece = grind (arith, common_steps)
joined-more (x ∷ xs) piece = grind (arith, joined-more xs piece, append_assoc)

pub AreWhole-more : (pieces : List (List ℕ)) (piece : List ℕ) → PiecesAreWhole pieces
    → length (pieces_bytes pieces) % 65536 ≡ 0 → 0 < length piece → length piece ≤ 65536
    → PiecesAreWhole (pieces ++ piece ∷ [])
AreWhole-more [] piece whole full some few = (some, few)
AreWhole-more (x ∷ []) piece whole full some few = grind (arith, length-append)
AreWhole-more (x ∷ (y ∷ ys)) piece whole full some few =
    grind (arith, AreWhole-more (y ∷ ys) piece whole.1, length-append)
