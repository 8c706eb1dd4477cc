-- Laws of lists that the code keeps oldest first and the specs newest first, and laws of
-- `PutsSector`.
use Rattle.std.proofs.Common.{length-append, length-drop, Bool, true, false, ◌&&◌, ◌||◌, Some}
use Rattle.std.proofs.Common.{List, [], ◌∷◌, ◌++◌, length, append_assoc, take, drop, refl, ap, sym}
use Rattle.std.proofs.Common.{◌∙◌, arith, ◌≡◌, ℕ, ◌+◌, ◌-◌, ◌*◌, ◌/◌, ◌<◌, ◌≤◌, zero, suc}
use Rattle.std.specs.Prelude.{reverse, slice_get, ◌⊎◌}
use Rattle.std.proofs.lemmas.Bool.{cases_lt}
use Rattle.std.proofs.lemmas.Bool.Decides.{eqb_tells}
use Rattle.std.proofs.lemmas.List.{drop-take, length-take-le, reverse-append, take-append-drop}
use Rattle.std.proofs.lemmas.List.Folds.{list_all-append, list_any-append}
use Rattle.std.proofs.lemmas.Slice.{drop-put_mid, take-put_mid, take-put_mid_below}
use Rattle.std.proofs.Math.Seq.{drop-append_seam}
use Rattle.std.specs.List.{list_all, list_any}
use borrow.Rule.Slice.PartMut.{put_mid}
use Rattle.bio.specs.Content.{Patch, over, sector_of}
use Rattle.bio.specs.ContentLaws.{over-after, over-before, over-in}
use Rattle.bio.specs.Places.{collect}
use Rattle.world.specs.Cells.{PutsSector}

pub any_reverse : {A : Type 0} (test : A → Bool) (xs : List A)
    → list_any test (reverse xs) ≡ list_any test xs
any_reverse test [] = refl
any_reverse test (x ∷ xs) =
    ap (list_any test) (reverse-append (x ∷ []) xs) ∙ list_any-append test (reverse xs) (x ∷ [])
    ∙ ap (λ b. b || (test x || false)) (any_reverse test xs) ∙ swapped (list_any test xs) (test x)
  where
    swapped : (a b : Bool) → (a || (b || false)) ≡ (b || a)
    swapped true true = refl
    swapped true false = refl
    swapped false true = refl
    swapped false false = refl

pub all_reverse : {A : Type 0} (test : A → Bool) (xs : List A)
    → list_all test (reverse xs) ≡ list_all test xs
all_reverse test [] = refl
all_reverse test (x ∷ xs) =
    ap (list_all test) (reverse-append (x ∷ []) xs) ∙ list_all-append test (reverse xs) (x ∷ [])
    ∙ ap (λ b. b && (test x && true)) (all_reverse test xs) ∙ swapped (list_all test xs) (test x)
  where
    swapped : (a b : Bool) → (a && (b && true)) ≡ (b && a)
    swapped true true = refl
    swapped true false = refl
    swapped false true = refl
    swapped false false = refl

take_next : {A : Type 0} (xs : List A) (k : ℕ) (x : A) → slice_get xs k ≡ Some x
    → take (suc k) xs ≡ take k xs ++ x ∷ []
take_next [] k x is = cc
take_next (y ∷ xs) zero x is = grind arith
take_next (y ∷ xs) (suc k) x is = grind (arith, take_next xs k x is)

pub some_fails : {A : Type 0} (test : A → Bool) (xs : List A) (k : ℕ) (x : A)
    → slice_get xs k ≡ Some x → test x ≡ false → list_all test xs ≡ false
some_fails test [] k x is fails = cc
some_fails test (y ∷ xs) zero x is fails = grind arith
some_fails test (y ∷ xs) (suc k) x is fails =
    ap (λ b. test y && b) (some_fails test xs k x is fails) ∙ and_false (test y)
  where
    and_false : (a : Bool) → (a && false) ≡ false
    and_false true = refl
    and_false false = refl

pub grown : {A : Type 0} (f : ℕ → List A) (n next : ℕ) (old mid new : List A) → next ≡ suc n
    → mid ≡ old ++ collect f n → new ≡ mid ++ f n
    → new ≡ old ++ collect f next
grown f n next old mid new is before here = cc (append_assoc old (collect f n) (f n))

pub put_outside : (first count : ℕ) (value : ℕ → List ℕ) (at : ℕ) (image : List ℕ)
    → (at < first) ⊎ (first + count ≤ at)
    → PutsSector (over first count value) at image image
put_outside first count value at image outside = grind (arith, eqb_tells, over-before, over-after)

pub range_value : (first count : ℕ) (value : ℕ → List ℕ) (at place : ℕ) (part : List ℕ)
    → at ≡ first + place → place < count → part ≡ value place
    → over first count value at ≡ Some part
range_value first count value at place part is within same = grind (arith, over-in)

front_is : (at : ℕ) (old part : List ℕ) → at < length old / 512 → length part ≡ 512
    → take (512 * at + 512) (put_mid (at * 512) (at * 512 + 512 - at * 512) old part)
    ≡ take (at * 512) old ++ part
front_is at old part within size = grind (arith, take-put_mid)

back_is : (at n : ℕ) (old part : List ℕ) → at < length old / 512 → length part ≡ 512
    → 512 * at + 512 ≤ n
    → drop n (put_mid (at * 512) (at * 512 + 512 - at * 512) old part) ≡ drop n old
back_is at n old part within size past = grind (arith, drop-put_mid)

length_put : (at : ℕ) (old part : List ℕ) → at < length old / 512 → length part ≡ 512
    → length (put_mid (at * 512) (at * 512 + 512 - at * 512) old part) ≡ length old
length_put at old part within size =
    grind (
      arith,
      put_mid,
      length-take-le,
      length-drop,
      front_is,
      length-append,
      back_is,
      take-append-drop,
    )

sector_before : (at sector : ℕ) (old part : List ℕ) → at < length old / 512 → length part ≡ 512
    → sector < at
    → sector_of (put_mid (at * 512) (at * 512 + 512 - at * 512) old part) sector
    ≡ sector_of old sector
sector_before at sector old part within size less =
    let new = put_mid (at * 512) (at * 512 + 512 - at * 512) old part in
    sym (drop-take (512 * sector) 512 new)
    ∙ ap (drop (512 * sector))
    (take-put_mid_below (at * 512) (at * 512 + 512 - at * 512) old part (512 * sector + 512)
    (omega arith) (omega arith))
    ∙ drop-take (512 * sector) 512 old

sector_here : (at : ℕ) (old part : List ℕ) → at < length old / 512 → length part ≡ 512
    → sector_of (put_mid (at * 512) (at * 512 + 512 - at * 512) old part) at ≡ part
sector_here at old part within size =
    let new = put_mid (at * 512) (at * 512 + 512 - at * 512) old part in
    let cut : length (take (at * 512) old) ≡ 512 * at =
    length-take-le (at * 512) old (omega arith) ∙ omega arith in
    sym (drop-take (512 * at) 512 new)
    ∙ ap (drop (512 * at)) (front_is at old part within size)
    ∙ ap (λ (n : ℕ). drop n (take (at * 512) old ++ part)) (sym cut)
    ∙ drop-append_seam (take (at * 512) old) part

pub is_put : (patch : Patch) (at : ℕ) (old part new : List ℕ) → at < length old / 512
    → length part ≡ 512
    → new ≡ put_mid (at * 512) (at * 512 + 512 - at * 512) old part → patch at ≡ Some part
    → PutsSector patch at old new
is_put patch at old part new within size is value =
    grind (arith, length_put, eqb_tells, put_mid, sector_here, cases_lt, sector_before, back_is)
