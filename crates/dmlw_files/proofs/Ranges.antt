-- The pieces of a disk's image, one after another, are the image.
use Rattle.std.proofs.Common.{Some, ap, arith, sym, ◌≡◌, ◌∙◌, ℕ, zero, suc, ◌+◌, ◌++◌, List, Option}
use Rattle.std.proofs.Common.{None}
use Rattle.std.proofs.lemmas.List.{append_assoc, append-nil}
use Rattle.std.specs.Io.KnownBytes.{Appends, Consumes}
use Rattle.bio.specs.Content.{Content, gather}

-- two ranges, of which one begins where the other ends, have the bytes of both
gather_joined : (c : Content) (m n : ℕ) → gather c 0 (m + n) ≡ gather c 0 m ++ gather c m n
gather_joined c m zero =
    let none : m + zero ≡ m = omega arith in
    ap (gather c 0) none ∙ sym (append-nil (gather c 0 m))
gather_joined c m (suc n) =
    let more : m + suc n ≡ suc (m + n) = omega arith in
    let here : 0 + (m + n) ≡ m + n = omega arith in
    ap (gather c 0) more
    ∙ ap (λ (bytes : List ℕ). bytes ++ c (0 + (m + n))) (gather_joined c m n)
    ∙ ap (λ (k : ℕ). (gather c 0 m ++ gather c m n) ++ c k) here
    ∙ append_assoc (gather c 0 m) (gather c m n) (c (m + n))

-- what was written of a disk's first sectors, and then a piece of those that come next
pub written_more : (c d : Content) (a b w : Option (List ℕ)) (piece : List ℕ)
    (from first count size upto : ℕ) → Appends a b (gather c 0 from) → from ≡ first
    → first + size ≡ upto → Appends b w piece → piece ≡ gather d first count → d ≡ c → count ≡ size
    → Appends a w (gather c 0 upto)
written_more c d None b w piece from first count size upto before begins ends next read same all =
    tt
written_more c d (Some a) None w piece from first count size upto before begins ends next read same
    all = absurd before
written_more c d (Some a) (Some b) None piece from first count size upto before begins ends next
    read same all = absurd next
written_more c d (Some a) (Some b)
    (Some w) piece from first count size upto before begins ends next read same all =
    let bytes : piece ≡ gather c first size =
    read ∙ ap (λ (e : Content). gather e first count) same ∙ ap (gather c first) all in
    next
    ∙ ap (λ (xs : List ℕ). b ++ xs) bytes
    ∙ ap (λ (xs : List ℕ). xs ++ gather c first size)
    (before ∙ ap (λ (n : ℕ). a ++ gather c 0 n) begins)
    ∙ append_assoc a (gather c 0 first) (gather c first size)
    ∙ ap (λ (xs : List ℕ). a ++ xs) (sym (gather_joined c first size) ∙ ap (gather c 0) ends)

-- What several reads take from a reader.

-- some bytes were read, and then others
pub consumed_more : (old middle new : Option (List ℕ)) (first next : List ℕ)
    → Consumes old middle first → Consumes middle new next → Consumes old new (first ++ next)
consumed_more None middle new first next before after = tt
consumed_more (Some rest) None new first next before after = absurd before
consumed_more (Some rest) (Some left) None first next before after = absurd after
consumed_more (Some rest) (Some left) (Some last) first next before after =
    before ∙ ap (λ xs. first ++ xs) after ∙ sym (append_assoc first next last)
