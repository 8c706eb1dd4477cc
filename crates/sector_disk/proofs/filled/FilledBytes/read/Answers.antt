use Rattle.std.proofs.Common.{◌≡◌, ℕ, suc, zero, ◌+◌, ◌-◌, ◌≤◌, List, [], ◌∷◌, ◌++◌, ◌∙◌, take}
use Rattle.std.proofs.Common.{drop, length, ap, replicate, refl, sym, arith, inl, inr}
use Rattle.std.proofs.Common.{length-append, length-drop}
use Rattle.std.specs.Prelude.{min}
use native.Mathlib.Numerals.{unary_clauses}
use Rattle.std.proofs.Math.Seq.{drop-append-add}
use Rattle.std.proofs.lemmas.List.{length-replicate, drop-append-le, drop-replicate, take-replicate}
use Rattle.std.proofs.lemmas.Bool.{cases_lt}
use Rattle.sector_disk.proofs.filled.FilledBytes.read.Goals as goal

behind : (bytes : List ℕ) (count fill from n : ℕ) → length bytes ≤ from
    → from + n ≤ length bytes + count
    → take n (drop from (bytes ++ replicate count fill)) ≡ replicate n fill
behind bytes count fill from n past within =
    let place : from ≡ length bytes + (from - length bytes) = omega arith in
    grind (arith, place)
    ∙ ap (take n) (drop-append-add bytes (replicate count fill) (from - length bytes)
    ∙ drop-replicate (from - length bytes) count fill)
    ∙ take-replicate n (count - (from - length bytes)) fill (omega arith)

front : (bytes : List ℕ) (count fill n : ℕ) → n ≤ length bytes + count
    → take n (bytes ++ replicate count fill)
    ≡ take (min (length bytes) n) bytes ++ replicate (n - min (length bytes) n) fill
front [] count fill n within = simp unary_clauses (take-replicate n count fill (omega arith))
front (x ∷ xs) count fill zero within = simp unary_clauses
front (x ∷ xs) count fill (suc n) within =
    grind (arith, front xs count fill n (omega arith), unary_clauses)

part : (bytes : List ℕ) (count fill from n start held : ℕ) → start ≡ min from (length bytes)
    → held ≡ min (length bytes - start) n → from + n ≤ length bytes + count
    → take n (drop from (bytes ++ replicate count fill))
    ≡ take held (drop start bytes) ++ replicate (n - held) fill
part bytes count fill from n start held starts holds within = elim (cases_lt from (length bytes)) [
  | inl less ↦
      let same : start ≡ from = omega arith in
      let size : held ≡ min (length (drop from bytes)) n = omega (arith, length-drop from bytes) in
      ap (take n) (drop-append-le from bytes (replicate count fill) (omega arith))
      ∙ front (drop from bytes) count fill n (omega (arith, length-drop from bytes))
      ∙ cc
  | inr past ↦
      let none : held ≡ 0 = omega arith in
      let all : n - 0 ≡ n = omega arith in
      behind bytes count fill from n (omega arith) within
      ∙ sym (rw (none, all) refl)
]

pub returns : goal.returns
returns c =
    let inside = c.self.inside in
    let bytes = inside.bytes.items in
    let view : bytes ++ replicate inside.more inside.fill ≡ c.args.self.now = c.self.view_is in
    let size = simp (length-append, length-replicate) at (ap length view) in
    let parts = part bytes inside.more inside.fill c.args.from
    (length c.args.buffer.now) c.min-from.result c.min-held.result
    (omega arith) (omega arith) (omega arith) in
    let held : c.min-from.result + c.min-held.result - c.min-from.result ≡ c.min-held.result =
    omega arith in
    let rest : length c.split_at_mut-first.result.1.now ≡ length c.args.buffer.now - c.min-held.result = omega arith in
    let filled = c.fill.ensures.after (λ y same. same) in
    cc
