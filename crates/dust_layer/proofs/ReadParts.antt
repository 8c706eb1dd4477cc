-- What holds after some blocks of a read are done, and which bytes its buffer then has.
use Rattle.std.proofs.Common.{◌≡◌, ℕ, zero, suc, ◌+◌, ◌-◌, ◌*◌, ◌/◌, ◌<◌, ◌≤◌, false, ◌++◌, Ok, Err}
use Rattle.std.proofs.Common.{List, length, take, drop, refl, ap, sym, subst, ◌∙◌, inl, inr, arith}
use Rattle.std.proofs.lemmas.Bool.{cases_lt}
use Rattle.std.proofs.lemmas.List.{append-nil, append_assoc, drop-drop, drop-take, take-take}
use Rattle.std.proofs.lemmas.List.{take_all}
use Rattle.std.proofs.Math.Seq.{take-add}
use Rattle.std.proofs.lemmas.Nat.{le-div}
use Rattle.std.proofs.Math.Nat.{div-mul-le_self}
use Rattle.std.specs.Prelude.{Result, is_some}
use Rattle.bio.specs.declared.outcome.DevError.{DevError}
use Rattle.blockdev.specs.View.{Call, Reads, View}
use Rattle.blockdev.specs.JoinLaws.{goes_both, stays_both}
use Rattle.blockdev.specs.Law.{DeviceFrame, CrashSetKept}
use Rattle.bio.specs.Content.{Content, gather, nothing}
use Rattle.bio.specs.ContentLaws.{gather-ext, patched-none}
use Rattle.dust_layer.specs.Walk.{Bad, DoesParts, FailsBelow, bytes_within, call_part, reach}
use Rattle.dust_layer.proofs.BlockWalk.{times-le, reach_last, HasPassed, passed_next, IsNextPart}
use Rattle.dust_layer.proofs.BlockWalk.{next_part_from}

parts_same : {D : Type 0} (does : D → Call → ℕ → Result ℕ DevError → D → Type 0)
    (part other : ℕ → Call) (begin count : ℕ)
    (old : D) (now : ℕ) (new : D) (end : ℕ)
    → ((place : ℕ) → begin ≤ place → place < begin + count → part place ≡ other place)
    → DoesParts does part begin count old now new end
    → DoesParts does other begin count old now new end
parts_same does part other begin zero old now new end same did = did
parts_same does part other begin (suc count) old now new end same did =
    grind (
      arith,
      parts_same does part other begin count old now did.0 did.1 (λ place low high. same
          place low (omega arith)) did.2,
    )

bytes-same : (a n k : ℕ) (xs ys : List ℕ) → a + n ≤ k → take k xs ≡ take k ys
    → take n (drop a xs) ≡ take n (drop a ys)
bytes-same a n k xs ys within same =
    sym (drop-take a n xs)
    ∙ ap (drop a) (sym (take-take (a + n) k xs within) ∙ ap (take (a + n)) same
    ∙ take-take (a + n) k ys within)
    ∙ drop-take a n ys

reach-order : (block first count p q : ℕ) → p ≤ q
    → reach block first count p ≤ reach block first count q
reach-order block first count p q order = grind (arith, times-le)

-- The read has done `done` blocks; the buffer has the sectors before `from`.
pub record Reading {D : Type 0} (does : D → Call → ℕ → Result ℕ DevError → D → Type 0)
    (shown : D → View) (block first : ℕ) (before now_bytes : List ℕ)
    (bad : Bad) (done from : ℕ) (old : D) (now : ℕ) (new : D) (end : ℕ) : Type 0 where
  pub passed : HasPassed does block (Reads first before now_bytes) bad bad done from old now new end
  pub bytes : take (512 * (from - first)) now_bytes
      ≡ gather (shown old).content first (from - first)
  pub rest : drop (512 * (from - first)) now_bytes ≡ drop (512 * (from - first)) before
  pub goes : DeviceFrame nothing (shown old) (shown new)
  pub stays : CrashSetKept (shown old) (shown new)

-- the blocks done so far don't depend on the buffer from sector `from` on
passed_read : {D : Type 0} (does : D → Call → ℕ → Result ℕ DevError → D → Type 0) (block first : ℕ)
    (before xs ys : List ℕ) (bad : Bad) (done from : ℕ)
    (old : D) (now : ℕ) (new : D) (end : ℕ)
    → take (512 * (from - first)) xs ≡ take (512 * (from - first)) ys
    → HasPassed does block (Reads first before xs) bad bad done from old now new end
    → HasPassed does block (Reads first before ys) bad bad done from old now new end
passed_read does block first before xs ys bad done from old now new end same so_far = record {
  reached = so_far.reached;
  passes = record {
    free = so_far.passes.free;
    parts =
        parts_same does (call_part block (Reads first before xs))
        (call_part block (Reads first before ys)) (first / block) done old now new end
        (λ place low high.
        let a = reach block first (length before / 512) place in
        let b = reach block first (length before / 512) (suc place) in
        let order : a ≤ b =
        reach-order block first (length before / 512) place (suc place) (omega arith) in
        let begins : first
        ≤ a = elim (cases_lt place (first / block)) [
          | inl less ↦ absurd (omega arith)
          | inr more ↦ grind (arith, length)
        ] in
        let ends : b ≤ from = let h = reach-order block first (length before / 512) (suc place)
        (first / block + done) (omega arith) in let e = so_far.reached in omega (arith, h, e) in
        ap (λ (bytes : List ℕ). Reads a
        (take (512 * (b - a)) (drop (512 * (a - first)) before)) bytes)
        (bytes-same (512 * (a - first)) (512 * (b - a)) (512 * (from - first)) xs ys
        (omega (arith, order, begins, ends)) same)) so_far.passes.parts;
  };
  list = so_far.list;
  time = so_far.time;
}

gather-add : (c : Content) (first k n : ℕ)
    → gather c first (k + n) ≡ gather c first k ++ gather c (first + k) n
gather-add c first k zero = grind (arith, append-nil)
gather-add c first k (suc n) =
    let more : k + suc n ≡ suc (k + n) = omega arith in
    let place : first + (k + n) ≡ first + k + n = omega arith in
    ap (gather c first) more
    ∙ ap (λ (xs : List ℕ). xs ++ c (first + (k + n))) (gather-add c first k n)
    ∙ append_assoc (gather c first k) (gather c (first + k) n) (c (first + (k + n)))
    ∙ ap (λ (s : ℕ). gather c first k ++ (gather c (first + k) n ++ c s)) place

rest-further : (a b : ℕ) (xs ys : List ℕ) → a ≤ b → drop a xs ≡ drop a ys → drop b xs ≡ drop b ys
rest-further a b xs ys order same =
    ap (λ (n : ℕ). drop n xs) (omega arith)
    ∙ sym (drop-drop (b - a) a xs) ∙ ap (drop (b - a)) same ∙ drop-drop (b - a) a ys
    ∙ ap (λ (n : ℕ). drop n ys) (omega arith)

next_read : {D : Type 0} (does : D → Call → ℕ → Result ℕ DevError → D → Type 0) (shown : D → View)
    (block first : ℕ) (before xs : List ℕ)
    (bad : Bad) (done from to : ℕ) (old : D) (now : ℕ) (mid : D) (at : ℕ)
    → 0 < block → 0 < length before / 512
    → done < (first + length before / 512 - 1) / block + 1 - first / block
    → to ≡ reach block first (length before / 512) (first / block + done + 1)
    → Reading does shown block first before xs bad done from old now mid at
    → IsNextPart block first (length before / 512) done from to
next_read does shown block first before xs bad done from to old now mid at positive some within
    is_to so_far = grind (arith, next_part_from)

pub reading_step : {D : Type 0} (does : D → Call → ℕ → Result ℕ DevError → D → Type 0)
    (shown : D → View) (block first : ℕ) (before xs ys : List ℕ)
    (bad : Bad) (done from to : ℕ) (old : D) (now : ℕ) (mid : D) (at : ℕ) (new : D) (end : ℕ)
    → 0 < block → 0 < length before / 512
    → done < (first + length before / 512 - 1) / block + 1 - first / block
    → to ≡ reach block first (length before / 512) (first / block + done + 1)
    → Reading does shown block first before xs bad done from old now mid at
    → is_some (bad (first / block + done)) ≡ false
    → take (512 * (from - first)) ys ≡ take (512 * (from - first)) xs
    → drop (512 * (to - first)) ys ≡ drop (512 * (to - first)) xs
    → bytes_within first from to ys ≡ gather (shown mid).content from (to - from)
    → DeviceFrame nothing (shown mid) (shown new) → CrashSetKept (shown mid) (shown new)
    → does mid (Reads from (bytes_within first from to xs) (bytes_within first from to ys)) at
    (Ok end) new → at ≤ end
    → Reading does shown block first before ys bad (done + 1) to old now new end
reading_step does shown block first before xs ys bad done from to old now mid at new end positive
    some within is_to so_far free same behind read goes stays did later =
    let part =
    next_read does shown block first before xs bad done from to old now mid at positive some
    within is_to so_far in
    let low = part.low in
    let order = part.order in
    let ends : to ≡ reach block first (length before / 512) (suc (first / block + done)) =
    is_to ∙ ap (reach block first (length before / 512)) (let b = first / block in omega arith) in
    let asked : does mid
    (Reads from (bytes_within first from to before) (bytes_within first from to ys)) at
    (Ok end) new =
    subst
    (λ (bs : List ℕ). does mid
    (Reads from (take (512 * (to - from)) bs) (bytes_within first from to ys)) at (Ok end)
    new) so_far.rest did in
    let passed : HasPassed does block (Reads first before ys) bad bad (suc done) to
    old now new end =
    passed_next does block (Reads first before ys) bad bad bad done from to old now mid at new end
    (passed_read does block first before xs ys bad done from old now mid at (sym same)
    so_far.passed) free ends asked later (λ place. refl) in
    let content : (s : ℕ) → (shown mid).content s ≡ (shown old).content s =
    λ s. patched-none nothing (shown old).content
    (shown mid).content so_far.goes.content s refl in
    let k = from - first in
    let n = to - from in
    let up_to : to - first ≡ k + n = omega (arith, low, order) in
    let bytes_to : 512 * (to - first) ≡ 512 * k + 512 * n = omega (arith, low, order) in
    let there : (s : ℕ) → from + s ≡ first + k + s = λ s. omega (arith, low) in
    record {
      passed =
          grind arith;
      bytes =
          grind (arith, take, take-add, drop, gather-ext, gather-add);
      rest =
          grind (arith, rest-further);
      goes = goes_both nothing (shown old) (shown mid) (shown new) so_far.goes goes;
      stays = stays_both (shown old) (shown mid) (shown new) so_far.stays stays;
    }

pub reading_failed : {D : Type 0} (does : D → Call → ℕ → Result ℕ DevError → D → Type 0)
    (shown : D → View) (block first : ℕ) (before xs ys : List ℕ)
    (bad : Bad) (done from to : ℕ) (old : D) (now : ℕ) (mid : D) (at : ℕ) (new : D)
    (error : DevError)
    → 0 < block → 0 < length before / 512
    → done < (first + length before / 512 - 1) / block + 1 - first / block
    → to ≡ reach block first (length before / 512) (first / block + done + 1)
    → Reading does shown block first before xs bad done from old now mid at
    → is_some (bad (first / block + done)) ≡ false
    → take (512 * (from - first)) ys ≡ take (512 * (from - first)) xs
    → drop (512 * (to - first)) ys ≡ drop (512 * (to - first)) xs
    → does mid (Reads from (bytes_within first from to xs) (bytes_within first from to ys)) at
    (Err error) new
    → FailsBelow does block (Reads first before ys) bad bad old now new error
reading_failed does shown block first before xs ys bad done from to old now mid at new error
    positive some within is_to so_far free same behind did =
    let part =
    next_read does shown block first before xs bad done from to old now mid at positive some
    within is_to so_far in
    let order = part.order in
    let ends_next : to ≡ reach block first (length before / 512) (first / block + suc done) =
    is_to ∙ ap (reach block first (length before / 512)) (let b = first / block in omega arith) in
    let ends : to ≡ reach block first (length before / 512) (suc (first / block + done)) =
    is_to ∙ ap (reach block first (length before / 512)) (let b = first / block in omega arith) in
    let asked : does mid
    (Reads from (bytes_within first from to before) (bytes_within first from to ys)) at
    (Err error) new =
    subst
    (λ (bs : List ℕ). does mid
    (Reads from (take (512 * (to - from)) bs) (bytes_within first from to ys)) at
    (Err error) new) so_far.rest did in record {
      count = done;
      mid = mid;
      end = at;
      passes =
          (passed_read does block first before xs ys bad done from old now mid at
          (sym same) so_far.passed).passes;
      within =
          grind (arith, length);
      free = free;
      fails =
          grind arith;
      rest =
          grind (arith, rest-further);
      list = λ place. refl;
    }

pub reading_bytes : {D : Type 0} (does : D → Call → ℕ → Result ℕ DevError → D → Type 0)
    (shown : D → View) (block first : ℕ) (before xs : List ℕ)
    (bad : Bad) (done from : ℕ) (old : D) (now : ℕ) (new : D) (end : ℕ)
    → 0 < block → 0 < length before / 512 → length xs ≡ length before
    → length before ≡ 512 * (length before / 512)
    → done ≡ (first + length before / 512 - 1) / block + 1 - first / block
    → Reading does shown block first before xs bad done from old now new end
    → xs ≡ gather (shown old).content first (length before / 512)
reading_bytes does shown block first before xs bad done from old now new end positive some size
    whole is so_far = grind (arith, div-mul-le_self, le-div, reach_last, take_all)
