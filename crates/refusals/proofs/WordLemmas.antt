-- Proves that the loops that cut a text and read a number give what `Words` defines.
use Rattle.std.proofs.Common.{⊎_elim, lit<, refl, ap, ◌∙◌, sym, arith, cond, List, Result, Ok, Err}
use Rattle.std.proofs.Common.{MatchResult, Bor, [], ◌∷◌, length, take, drop, take_all, Option, Some}
use Rattle.std.proofs.Common.{None, ◌≡◌, ℕ, ◌+◌, ◌-◌, ◌*◌, ◌^◌, ◌<◌, ◌≤◌, suc, Bool, true, false}
use Rattle.std.proofs.Common.{◌&&◌}
use Rattle.std.specs.Prelude.{nat_lt, nat_le, ◌==◌, position, not}
use Rattle.std.proofs.lemmas.Bool.{lt-ltb, le-ltb, le-leb, and_right, cases_lt, cond-true}
use Rattle.std.proofs.lemmas.Bool.{cond-false, ltb-true, ltb-false}
use Rattle.std.proofs.lemmas.Bool.Decides.{nat_tests}
use Rattle.std.specs.Char.{is_ascii_digit}
use Rattle.std.specs.List.{list_all, position_or_len}
use Rattle.std.specs.Option.{option_and_then}
use Rattle.std.specs.Result.{ResultUnwrapsOrElse}
use Rattle.std.specs.Str.{IsUtf8}
use Rattle.refusals.specs.Words.{before_byte, after_byte, number_after, number_of, with_digit}

front_step : (t : Bool) (n b : ℕ) (bytes f : List ℕ) → take n bytes ≡ f
    → take (cond (not t) (1 + n) 0) (b ∷ bytes) ≡ cond t [] (b ∷ f)
front_step true n b bytes f same = refl
front_step false n b bytes f same =
    let e : 1 + n ≡ suc n = omega arith in rw e (ap (λ x. b ∷ x) same)

behind_step : (t : Bool) (n b : ℕ) (bytes : List ℕ) (rest : Option (List ℕ))
    → rest ≡ cond (nat_lt n (length bytes)) (Some (drop (n + 1) bytes)) None
    → cond t (Some bytes) rest ≡ cond (nat_lt (cond (not t) (1 + n) 0) (length (b ∷ bytes)))
    (Some (drop (cond (not t) (1 + n) 0 + 1) (b ∷ bytes))) None
behind_step true n b bytes rest same = grind (arith, nat_tests)
behind_step false n b bytes rest same =
    let one : 1 + n + 1 ≡ suc (n + 1) = omega arith in
    let test : nat_lt (1 + n) (suc (length bytes)) ≡ nat_lt n (length bytes) =
    grind (arith, nat_tests) in
    rw (test, one) same

pub before_byte_position : (mark : ℕ) (bytes : List ℕ)
    → take (position_or_len (λ b. b == mark) bytes) bytes ≡ before_byte mark bytes
before_byte_position mark [] = refl
before_byte_position mark (b ∷ bytes) = front_step (b == mark) _ b bytes _ (before_byte_position mark bytes)

pub after_byte_position : (mark : ℕ) (bytes : List ℕ)
    → after_byte mark bytes ≡ cond (nat_lt (position_or_len (λ b. b == mark) bytes) (length bytes))
    (Some (drop (position_or_len (λ b. b == mark) bytes + 1) bytes)) None
after_byte_position mark [] = refl
after_byte_position mark (b ∷ bytes) = behind_step (b == mark) _ b bytes _ (after_byte_position mark bytes)

-- As the loop reads a number, it tests each digit; `number_of` tests only the whole number.
abbrev pub number_after_checked : ℕ → List ℕ → Option ℕ
number_after_checked n [] = Some n
number_after_checked n (digit ∷ digits) =
    option_and_then (λ m. number_after_checked m digits) (with_digit n digit)

-- This lets the test after each digit agree with the test of the whole number.
pub number_after_grows : (n : ℕ) (digits : List ℕ) → n ≤ number_after n digits
number_after_grows n [] = omega arith
number_after_grows n (digit ∷ digits) =
    omega (arith, number_after_grows (10 * n + (digit - 48)) digits)

closed_step : (t all : Bool) (m end : ℕ) (f : ℕ → Option ℕ) → m ≤ end
    → (m < 2 ^ 64 → f m ≡ cond (all && nat_lt end (2 ^ 64)) (Some end) None) →
    option_and_then f (cond (t && nat_lt m (2 ^ 64)) (Some m) None)
    ≡ cond ((t && all) && nat_lt end (2 ^ 64)) (Some end) None
closed_step false all m end f up same = refl
closed_step true all m end f up same =
    ⊎_elim
    (λ (low : m < 2 ^ 64). let test : nat_lt m (2 ^ 64) ≡ true = lt-ltb _ _ low in
    rw test (same low))
    (λ (high : 2 ^ 64 ≤ m). let test : nat_lt m (2 ^ 64) ≡ false = le-ltb _ _ high in
    let past : nat_lt end (2 ^ 64) ≡ false = le-ltb _ _ (omega arith) in
    rw (test, past) (sym (cond-false _ _ _ (and_right all false refl))))
    (cases_lt m (2 ^ 64))

pub number_behind_closed : (n : ℕ) (digits : List ℕ) → n < 2 ^ 64
    → number_after_checked n digits
    ≡ cond (list_all is_ascii_digit digits && nat_lt (number_after n digits) (2 ^ 64))
    (Some (number_after n digits)) None
number_behind_closed n [] low = let test : nat_lt n (2 ^ 64) ≡ true = lt-ltb _ _ low in rw test refl
number_behind_closed n (digit ∷ digits) low =
    closed_step (is_ascii_digit digit) _ (10 * n + (digit - 48)) _ (λ m. number_after_checked m digits)
    (number_after_grows (10 * n + (digit - 48)) digits)
    (number_behind_closed (10 * n + (digit - 48)) digits)

chosen_some : (t : Bool) (n place : ℕ) → Some place ≡ cond t (Some n) None
    → (t ≡ true) × (place ≡ n)
chosen_some true n place e = (refl, cc)
chosen_some false n place e = absurd (cc)

chosen_none : (t : Bool) (n : ℕ) → None ≡ cond t (Some n) None → t ≡ false
chosen_none true n e = absurd (cc)
chosen_none false n e = refl

pub cut_some : (mark : ℕ) (bytes : List ℕ) (place : ℕ)
    → Some place ≡ position (λ b. b == mark) bytes
    → (place < length bytes) × (take place bytes ≡ before_byte mark bytes)
    × (after_byte mark bytes ≡ Some (drop (place + 1) bytes))
cut_some mark bytes place e =
    let h : (nat_lt (position_or_len (λ b. b == mark) bytes) (length bytes) ≡ true)
    × (place ≡ position_or_len (λ b. b == mark) bytes) = chosen_some _ _ _ e in
    rw h.1 (
      ltb-true _ _ h.0,
      before_byte_position mark bytes,
      after_byte_position mark bytes ∙ cond-true _ _ _ h.0,
    )

pub cut_none : (mark : ℕ) (bytes : List ℕ) → None ≡ position (λ b. b == mark) bytes
    → (bytes ≡ before_byte mark bytes) × (after_byte mark bytes ≡ None)
cut_none mark bytes e =
    let h : nat_lt (position_or_len (λ b. b == mark) bytes) (length bytes) ≡ false =
    chosen_none _ _ e in (
      sym (take_all _ bytes (ltb-false _ _ h)) ∙ before_byte_position mark bytes,
      after_byte_position mark bytes ∙ cond-false _ _ _ h,
    )

pub number_start : (word : List ℕ) → 0 < length word → length word ≤ 20
    → number_after_checked 0 word ≡ number_of word
number_start word low high =
    let l : nat_lt 0 (length word) ≡ true = lt-ltb _ _ low in
    let h : nat_le (length word) 20 ≡ true = le-leb _ _ high in
    number_behind_closed 0 word (lit< tt) ∙ (rw (l, h) refl)

pub unwrapped : (E : Type 0) (P : Bor (List ℕ) → Type 0) (bytes : List ℕ) (Q : E → Type 0)
    (r : Result (Bor (List ℕ)) E) (text : Bor (List ℕ)) → IsUtf8 bytes
    → MatchResult r (λ s. (s.now ≡ bytes) × IsUtf8 bytes) (λ e. (IsUtf8 bytes → ⊥) × Q e)
    → ResultUnwrapsOrElse r P text → text.now ≡ bytes
unwrapped E P bytes Q (Ok s) text utf8 (is, more) same = ap (λ (t : Bor (List ℕ)). t.now) same ∙ is
unwrapped E P bytes Q (Err e) text utf8 (bad, more) same = absurd (bad utf8)
