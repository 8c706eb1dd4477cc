-- Proves how a text is cut into lines, and a line into words, ids, bytes and picks.
-- In a lemma `.._step`, `t` is the result of testing the next byte.
use Rattle.std.proofs.Common.{true, false, ◌&&◌, Some, None, ◌⊎◌, inl, inr, ◌≡◌, ℕ, ◌+◌, ◌-◌, ◌/◌}
use Rattle.std.proofs.Common.{◌%◌, ◌<◌, ◌≤◌, Bool, refl, ap, ◌∙◌, sym, arith, append_assoc, cond}
use Rattle.std.proofs.Common.{List, [], ◌∷◌, length, ◌++◌, Option}
use Rattle.std.specs.Prelude.{◌==◌, unwrap_or, nat_le, not}
use Rattle.std.proofs.lemmas.Bool.{eqb-true, and_parts, and_from, cond-true, eq-eqb}
use Rattle.std.proofs.lemmas.Bool.Decides.{nat_tests}
use Rattle.std.proofs.lemmas.List.{append-nil}
use Rattle.std.proofs.lemmas.Option.{cond_some}
use Rattle.std.proofs.lemmas.Slice.Eq.{bytes_eq-Decides}
use Rattle.std.specs.Char.{is_ascii_digit}
use Rattle.std.specs.List.{list_all, onto_first}
use Rattle.std.specs.Option.{option_map, option_or}
use Rattle.std.specs.Str.{bytes_eq}
use Rattle.refusals.specs.WordLaws.{number_read}
use Rattle.refusals.specs.Words.{after_byte, before_byte, number_of}
use Rattle.dmlw_script.specs.declared.script_id.ScriptId.{ScriptId}
use Rattle.dmlw_script.specs.inside.LineParser.{numbers_of, picks_of, split_words, with_number}
use Rattle.dmlw_script.specs.inside.LineParser.{◌>>=◌}
use Rattle.dmlw_script.specs.Words.{script_id, byte_from, byte_of, byte_text, half_of, hex_digit}
use Rattle.dmlw_script.specs.Words.{is_id, is_name_byte, id_of_word, lines_of}

pub chosen : {A P : Type 0} (t : Bool) (x y z : A) → cond t x y ≡ z → (t ≡ true → x ≡ z → P)
    → (t ≡ false → y ≡ z → P) → P
chosen true x y z e here other = here refl e
chosen false x y z e here other = other refl e

pub bind_some : {A B : Type 0} (o : Option A) (f : A → Option B) (y : B) → (o >>= f) ≡ Some y
    → (x : A) × (o ≡ Some x) × (f x ≡ Some y)
bind_some None f y e = absurd (cc)
bind_some (Some x) f y e = (x, refl, e)

pub map_some : {A B : Type 0} (f : A → B) (o : Option A) (y : B) → option_map f o ≡ Some y
    → (x : A) × (o ≡ Some x) × (f x ≡ y)
map_some f None y e = absurd (cc)
map_some f (Some x) y e = (x, refl, cc)

pub same_some : {A : Type 0} (x y : A) → Some x ≡ Some y → x ≡ y
same_some x y e = cc

pub first_some : {A : Type 0} (x y : Option A) (s : A) → option_or x y ≡ Some s
    → (x ≡ Some s) ⊎ (y ≡ Some s)
first_some None y s e = inr e
first_some (Some x) y s e = inl e

pub bind_at : {A B : Type 0} (o : Option A) (f : A → Option B) (x : A) (y : Option B) → o ≡ Some x
    → f x ≡ y → (o >>= f) ≡ y
bind_at None f x y e g = absurd (cc)
bind_at (Some z) f x y e g = let same : z ≡ x = cc in ap f same ∙ g

abbrev pub lacks : ℕ → List ℕ → Bool
lacks mark word = list_all (λ b. not (b == mark)) word

pub all_weaker : (p q : ℕ → Bool) → ((b : ℕ) → p b ≡ true → q b ≡ true) → (word : List ℕ)
    → list_all p word ≡ true → list_all q word ≡ true
all_weaker p q weaker [] all = refl
all_weaker p q weaker (b ∷ word) all =
    let parts : (p b ≡ true) × (list_all p word ≡ true) = and_parts _ _ all in
    and_from _ _ (weaker b parts.0) (all_weaker p q weaker word parts.1)

digit_not_space : (b : ℕ) → is_ascii_digit b ≡ true → not (b == 32) ≡ true
digit_not_space b digit = grind (arith, nat_tests)

name_byte_not_space : (b : ℕ) → is_name_byte b ≡ true → not (b == 32) ≡ true
name_byte_not_space b letter = grind (arith, nat_tests)

-- The rest of a text from the byte `mark` on; empty if the text has no `mark`.
abbrev pub behind : ℕ → Option (List ℕ) → List ℕ
behind mark None = []
behind mark (Some bytes) = mark ∷ bytes

cut_step : (t : Bool) (b mark : ℕ) (bytes front : List ℕ) (rest : Option (List ℕ))
    → (t ≡ true → b ≡ mark) → bytes ≡ front ++ behind mark rest
    → b ∷ bytes ≡ cond t [] (b ∷ front) ++ behind mark (cond t (Some bytes) rest)
cut_step true b mark bytes front rest here same = grind arith
cut_step false b mark bytes front rest here same = grind arith

before_and_behind : (mark : ℕ) (bytes : List ℕ)
    → bytes ≡ before_byte mark bytes ++ behind mark (after_byte mark bytes)
before_and_behind mark [] = refl
before_and_behind mark (b ∷ bytes) =
    cut_step (b == mark) b mark bytes _ _ (eqb-true b mark) (before_and_behind mark bytes)

pub before_all : (mark : ℕ) (bytes : List ℕ) → after_byte mark bytes ≡ None
    → before_byte mark bytes ≡ bytes
before_all mark bytes none =
    sym (before_and_behind mark bytes ∙ rw none (append-nil (before_byte mark bytes)))

word_step : (t : Bool) (b : ℕ) (word front bytes : List ℕ) (there rest : Option (List ℕ))
    → not t ≡ true → front ≡ word → there ≡ rest
    → (cond t [] (b ∷ front) ≡ b ∷ word) × (cond t (Some bytes) there ≡ rest)
word_step true b word front bytes there rest apart same is = absurd (cc)
word_step false b word front bytes there rest apart same is = grind arith

pub cut_word : (mark : ℕ) (word : List ℕ) (rest : Option (List ℕ)) → lacks mark word ≡ true
    → (before_byte mark (word ++ behind mark rest) ≡ word)
    × (after_byte mark (word ++ behind mark rest) ≡ rest)
cut_word mark [] None lack = (refl, refl)
cut_word mark [] (Some bytes) lack = grind (arith, eq-eqb, cond-true)
cut_word mark (b ∷ word) rest lack =
    let parts : (not (b == mark) ≡ true) × (lacks mark word ≡ true) = and_parts _ _ lack in
    let more = cut_word mark word rest parts.1 in
    word_step (b == mark) b word _ _ _ rest parts.0 more.0 more.1

pub cut_alone : (mark : ℕ) (word : List ℕ) → lacks mark word ≡ true
    → (before_byte mark word ≡ word) × (after_byte mark word ≡ None)
cut_alone mark word lack =
    rw (append-nil word) at (cut_word mark word None lack)

pub number_lacks_space : (word : List ℕ) (n : ℕ) → number_of word ≡ Some n → lacks 32 word ≡ true
number_lacks_space word n e =
    grind (arith, number_read, and_parts, all_weaker, digit_not_space)

pub id_lacks_space : (word : List ℕ) (name : ScriptId) → id_of_word word ≡ Some name
    → lacks 32 word ≡ true
id_lacks_space word name e =
    let id = cond_some (is_id word) (script_id word) name e in
    all_weaker _ _ name_byte_not_space word (and_parts _ _ id.0).1

half_low : (digit half : ℕ) → half_of digit ≡ Some half → half < 16
half_low digit half e =
    chosen _ _ _ _ e (λ low is. decimal_low low (same_some _ half is))
    (λ other is. let high = cond_some _ _ _ is in letter_low high.0 high.1)
  where
    decimal_low : (nat_le 48 digit && nat_le digit 57) ≡ true → digit - 48 ≡ half → half < 16
    decimal_low range value = grind (arith, nat_tests)

    letter_low : (nat_le 97 digit && nat_le digit 102) ≡ true → digit - 87 ≡ half → half < 16
    letter_low range value = grind (arith, nat_tests)

half_again : (half : ℕ) → half < 16 → half_of (hex_digit half) ≡ Some half
half_again half low = grind (arith, nat_tests)

pub byte_low : (word : List ℕ) (byte : ℕ) → byte_of word ≡ Some byte → byte < 256
byte_low (high ∷ low ∷ []) byte e =
    from_halves (half_of high) (half_of low) (half_low high) (half_low low) e
  where
    from_halves : (h l : Option ℕ) → ((x : ℕ) → h ≡ Some x → x < 16)
        → ((y : ℕ) → l ≡ Some y → y < 16) → byte_from h l ≡ Some byte → byte < 256
    from_halves (Some x) (Some y) h_low l_low e = grind arith
    from_halves h l h_low l_low e = absurd (cc)
byte_low word byte e = absurd (cc)

pub byte_again : (byte : ℕ) → byte < 256 → byte_of (byte_text byte) ≡ Some byte
byte_again byte low = grind (arith, half_again)

pub byte_lacks_space : (byte : ℕ) → byte < 256 → lacks 32 (byte_text byte) ≡ true
byte_lacks_space byte low =
    and_from _ _ (hex_not_space (byte / 16) (omega arith))
    (and_from _ _ (hex_not_space (byte % 16) (omega arith)) refl)
  where
    hex_not_space : (half : ℕ) → half < 16 → not (hex_digit half == 32) ≡ true
    hex_not_space half low = grind (arith, nat_tests)

pub same_bytes : (xs ys : List ℕ) → bytes_eq xs ys ≡ true → xs ≡ ys
same_bytes xs ys e = (bytes_eq-Decides xs ys).0 e

-- The parser compares the first word with `word`: `x` is the result if they are equal, else `y`.
pub verb_read : {A : Type 0} (says : List ℕ → A → Type 0) (verb word : List ℕ) (x y : Option A)
    (s : A) → (x ≡ Some s → says word s) → (y ≡ Some s → says verb s)
    → cond (bytes_eq verb word) x y ≡ Some s → says verb s
verb_read says verb word x y s here other e = grind (arith, same_bytes)

abbrev pub after_line : List ℕ → List ℕ
after_line text = unwrap_or (after_byte 10 text) []

alone_step : (t : Bool) (b : ℕ)
    → cond t ([] ∷ []) ((b ∷ []) ∷ [])
    ≡ cond t [] (b ∷ []) ∷ lines_of (unwrap_or (cond t (Some []) None) [])
alone_step true b = refl
alone_step false b = refl

first_step : (t : Bool) (b : ℕ) (bytes f : List ℕ) (after : Option (List ℕ))
    → lines_of bytes ≡ f ∷ lines_of (unwrap_or after []) →
    cond t ([] ∷ lines_of bytes) (onto_first b (lines_of bytes))
    ≡ cond t [] (b ∷ f) ∷ lines_of (unwrap_or (cond t (Some bytes) after) [])
first_step true b bytes f after same = refl
first_step false b bytes f after same = grind arith

pub first_line : (b : ℕ) (bytes : List ℕ)
    → lines_of (b ∷ bytes) ≡ before_byte 10 (b ∷ bytes) ∷ lines_of (after_line (b ∷ bytes))
first_line b [] = alone_step (b == 10) b
first_line b (c ∷ bytes) = first_step (b == 10) b (c ∷ bytes) _ _ (first_line c bytes)

shorter_step : (t : Bool) (b : ℕ) (bytes : List ℕ) (after : Option (List ℕ))
    → length (unwrap_or after []) ≤ length bytes
    → length (unwrap_or (cond t (Some bytes) after) []) < length (b ∷ bytes)
shorter_step true b bytes after low = omega arith
shorter_step false b bytes after low = omega arith

pub after_line_short : (text : List ℕ) → length (after_line text) ≤ length text
after_line_short [] = omega arith
after_line_short (b ∷ bytes) = grind (arith, after_line_short bytes, shorter_step)

pub after_line_shorter : (b : ℕ) (bytes : List ℕ)
    → length (after_line (b ∷ bytes)) < length (b ∷ bytes)
after_line_shorter b bytes =
    shorter_step (b == 10) b bytes (after_byte 10 bytes) (after_line_short bytes)

pub first_line_of : (text : List ℕ) → 0 < length text
    → (lines_of text ≡ before_byte 10 text ∷ lines_of (after_line text))
    × (length (after_line text) < length text)
first_line_of [] filled = absurd (omega arith)
first_line_of (b ∷ bytes) filled = (first_line b bytes, after_line_shorter b bytes)

abbrev pub words_behind : Option (List ℕ) → List (List ℕ)
words_behind None = []
words_behind (Some words) = split_words words

split_step : (t : Bool) (b : ℕ) (bytes first : List ℕ) (behind : Option (List ℕ))
    → split_words bytes ≡ first ∷ words_behind behind
    → cond t ([] ∷ split_words bytes) (onto_first b (split_words bytes))
    ≡ cond t [] (b ∷ first) ∷ words_behind (cond t (Some bytes) behind)
split_step true b bytes first behind e = refl
split_step false b bytes first behind e = ap (onto_first b) e

pub split_first : (bytes : List ℕ)
    → split_words bytes ≡ before_byte 32 bytes ∷ words_behind (after_byte 32 bytes)
split_first [] = refl
split_first (b ∷ bytes) = split_step (b == 32) b bytes _ _ (split_first bytes)

picks_behind : (rest : Option (List ℕ)) → numbers_of (words_behind rest) ≡ picks_of rest
picks_behind None = refl
picks_behind (Some words) = refl

pub picks_first : (words : List ℕ)
    → picks_of (Some words) ≡ with_number (number_of (before_byte 32 words))
    (picks_of (after_byte 32 words))
picks_first words = grind (arith, split_first, picks_behind)

abbrev pub picks_after : List ℕ → Option (List ℕ) → Option (List ℕ)
picks_after front o = option_map (λ (more : List ℕ). front ++ more) o

front_step : (front : List ℕ) (n : ℕ) (o : Option (List ℕ))
    → picks_after (front ++ n ∷ []) o ≡ picks_after front (with_number (Some n) o)
front_step front n None = refl
front_step front n (Some more) = ap Some (append_assoc front (n ∷ []) more)

-- `all` is the result for all picks; reading one more pick doesn't change it.
pub pick_read : (front words : List ℕ) (n : ℕ) (rest all : Option (List ℕ))
    → after_byte 32 words ≡ rest → number_of (before_byte 32 words) ≡ Some n
    → picks_after front (picks_of (Some words)) ≡ all
    → picks_after (front ++ n ∷ []) (picks_of rest) ≡ all
pick_read front words n rest all cut number e = grind (arith, front_step, picks_first)

pub no_pick : (front words : List ℕ) (all : Option (List ℕ))
    → number_of (before_byte 32 words) ≡ None → picks_after front (picks_of (Some words)) ≡ all
    → all ≡ None
no_pick front words all number e = grind (arith, picks_first)

-- For the loop that reads picks: this number decreases with each word.
abbrev pub left_of : Option (List ℕ) → ℕ
left_of None = 0
left_of (Some words) = length words + 1

left_step : (t : Bool) (bytes : List ℕ) (behind : Option (List ℕ)) → left_of behind ≤ length bytes
    → left_of (cond t (Some bytes) behind) ≤ length bytes + 1
left_step true bytes behind low = omega arith
left_step false bytes behind low = omega arith

pub left_behind : (words : List ℕ) → left_of (after_byte 32 words) ≤ length words
left_behind [] = omega arith
left_behind (b ∷ bytes) = grind (arith, left_behind bytes, left_step)
