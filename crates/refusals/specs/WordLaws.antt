-- Laws of the words of a line, and of words that are numbers.
use Rattle.std.proofs.Common.{arith, refl, rules, lit<, ◌≡◌, ℕ, Bool, ◌^◌, ◌<◌, true, false, not}
use Rattle.std.proofs.Common.{cond, List, [], ◌∷◌, ◌++◌, length, Some, ap, subst, sym, ◌∙◌}
use Rattle.std.specs.Prelude.{◌==◌, decimal, nat_lt, nat_le}
use Rattle.std.proofs.lemmas.Bool.{and_from, and_parts, cond-true, le-leb, lt-ltb, ltb-true, ne_eqb}
use Rattle.std.proofs.lemmas.Bool.Decides.{nat_tests}
use Rattle.std.proofs.lemmas.Fmt.{decimal_nonempty, digits_decimal, digits_value-decimal}
use Rattle.std.proofs.lemmas.Fmt.{length-decimal-le}
use Rattle.std.proofs.lemmas.List.Elements.{filter-append}
use Rattle.std.proofs.lemmas.Option.{cond_some}
use Rattle.std.proofs.lemmas.Str.Parse.{numerals_by_fold, IsNumeralModel}
use Rattle.std.specs.Char.{is_ascii_digit}
use Rattle.std.specs.List.{AllByRecursion, filter, join_with_byte, list_all, onto_first}
use Rattle.std.specs.List.{slice_split}
use Rattle.refusals.specs.Words.{is_filled, is_word, words_of, number_after, number_of}
use Rattle.refusals.specs.Words.{number_value, IsNumber}

-- Laws of words and numbers.

-- If `number_of` gives a number, the word is this number.
pub number_read : (word : List ℕ) (n : ℕ) → number_of word ≡ Some n → IsNumber word n
number_read word n e = cond_some _ _ _ e

-- If the word is a number, `number_of` gives this number.
pub number_again : (word : List ℕ) (n : ℕ) → IsNumber word n → number_of word ≡ Some n
number_again word n is = cond-true _ _ _ is.0 ∙ ap Some is.1

-- a number is below 2 ^ 64
pub number_low : (word : List ℕ) (n : ℕ) → IsNumber word n → n < 2 ^ 64
number_low word n is = subst (λ (k : ℕ). k < 2 ^ 64) is.1 (ltb-true _ _ (and_parts _ _ is.0).1)

-- For the prover: the standard library's decimal digits are those of `number_value`.
pub number_model : IsNumeralModel (λ ds. list_all is_ascii_digit ds ≡ true) number_value
number_model = numerals_by_fold _ (search rules) number_after (search rules)

-- The decimal digits of a number are a word with the value of this number.
pub decimal_number : (n : ℕ) → n < 2 ^ 64 → IsNumber (decimal n) n
decimal_number n low =
    let value : number_value (decimal n) ≡ n = digits_value-decimal number_model n low in
    let some : nat_lt 0 (length (decimal n)) ≡ true = lt-ltb _ _ (decimal_nonempty n low) in
    let short : nat_le (length (decimal n)) 20 ≡ true =
    le-leb _ _ (length-decimal-le 20 n (lit< tt) (omega (arith, low)) low) in
    let digits : list_all is_ascii_digit (decimal n) ≡ true = digits_decimal number_model n low in
    let below : nat_lt (number_value (decimal n)) (2 ^ 64) ≡ true =
    lt-ltb _ _ (subst (λ (k : ℕ). k < 2 ^ 64) (sym value) low) in
    (and_from _ _ (and_from _ _ (and_from _ _ some short) digits) below, value)

-- A zero in front of a number of less than 20 digits doesn't change its value.
pub zero_in_front : (word : List ℕ) (n : ℕ) → IsNumber word n → length word < 20
    → IsNumber (48 ∷ word) n
zero_in_front word n number short =
    let some : nat_lt 0 (length (48 ∷ word)) ≡ true = lt-ltb _ _ (omega arith) in
    let lens : nat_le (length (48 ∷ word)) 20 ≡ true = le-leb _ _ (omega arith) in
    let parts = and_parts _ _ number.0 in
    let digits = and_parts _ _ parts.0 in
    let all : list_all is_ascii_digit (48 ∷ word) ≡ true = digits.1 in
    let low : nat_lt (number_value (48 ∷ word)) (2 ^ 64) ≡ true = parts.1 in
    (and_from _ _ (and_from _ _ (and_from _ _ some lens) all) low, number.1)

-- Laws of the words of a line.

-- the parts of a line between its spaces, the empty ones too
abbrev parts_of : List ℕ → List (List ℕ)
parts_of line = slice_split (λ byte. byte == 32) line

-- ---- a space

-- If a byte is added to the front, and parts are appended, the order of these two doesn't matter.
onto_front : (t : Bool) (b : ℕ) (whole parts rest : List (List ℕ))
    → ((first : List ℕ) × (more : List (List ℕ)) × (parts ≡ first ∷ more))
    → whole ≡ parts ++ rest
    → cond t ([] ∷ whole) (onto_first b whole) ≡ cond t ([] ∷ parts) (onto_first b parts) ++ rest
onto_front true b whole parts rest some e = ap (λ xs. [] ∷ xs) e
onto_front false b whole parts rest some e = ap (onto_first b) e ∙ rw some.2 refl

-- If there is a first part, there is one after a byte is added to the front.
first_step : (t : Bool) (b : ℕ) (parts : List (List ℕ))
    → ((first : List ℕ) × (more : List (List ℕ)) × (parts ≡ first ∷ more))
    → (first : List ℕ) × (more : List (List ℕ))
    × (cond t ([] ∷ parts) (onto_first b parts) ≡ first ∷ more)
first_step true b parts some = ([], parts, refl)
first_step false b parts some = (b ∷ some.0, some.1, ap (onto_first b) some.2)

some_part : (line : List ℕ)
    → (first : List ℕ) × (more : List (List ℕ)) × (parts_of line ≡ first ∷ more)
some_part [] = ([], [], refl)
some_part (b ∷ line) = first_step (b == 32) b (parts_of line) (some_part line)

-- The parts of a line with a space are those before the space, and then those after it.
parts-space : (before after : List ℕ)
    → parts_of (before ++ 32 ∷ after) ≡ parts_of before ++ parts_of after
parts-space [] after = refl
parts-space (b ∷ before) after =
    onto_front (b == 32) b (parts_of (before ++ 32 ∷ after)) (parts_of before) (parts_of after)
    (some_part before) (parts-space before after)

-- The words of a line with a space are those before the space, and then those after it.
pub words_of_space : (before after : List ℕ)
    → words_of (before ++ 32 ∷ after) ≡ words_of before ++ words_of after
words_of_space before after =
    ap (filter is_filled) (parts-space before after)
    ∙ filter-append is_filled (parts_of before) (parts_of after)

-- ---- one word

-- If a line has one part, and another byte than a space is added in front, the line has one part.
part_step : (t : Bool) (b : ℕ) (word : List ℕ) (parts : List (List ℕ)) → not t ≡ true
    → parts ≡ word ∷ []
    → cond t ([] ∷ parts) (onto_first b parts) ≡ (b ∷ word) ∷ []
part_step true b word parts apart e = absurd (cc)
part_step false b word parts apart e = ap (onto_first b) e

-- If a line has no space, it is one part.
parts-word : (word : List ℕ) → list_all (λ byte. not (byte == 32)) word ≡ true
    → parts_of word ≡ word ∷ []
parts-word [] lack = refl
parts-word (b ∷ word) lack =
    let parts = and_parts (not (b == 32)) (list_all (λ byte. not (byte == 32)) word) lack in
    part_step (b == 32) b word (parts_of word) parts.0 (parts-word word parts.1)

-- If a line is one word, it has this word only.
pub words_of_word : (word : List ℕ) → is_word word ≡ true → words_of word ≡ word ∷ []
words_of_word word is =
    let parts = and_parts (is_filled word) (list_all (λ byte. not (byte == 32)) word) is in
    ap (filter is_filled) (parts-word word parts.1) ∙ cond-true _ (word ∷ []) [] parts.0

-- ---- words with a space between each two

-- If words are joined by spaces, they are the words of the line.
pub words_of_joined : (words : List (List ℕ)) → AllByRecursion (λ word. is_word word ≡ true) words
    → words_of (join_with_byte 32 words) ≡ words
words_of_joined [] all = refl
words_of_joined (word ∷ []) all = words_of_word word all.0
words_of_joined (word ∷ next ∷ words) all =
    words_of_space word (join_with_byte 32 (next ∷ words))
    ∙ ap (λ (xs : List (List ℕ)). xs ++ words_of (join_with_byte 32 (next ∷ words)))
    (words_of_word word all.0)
    ∙ ap (λ (xs : List (List ℕ)). word ∷ xs) (words_of_joined (next ∷ words) all.1)

-- ---- numbers

-- A digit isn't a space.
digit_apart : (b : ℕ) → is_ascii_digit b ≡ true → not (b == 32) ≡ true
digit_apart b digit = grind (arith, nat_tests)

digits_apart : (word : List ℕ) → list_all is_ascii_digit word ≡ true
    → list_all (λ byte. not (byte == 32)) word ≡ true
digits_apart [] all = refl
digits_apart (b ∷ word) all =
    let parts = and_parts (is_ascii_digit b) (list_all is_ascii_digit word) all in
    and_from _ _ (digit_apart b parts.0) (digits_apart word parts.1)

-- If a word has a length of at least 1, it passes `is_filled`.
filled_some : (word : List ℕ) → nat_lt 0 (length word) ≡ true → is_filled word ≡ true
filled_some word some =
    let low : 0 < length word = ltb-true _ _ some in
    let apart : (length word == 0) ≡ false = ne_eqb _ _ (λ e. omega arith) in ap not apart

-- a number is one word
pub number_word : (word : List ℕ) (n : ℕ) → IsNumber word n → is_word word ≡ true
number_word word n is =
    let parts = and_parts _ _ is.0 in
    let digits = and_parts _ _ parts.0 in
    let sizes = and_parts _ _ digits.0 in
    and_from _ _ (filled_some word sizes.0) (digits_apart word digits.1)
