-- The words of a line, and words that are numbers.
use Rattle.std.specs.Prelude.{◌≡◌, ℕ, ◌+◌, ◌-◌, ◌*◌, ◌^◌, ◌==◌, Bool, true, not, ◌&&◌, List, []}
use Rattle.std.specs.Prelude.{◌∷◌, Option, Some, None, length, nat_lt, nat_le, if◌then◌else◌}
use Rattle.std.specs.Char.{is_ascii_digit}
use Rattle.std.specs.List.{filter, list_all, slice_split}

-- the bytes before the first `mark`, or all of them if there is none
abbrev pub before_byte : ℕ → List ℕ → List ℕ
before_byte mark [] = []
before_byte mark (b ∷ bytes) = if b == mark then [] else b ∷ before_byte mark bytes

-- the bytes after the first `mark`, if there is one
abbrev pub after_byte : ℕ → List ℕ → Option (List ℕ)
after_byte mark [] = None
after_byte mark (b ∷ bytes) = if b == mark then Some bytes else after_byte mark bytes

-- the word has at least one byte
abbrev pub is_filled : List ℕ → Bool
is_filled word = not (length word == 0)

-- the words of a line: the parts between its spaces that aren't empty
abbrev pub words_of : List ℕ → List (List ℕ)
words_of line = filter is_filled (slice_split (λ byte. byte == 32) line)

-- these bytes are one word: not empty, and without a space
abbrev pub is_word : List ℕ → Bool
is_word word = is_filled word && list_all (λ byte. not (byte == 32)) word

-- `n` with `digit` appended, if `digit` is a decimal digit and the result is below 2^64
abbrev pub with_digit : ℕ → ℕ → Option ℕ
with_digit n digit =
    if is_ascii_digit digit && nat_lt (10 * n + (digit - 48)) (2 ^ 64) then Some
    (10 * n + (digit - 48)) else None

-- the number `n` with these digits appended
abbrev pub number_after : ℕ → List ℕ → ℕ
number_after n [] = n
number_after n (digit ∷ digits) = number_after (10 * n + (digit - 48)) digits

-- the value of decimal digits
abbrev pub number_value : List ℕ → ℕ
number_value word = number_after 0 word

-- the word is a number: 1 to 20 decimal digits with a value below 2 ^ 64
abbrev pub is_number : List ℕ → Bool
is_number word =
    nat_lt 0 (length word) && nat_le (length word) 20 && list_all is_ascii_digit word
    && nat_lt (number_value word) (2 ^ 64)

-- the value of the word, if it is a number
abbrev pub number_of : List ℕ → Option ℕ
number_of word = if is_number word then Some (number_value word) else None

-- the word is a number with the value `n`
abbrev pub IsNumber : List ℕ → ℕ → Type 0
IsNumber word n = (is_number word ≡ true) × (number_value word ≡ n)
