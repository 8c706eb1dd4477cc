-- The lines of a text, and their words: ids and bytes.
use Rattle.std.specs.Prelude.{filter, ◌≡◌, ℕ, ◌+◌, ◌==◌, ◌-◌, Bool, true, not, Option, Some, None}
use Rattle.std.specs.Prelude.{nat_lt, slice_get, nat_le, replicate, if◌then◌else◌, nat_eq, length}
use Rattle.std.specs.Prelude.{◌*◌, ◌/◌, ◌%◌, ◌&&◌, ◌||◌, List, flat_map, ◌++◌, [], ◌∷◌}
use Rattle.std.specs.Char.{encode_utf8, is_ascii_digit}
use Rattle.std.specs.Cmp.Lexicographic.{pointwise}
use Rattle.std.specs.List.{list_all, onto_first}
use Rattle.refusals.specs.Words.{before_byte}
use Rattle.dmlw_script.specs.declared.script_id.ScriptId.{ScriptId}

-- Ids and bytes as words of a line, and the text of an id.

-- Words of two hexadecimal digits, each for a byte.

-- the lower case hexadecimal digit of a value below 16
abbrev pub hex_digit : ℕ → ℕ
hex_digit half = if nat_lt half 10 then 48 + half else 87 + half

-- the two lower case hexadecimal digits of a byte
abbrev pub byte_text : ℕ → List ℕ
byte_text byte = hex_digit (byte / 16) ∷ hex_digit (byte % 16) ∷ []

-- the value of a lower case hexadecimal digit; None for any other byte
abbrev pub half_of : ℕ → Option ℕ
half_of digit =
    if nat_le 48 digit && nat_le digit 57 then Some (digit - 48)
    else if nat_le 97 digit && nat_le digit 102 then Some (digit - 87)
    else None

-- the byte of the values of two digits, if both bytes are digits
abbrev pub byte_from : Option ℕ → Option ℕ → Option ℕ
byte_from (Some high) (Some low) = Some (16 * high + low)
byte_from (Some high) None = None
byte_from None low = None

-- the byte of a word, if the word is two lower case hexadecimal digits
abbrev pub byte_of : List ℕ → Option ℕ
byte_of (high ∷ low ∷ []) = byte_from (half_of high) (half_of low)
byte_of word = None

-- Ids as words of a line, and the fixed-size values (`ScriptId`) that store them.

-- the byte is one of `a` to `z` or `0` to `9`
abbrev pub is_name_byte : ℕ → Bool
is_name_byte byte = (nat_le 97 byte && nat_le byte 122) || is_ascii_digit byte

-- the word is an id: 1 to 16 of these characters
abbrev pub is_id : List ℕ → Bool
is_id word = nat_lt 0 (length word) && nat_le (length word) 16 && list_all is_name_byte word

-- the stored id of a word of at most 16 characters: the word, padded with zeroes to 16 bytes
abbrev pub script_id : List ℕ → ScriptId
script_id word = record { letters = word ++ replicate (16 - length word) 0 }

-- the characters of a stored id: the bytes before the first zero
abbrev pub letters_of : ScriptId → List ℕ
letters_of name = before_byte 0 name.letters

-- the stored id of a word, if the word is an id
abbrev pub id_of_word : List ℕ → Option ScriptId
id_of_word word = if is_id word then Some (script_id word) else None

-- the two stored ids are equal
abbrev pub same_name : ScriptId → ScriptId → Bool
same_name a b = pointwise nat_eq a.letters b.letters

-- The text of an id.

-- the text that an id is printed as: its characters
abbrev pub id_text : ScriptId → List ℕ
id_text name = flat_map encode_utf8 (letters_of name)

-- The lines of a text, and the numbers of those that are not skipped.

-- the lines of a text: each ends at a line feed, but the last one may end at the end of the text
abbrev pub lines_of : List ℕ → List (List ℕ)
lines_of [] = []
lines_of (byte ∷ bytes) =
    if byte == 10 then [] ∷ lines_of bytes else onto_first byte (lines_of bytes)

-- each byte of the line is ASCII, and not zero
abbrev pub is_ascii_line : List ℕ → Bool
is_ascii_line line = list_all (λ byte. nat_lt 0 byte && nat_lt byte 128) line

-- the byte may be in a line: it is ASCII, and neither zero nor a line feed
abbrev pub is_line_byte : ℕ → Bool
is_line_byte byte = nat_lt 0 byte && nat_lt byte 128 && not (byte == 10)

-- each byte of the text may be in a line
abbrev pub is_line_text : List ℕ → Bool
is_line_text text = list_all is_line_byte text

-- the line is empty, or is a comment: its first byte is `#`
abbrev pub is_skipped : List ℕ → Bool
is_skipped [] = true
is_skipped (byte ∷ line) = byte == 35

-- the lines that aren't skipped
abbrev pub unskipped : List (List ℕ) → List (List ℕ)
unskipped lines = filter (λ line. not (is_skipped line)) lines

-- the numbers of the lines that aren't skipped, if the first line has the number `number`
abbrev pub unskipped_numbers : ℕ → List (List ℕ) → List ℕ
unskipped_numbers number [] = []
unskipped_numbers number (line ∷ lines) =
    if is_skipped line then unskipped_numbers (number + 1) lines else number ∷ unskipped_numbers
    (number + 1) lines

-- The number, from 1, of the unskipped line at the index `place`, if there is one. `place` counts
-- the unskipped lines from 0, those of the head included.
abbrev pub command_line : List ℕ → ℕ → Option ℕ
command_line text place = slice_get (unskipped_numbers 1 (lines_of text)) place

-- the line has no line feed
abbrev pub IsUnbroken : List ℕ → Type 0
IsUnbroken line = list_all (λ byte. not (byte == 10)) line ≡ true

-- the text that has a line feed after each of these lines
abbrev pub with_line_feeds : List (List ℕ) → List ℕ
with_line_feeds lines = flat_map (λ line. line ++ 10 ∷ []) lines
