-- What the words of a table line ask for: `row` has a row for each target, and `line_answer` tests
-- the words by these rows. The ranges of a layer's values, and the canonical text of a layer. Laws:
-- a layer that words ask for is in its ranges, and a layer's canonical text asks for that layer.
use Rattle.std.specs.Prelude.{Option, Some, nat_le, nat_lt, ℕ, ◌+◌, ◌<◌, ◌≤◌, ◌^◌, ◌≡◌, Bool, true}
use Rattle.std.specs.Prelude.{false, ◌&&◌, ◌||◌, List, [], ◌∷◌, ◌++◌, Ok, Err, codes, decimal}
use Rattle.std.specs.Prelude.{is_none, is_some, length, nat_eq, ok_or, option_map, slice_get}
use Rattle.std.specs.Prelude.{unwrap_or, if◌then◌else◌, None, Result, flat_map, IfOk}
use Rattle.std.proofs.Common.{cond, refl, ap, sym, ◌∙◌, append_assoc, arith, rules}
use Rattle.std.proofs.lemmas.Bool.{and_from, and_parts, eq-eqb, eqb-true, le-leb}
use Rattle.std.proofs.lemmas.Bool.Decides.{nat_tests}
use Rattle.std.proofs.lemmas.Fmt.{digits_decimal}
use Rattle.std.proofs.lemmas.List.{append-nil}
use Rattle.std.proofs.lemmas.List.Folds.{list_all-append}
use Rattle.std.specs.Char.{is_ascii_digit}
use Rattle.std.specs.Int.{is_power_of_two}
use Rattle.std.specs.List.{join_with_byte, list_all, list_any, AllByRecursion}
use Rattle.std.specs.Str.{bytes_eq}
use Rattle.refusals.specs.declared.refusal.Refusal.{Refusal}
use Rattle.refusals.specs.declared.refusal.Refusal.TheVariants as refusals
use Rattle.refusals.specs.Words.{is_word, number_of, words_of}
use Rattle.refusals.specs.WordLaws.{decimal_number, number_again, number_low, number_model}
use Rattle.refusals.specs.WordLaws.{number_read, number_word, words_of_joined}
use Rattle.fault_layers.specs.declared.fault_rule.Feature.{Feature}
use Rattle.fault_layers.specs.declared.fault_rule.Feature.TheVariants as features
use Rattle.fault_layers.specs.declared.fault_rule.Target.{Target}
use Rattle.fault_layers.specs.declared.fault_rule.Target.TheVariants as targets
use Rattle.fault_layers.specs.Verdicts.{HasCycle, IsCycle}
use Rattle.dust_layer.specs.Orders.{IsBlockSize}
use Rattle.layer_table.specs.declared.layer_spec.LayerSpec.{LayerSpec}
use Rattle.layer_table.specs.declared.layer_spec.TargetName.{TargetName}
use Rattle.layer_table.specs.declared.layer_spec.TargetName.TheVariants as names
use Rattle.layer_table.specs.declared.table_error.TableError.{TableError}
use Rattle.layer_table.specs.declared.table_error.TableError.TheVariants as errors

-- ---- ranges

-- the delays of a delay target, in milliseconds: each is at most 4294967295
pub record AreDelays (read write flush : ℕ) : Type 0 where
  pub reads : read ≤ 4294967295
  pub writes : write ≤ 4294967295
  pub flushes : flush ≤ 4294967295

-- a layer has 1 to 1,048,576 sectors
pub record IsLength (length : ℕ) : Type 0 where
  pub some : 1 ≤ length
  pub few : length ≤ 1048576

-- the target's values are in their ranges; an error target has offset 0
abbrev pub IsTargetInRange : ℕ → Target → Type 0
IsTargetInRange offset targets.Linear = Unit {0}
IsTargetInRange offset targets.Error = offset ≡ 0
IsTargetInRange offset (targets.Flakey up down feature) = IsCycle up down
IsTargetInRange offset (targets.Fuse calls) = calls < 2 ^ 64
IsTargetInRange offset (targets.Dust bytes) = IsBlockSize bytes
IsTargetInRange offset (targets.Delay read write flush) = AreDelays read write flush

-- the layer's values are in their ranges
pub record IsLayerSpec (spec : LayerSpec) : Type 0 where
  pub sectors : IsLength spec.length
  pub place : spec.offset < 2 ^ 64
  pub has : IsTargetInRange spec.offset spec.target

-- the ranges as tests of a parsed line's values
abbrev pub is_cycle : ℕ → ℕ → Bool
is_cycle up down = nat_le 1 (up + down) && nat_le (up + down) 4294967295

abbrev pub is_block_size : ℕ → Bool
is_block_size bytes = is_power_of_two bytes && (nat_le 512 bytes && nat_le bytes 1073741824)

abbrev pub are_delays : ℕ → ℕ → ℕ → Bool
are_delays read write flush =
    nat_le read 4294967295 && (nat_le write 4294967295 && nat_le flush 4294967295)

abbrev pub is_target : Target → Bool
is_target targets.Linear = true
is_target targets.Error = true
is_target (targets.Flakey up down feature) = is_cycle up down
is_target (targets.Fuse calls) = true
is_target (targets.Dust bytes) = is_block_size bytes
is_target (targets.Delay read write flush) = are_delays read write flush

abbrev pub is_length : ℕ → Bool
is_length length = nat_le 1 length && nat_le length 1048576

abbrev pub is_in_range : LayerSpec → Bool
is_in_range spec = is_length spec.length && is_target spec.target

-- If a target's values are in their ranges, a fault rule can have the target.
pub has_cycle : (offset : ℕ) (target : Target) → IsTargetInRange offset target → HasCycle target
has_cycle offset targets.Linear has = tt
has_cycle offset targets.Error has = tt
has_cycle offset (targets.Flakey up down feature) has = has
has_cycle offset (targets.Fuse calls) has = tt
has_cycle offset (targets.Dust bytes) has = tt
has_cycle offset (targets.Delay read write flush) has = tt

-- ---- the words of a line by their places, which are counted from 0

-- the word at a place, or an empty word
abbrev pub word_in : List (List ℕ) → ℕ → List ℕ
word_in words place = unwrap_or (slice_get words place) []

-- the word at a place is a number
abbrev pub has_number : List (List ℕ) → ℕ → Bool
has_number words place = is_some (number_of (word_in words place))

-- the number at a place, or 0 if the word there isn't a number
abbrev pub number_in : List (List ℕ) → ℕ → ℕ
number_in words place = unwrap_or (number_of (word_in words place)) 0

-- ---- the words after a flakey line's seconds

-- the feature with the name `name`, or None
abbrev pub feature_named : List ℕ → Option Feature
feature_named name =
    if bytes_eq name (codes "error_reads") then Some features.ErrorReads
    else if bytes_eq name (codes "error_writes") then Some features.ErrorWrites
    else if bytes_eq name (codes "drop_writes") then Some features.DropWrites
    else None

-- the feature with this count and this name: no count, the count 0, or the count 1 and a name
abbrev pub feature_of : Option (List ℕ) → Option (List ℕ) → Option Feature
feature_of None name = Some features.None
feature_of (Some count) None = if bytes_eq count (codes "0") then Some features.None else None
feature_of (Some count) (Some name) =
    if bytes_eq count (codes "1") then feature_named name else None

abbrev pub feature_in : List (List ℕ) → Option Feature
feature_in words = feature_of (slice_get words 7) (slice_get words 8)

-- ---- the groups of a delay line: a device, an offset on it, and a delay

-- the delay of the group from word `place` on, or `before` if there is no word at `place`
abbrev pub later_delay : List (List ℕ) → ℕ → ℕ → ℕ
later_delay words place before =
    if is_none (slice_get words place) then before else number_in words (place + 2)

-- The first group's delay is for reads, the second's for writes, and the third's for flushes. A
-- missing group has the delay of the group before it.
abbrev pub delay_in : List (List ℕ) → Target
delay_in words =
    let read = number_in words 5 in
    let write = later_delay words 6 read in
    targets.Delay read write (later_delay words 9 write)

-- the group from word `place` on has the first group's device and offset, or is missing
abbrev pub is_same_place : List (List ℕ) → ℕ → Bool
is_same_place words place =
    is_none (slice_get words place)
    || (bytes_eq (word_in words 3) (word_in words place)
    && nat_eq (number_in words 4) (number_in words (place + 1)))

-- ---- the rows

-- A line of a target: its third word and the numbers of words that it may have. `places count` are
-- the places of its numbers if it has `count` words. `target` is the target that the words ask for,
-- or None if a flakey line's feature doesn't exist. Words 0 and 1 are the start and the length.
pub record Row : Type 0 where
  pub word : List ℕ
  pub counts : List ℕ
  pub places : ℕ → List ℕ
  pub target : List (List ℕ) → Option Target

abbrev pub row : TargetName → Row
-- `0 <length> linear <dev> <offset>`
row names.Linear = record {
  word = codes "linear";
  counts = 5 ∷ [];
  places = λ count. 0 ∷ 1 ∷ 4 ∷ [];
  target = λ words. Some targets.Linear;
}
-- `0 <length> error`
row names.Error = record {
  word = codes "error";
  counts = 3 ∷ [];
  places = λ count. 0 ∷ 1 ∷ [];
  target = λ words. Some targets.Error;
}
-- `0 <length> flakey <dev> <offset> <up> <down>`, and then `0`, or `1 <feature>`
row names.Flakey = record {
  word = codes "flakey";
  counts = 7 ∷ 8 ∷ 9 ∷ [];
  places = λ count. 0 ∷ 1 ∷ 4 ∷ 5 ∷ 6 ∷ [];
  target = λ words.
      option_map (targets.Flakey (number_in words 5) (number_in words 6)) (feature_in words);
}
-- `0 <length> fuse <dev> <offset> <calls>`
row names.Fuse = record {
  word = codes "fuse";
  counts = 6 ∷ [];
  places = λ count. 0 ∷ 1 ∷ 4 ∷ 5 ∷ [];
  target = λ words. Some (targets.Fuse (number_in words 5));
}
-- `0 <length> dust <dev> <offset> <blksz>`
row names.Dust = record {
  word = codes "dust";
  counts = 6 ∷ [];
  places = λ count. 0 ∷ 1 ∷ 4 ∷ 5 ∷ [];
  target = λ words. Some (targets.Dust (number_in words 5));
}
-- `0 <length> delay <dev> <offset> <ms>`, and then `<dev> <offset> <ms>` once or twice
row names.Delay = record {
  word = codes "delay";
  counts = 6 ∷ 9 ∷ 12 ∷ [];
  places = λ count.
      if nat_eq count 6 then 0 ∷ 1 ∷ 4 ∷ 5 ∷ []
      else if nat_eq count 9 then 0 ∷ 1 ∷ 4 ∷ 5 ∷ 7 ∷ 8 ∷ []
      else 0 ∷ 1 ∷ 4 ∷ 5 ∷ 7 ∷ 8 ∷ 10 ∷ 11 ∷ [];
  target = λ words. Some (delay_in words);
}

-- the sector of the device below; an error line names no sector
abbrev pub offset_in : TargetName → List (List ℕ) → ℕ
offset_in names.Error words = 0
offset_in name words = number_in words 4

-- All groups of a delay line have the same device and offset. Other lines pass.
abbrev pub has_one_place : TargetName → List (List ℕ) → Bool
has_one_place names.Delay words = is_same_place words 6 && is_same_place words 9
has_one_place name words = true

-- the target that a word names
abbrev pub named_target : List ℕ → Option TargetName
named_target word =
    if bytes_eq word (row names.Linear).word then Some names.Linear
    else if bytes_eq word (row names.Error).word then Some names.Error
    else if bytes_eq word (row names.Flakey).word then Some names.Flakey
    else if bytes_eq word (row names.Fuse).word then Some names.Fuse
    else if bytes_eq word (row names.Dust).word then Some names.Dust
    else if bytes_eq word (row names.Delay).word then Some names.Delay
    else None

-- ---- the tests

-- continues with the value of the first answer; an error is returned as it is
infixl 10 ◌>>=◌
abbrev pub ◌>>=◌ : {A B : Type 0} → Result A TableError → (A → Result B TableError)
    → Result B TableError
(Ok x) >>= f = f x
(Err error) >>= f = Err error

-- an error, unless the test holds
abbrev pub if_holds : Bool → TableError → Result (Unit {0}) TableError
if_holds true error = Ok tt
if_holds false error = Err error

-- the line has as many words as a line with this name may have
abbrev pub has_count : TargetName → List (List ℕ) → Bool
has_count name words = list_any (nat_eq (length words)) (row name).counts

-- the line's words at the places of numbers are numbers
abbrev pub has_numbers : TargetName → List (List ℕ) → Bool
has_numbers name words = list_all (has_number words) ((row name).places (length words))

-- the layer with this target that the line asks for
abbrev pub layer_of : TargetName → List (List ℕ) → Target → LayerSpec
layer_of name words target =
    record { length = number_in words 1; offset = offset_in name words; target = target }

-- The start is 0, the layer's values are in their ranges, and a delay line has only one device and
-- offset.
abbrev pub has_ranges : TargetName → List (List ℕ) → LayerSpec → Bool
has_ranges name words spec =
    nat_eq (number_in words 0) 0 && (is_in_range spec && has_one_place name words)

-- the layer that a line's words ask for, or the error of the first test that they fail
abbrev pub line_answer : List (List ℕ) → Result LayerSpec TableError
line_answer words = do
  _ ← if_holds (nat_le 3 (length words)) errors.WrongCount
  name ← ok_or (named_target (word_in words 2)) errors.UnknownTarget
  _ ← if_holds (has_count name words) errors.WrongCount
  _ ← if_holds (has_numbers name words) errors.BadNumber
  target ← ok_or ((row name).target words) errors.BadFeature
  _ ← if_holds (has_ranges name words (layer_of name words target)) errors.OutOfRange
  Ok (layer_of name words target)

-- the refusal that is shown for a line's error
abbrev pub table_refusal : TableError → Refusal
table_refusal errors.UnknownTarget = refusals.UnknownTarget
table_refusal errors.WrongCount = refusals.WrongCount
table_refusal errors.BadNumber = refusals.BadNumber
table_refusal errors.OutOfRange = refusals.OutOfRange
table_refusal errors.BadFeature = refusals.BadFeature

-- ---- the canonical text of a layer

-- the words of a feature: the count 1 and a name, or nothing if there is no feature
abbrev pub feature_words : Feature → List (List ℕ)
feature_words features.None = []
feature_words features.ErrorReads = codes "1" ∷ codes "error_reads" ∷ []
feature_words features.ErrorWrites = codes "1" ∷ codes "error_writes" ∷ []
feature_words features.DropWrites = codes "1" ∷ codes "drop_writes" ∷ []

-- a group of a delay target: the device's name, the offset on it, and the delay
abbrev pub set_words : ℕ → ℕ → List (List ℕ)
set_words offset delay = codes "disk" ∷ decimal offset ∷ decimal delay ∷ []

-- The groups after the first: none if all delays are equal, one if only the write and flush delays
-- are equal, and otherwise two.
abbrev pub later_sets : ℕ → ℕ → ℕ → ℕ → List (List ℕ)
later_sets offset read write flush =
    if nat_eq read write && nat_eq write flush then []
    else set_words offset write ++ (if nat_eq write flush then [] else set_words offset flush)

-- the words of a target: its name, the device's name, the offset on it, and the target's values
abbrev pub target_words : ℕ → Target → List (List ℕ)
target_words offset targets.Linear = codes "linear" ∷ codes "disk" ∷ decimal offset ∷ []
target_words offset targets.Error = codes "error" ∷ []
target_words offset (targets.Flakey up down feature) =
    codes "flakey" ∷ codes "disk" ∷ decimal offset ∷ decimal up ∷ decimal down ∷ feature_words
    feature
target_words offset (targets.Fuse calls) =
    codes "fuse" ∷ codes "disk" ∷ decimal offset ∷ decimal calls ∷ []
target_words offset (targets.Dust bytes) =
    codes "dust" ∷ codes "disk" ∷ decimal offset ∷ decimal bytes ∷ []
target_words offset (targets.Delay read write flush) =
    codes "delay" ∷ (set_words offset read ++ later_sets offset read write flush)

-- the words of a layer, with no leading zeroes
abbrev pub line_words : LayerSpec → List (List ℕ)
line_words spec = codes "0" ∷ decimal spec.length ∷ target_words spec.offset spec.target

-- the canonical text of a layer: its words, with a space between each two
abbrev pub layer_text : LayerSpec → List ℕ
layer_text spec = join_with_byte 32 (line_words spec)

-- the words, each after a space
abbrev pub behind_spaces : List (List ℕ) → List ℕ
behind_spaces words = flat_map (λ word. 32 ∷ word) words

-- ---- laws: what is asked for is in its ranges

-- a value is below 2 ^ 64
value_low : (words : List (List ℕ)) (place : ℕ) → number_in words place < 2 ^ 64
value_low words place = at (number_of (word_in words place)) refl
  where
    at : (number : Option ℕ) → number_of (word_in words place) ≡ number
        → number_in words place < 2 ^ 64
    at None is = rw is (omega arith)
    at (Some n) is = grind (arith, number_low, number_read)

-- If values pass the range tests, they are in their ranges.
length_read : (length : ℕ) → is_length length ≡ true → IsLength length
length_read length is = search rules

delays_read : (read write flush : ℕ) → are_delays read write flush ≡ true
    → AreDelays read write flush
delays_read read write flush is = search rules

-- the last test
abbrev ranged : TargetName → List (List ℕ) → Target → Result LayerSpec TableError
ranged name words target =
    if_holds (has_ranges name words (layer_of name words target)) errors.OutOfRange
    >>= λ _. Ok (layer_of name words target)

last_test : (name : TargetName) (words : List (List ℕ)) (target : Target)
    → offset_in name words < 2 ^ 64
    → (is_target target ≡ true → IsTargetInRange (offset_in name words) target)
    → IfOk (ranged name words target) IsLayerSpec
last_test name words target low has =
    at (has_ranges name words (layer_of name words target)) refl
  where
    at : (t : Bool) → has_ranges name words (layer_of name words target) ≡ t
        → IfOk (if_holds t errors.OutOfRange >>= λ _. Ok (layer_of name words target)) IsLayerSpec
    at true is =
        grind (arith, and_parts, length_read)
    at false is = tt

-- If `next` gives only layers in their ranges, so does `first >>= next`.
bound : {A : Type 0} (first : Result A TableError) (next : A → Result LayerSpec TableError)
    → ((x : A) → IfOk (next x) IsLayerSpec) → IfOk (first >>= next) IsLayerSpec
bound (Ok x) next is = is x
bound (Err error) next is = tt

-- the target of a line with this name
flakey_in_range : (words : List (List ℕ)) (up down : ℕ) (feature : Option Feature)
    → IfOk (ok_or (option_map (targets.Flakey up down) feature) errors.BadFeature
    >>= ranged names.Flakey words) IsLayerSpec
flakey_in_range words up down None = tt
flakey_in_range words up down (Some feature) =
    last_test names.Flakey words (targets.Flakey up down feature) (value_low words 4)
    (λ is. search rules)

target_in_range : (name : TargetName) (words : List (List ℕ))
    → IfOk (ok_or ((row name).target words) errors.BadFeature >>= ranged name words) IsLayerSpec
target_in_range names.Linear words =
    last_test names.Linear words targets.Linear (value_low words 4) (λ is. tt)
target_in_range names.Error words =
    last_test names.Error words targets.Error (omega arith) (λ is. refl)
target_in_range names.Flakey words =
    flakey_in_range words (number_in words 5) (number_in words 6) (feature_in words)
target_in_range names.Fuse words =
    last_test names.Fuse words (targets.Fuse (number_in words 5)) (value_low words 4)
    (λ is. value_low words 5)
target_in_range names.Dust words =
    last_test names.Dust words (targets.Dust (number_in words 5)) (value_low words 4)
    (λ is. search rules)
target_in_range names.Delay words =
    last_test names.Delay words (delay_in words) (value_low words 4) (delays_read _ _ _)

pub answer_in_range : (words : List (List ℕ)) → IfOk (line_answer words) IsLayerSpec
answer_in_range words =
    bound (if_holds (nat_le 3 (length words)) errors.WrongCount) _ (λ _.
    bound (ok_or (named_target (word_in words 2)) errors.UnknownTarget) _ (λ name.
    bound (if_holds (has_count name words) errors.WrongCount) _ (λ _.
    bound (if_holds (has_numbers name words) errors.BadNumber) _ (λ _.
    target_in_range name words))))

pub asked_in_range : (words : List (List ℕ)) (spec : LayerSpec) → line_answer words ≡ Ok spec
    → IsLayerSpec spec
asked_in_range words spec is =
    rw is at (answer_in_range words)

-- ---- laws: what is printed

-- the joined words are the first word, and the others after a space each
pub joined_behind : (word : List ℕ) (words : List (List ℕ))
    → join_with_byte 32 (word ∷ words) ≡ word ++ behind_spaces words
joined_behind word [] = sym (append-nil word)
joined_behind word (next ∷ words) = grind (arith, joined_behind next words)

-- so a line can be printed piece by piece
pub line_joined : (old sectors : List ℕ) (words : List (List ℕ)) →
    ((old ++ 48 ∷ []) ++ behind_spaces (sectors ∷ [])) ++ behind_spaces words
    ≡ old ++ 48 ∷ 32 ∷ join_with_byte 32 (sectors ∷ words)
line_joined old sectors words = grind (arith, append_assoc, joined_behind)

-- the byte is a printable one of ASCII
abbrev pub is_printable : ℕ → Bool
is_printable byte = nat_lt 31 byte && nat_lt byte 127

-- each of these is a word of printable bytes
abbrev ArePlain : List (List ℕ) → Type 0
ArePlain words =
    AllByRecursion (λ word. (is_word word && list_all is_printable word) ≡ true) words

digit_printable : (byte : ℕ) → is_ascii_digit byte ≡ true → is_printable byte ≡ true
digit_printable byte digit = grind (arith, nat_tests)

digits_printable : (word : List ℕ) → list_all is_ascii_digit word ≡ true
    → list_all is_printable word ≡ true
digits_printable [] all = refl
digits_printable (byte ∷ word) all =
    let parts = and_parts (is_ascii_digit byte) (list_all is_ascii_digit word) all in
    and_from _ _ (digit_printable byte parts.0) (digits_printable word parts.1)

-- the decimal digits of a number are such a word
decimal_plain : (n : ℕ) → n < 2 ^ 64
    → (is_word (decimal n) && list_all is_printable (decimal n)) ≡ true
decimal_plain n low =
    and_from _ _ (number_word (decimal n) n (decimal_number n low))
    (digits_printable (decimal n) (digits_decimal number_model n low))

plain_words : (words : List (List ℕ)) → ArePlain words
    → AllByRecursion (λ word. is_word word ≡ true) words
plain_words [] plain = tt
plain_words (word ∷ words) plain = ((and_parts _ _ plain.0).0, plain_words words plain.1)

joined_printable : (words : List (List ℕ)) → ArePlain words
    → list_all is_printable (join_with_byte 32 words) ≡ true
joined_printable [] plain = refl
joined_printable (word ∷ []) plain = (and_parts (is_word word) _ plain.0).1
joined_printable (word ∷ next ∷ words) plain =
    list_all-append is_printable word (32 ∷ join_with_byte 32 (next ∷ words))
    ∙ and_from _ _ (and_parts (is_word word) _ plain.0).1
    (joined_printable (next ∷ words) plain.1)

-- the decimal digits of `n` are read as `n`
abbrev ReadsNumber : ℕ → Type 0
ReadsNumber n = number_of (decimal n) ≡ Some n

digits_read : (n : ℕ) → n < 2 ^ 64 → ReadsNumber n
digits_read n low = number_again (decimal n) n (decimal_number n low)

feature_plain : (feature : Feature) → ArePlain (feature_words feature)
feature_plain features.None = tt
feature_plain features.ErrorReads = (refl, (refl, tt))
feature_plain features.ErrorWrites = (refl, (refl, tt))
feature_plain features.DropWrites = (refl, (refl, tt))

-- the words of a delay target after its name
sets_plain : (offset read write flush : ℕ) (t u : Bool) → offset < 2 ^ 64
    → AreDelays read write flush
    → ArePlain (set_words offset read
    ++ cond (t && u) [] (set_words offset write ++ cond u [] (set_words offset flush)))
sets_plain offset read write flush true true low are = search (rules, decimal_plain)
sets_plain offset read write flush false true low are = search (rules, decimal_plain)
sets_plain offset read write flush true false low are = search (rules, decimal_plain)
sets_plain offset read write flush false false low are = search (rules, decimal_plain) depth 12

-- the words of a target
target_plain : (offset : ℕ) (target : Target) → offset < 2 ^ 64 → IsTargetInRange offset target
    → ArePlain (target_words offset target)
target_plain offset targets.Linear low has = search (rules, decimal_plain)
target_plain offset targets.Error low has = search (rules, decimal_plain)
target_plain offset (targets.Flakey up down feature) low has =
    search (rules, decimal_plain, feature_plain)
target_plain offset (targets.Fuse calls) low has = search (rules, decimal_plain)
target_plain offset (targets.Dust bytes) low has = search (rules, decimal_plain)
target_plain offset (targets.Delay read write flush) low has =
    (refl, sets_plain offset read write flush (nat_eq read write) (nat_eq write flush) low has)

-- If values are in their ranges, they pass the range tests.
length_passes : (length : ℕ) → IsLength length → is_length length ≡ true
length_passes length is = search rules

target_passes : (offset : ℕ) (target : Target) → IsTargetInRange offset target
    → is_target target ≡ true
target_passes offset targets.Linear is = refl
target_passes offset targets.Error is = refl
target_passes offset (targets.Flakey up down feature) is = search rules
target_passes offset (targets.Fuse calls) is = refl
target_passes offset (targets.Dust bytes) is = search rules
target_passes offset (targets.Delay read write flush) is = search rules

-- the words ask for the layer
abbrev AsksForLayer : ℕ → ℕ → Target → List (List ℕ) → Type 0
AsksForLayer sectors offset target words =
    line_answer (codes "0" ∷ decimal sectors ∷ words)
    ≡ Ok (record { length = sectors; offset = offset; target = target })

flakey_asked : (sectors offset up down : ℕ) (feature : Feature) → ReadsNumber sectors → ReadsNumber offset
    → ReadsNumber up → ReadsNumber down → is_length sectors ≡ true
    → is_target (targets.Flakey up down feature) ≡ true
    → AsksForLayer sectors offset (targets.Flakey up down feature)
    (target_words offset (targets.Flakey up down feature))
flakey_asked sectors offset up down features.None a b c d e f = rw (a, b, c, d, e, f) refl
flakey_asked sectors offset up down features.ErrorReads a b c d e f = rw (a, b, c, d, e, f) refl
flakey_asked sectors offset up down features.ErrorWrites a b c d e f = rw (a, b, c, d, e, f) refl
flakey_asked sectors offset up down features.DropWrites a b c d e f = rw (a, b, c, d, e, f) refl

-- The words of a delay target ask for it. If `t` is true, the read and write delays are equal. If
-- `u` is true, the write and flush delays are equal.
delay_asked : (sectors offset read write flush : ℕ) (t u : Bool) → ReadsNumber sectors → ReadsNumber offset
    → ReadsNumber read → ReadsNumber write → ReadsNumber flush → is_length sectors ≡ true
    → AreDelays read write flush → (t ≡ true → read ≡ write) → (u ≡ true → write ≡ flush)
    → AsksForLayer sectors offset (targets.Delay read write flush) (codes "delay" ∷ set_words offset read
    ++ cond (t && u) [] (set_words offset write ++ cond u [] (set_words offset flush)))
delay_asked sectors offset read write flush true true a b c d e f has one two =
    grind (arith, le-leb)
delay_asked sectors offset read write flush false true a b c d e f has one two =
    grind (arith, le-leb, eq-eqb)
delay_asked sectors offset read write flush true false a b c d e f has one two =
    grind (arith, target_passes, eq-eqb)
delay_asked sectors offset read write flush false false a b c d e f has one two =
    grind (arith, target_passes, eq-eqb)

target_asked : (sectors offset : ℕ) (target : Target) → ReadsNumber sectors → ReadsNumber offset
    → is_length sectors ≡ true → is_target target ≡ true → IsTargetInRange offset target
    → AsksForLayer sectors offset target (target_words offset target)
target_asked sectors offset targets.Linear a b e f has = rw (a, b, e) refl
target_asked sectors offset targets.Error a b e f has = rw (a, e) (let zero = has in cc)
target_asked sectors offset (targets.Flakey up down feature) a b e f has =
    grind (arith, flakey_asked, digits_read)
target_asked sectors offset (targets.Fuse calls) a b e f has = grind (arith, digits_read)
target_asked sectors offset (targets.Dust bytes) a b e f has = grind (arith, digits_read)
target_asked sectors offset (targets.Delay read write flush) a b e f has =
    grind (arith, delay_asked, digits_read, eqb-true)

-- If a layer's values are in their ranges, its words are plain.
line_plain : (spec : LayerSpec) → IsLayerSpec spec → ArePlain (line_words spec)
line_plain spec is =
    let sectors = is.sectors in
    let low : spec.length < 2 ^ 64 = (let few = sectors.few in omega arith) in
    (refl, (decimal_plain spec.length low, target_plain spec.offset spec.target is.place is.has))

-- Then the bytes of its canonical text are printable.
pub printed_plain : (spec : LayerSpec) → IsLayerSpec spec
    → list_all is_printable (layer_text spec) ≡ true
printed_plain spec is = joined_printable (line_words spec) (line_plain spec is)

-- If a layer's values are in their ranges, its canonical text asks for that layer.
pub printed_again : (spec : LayerSpec) → IsLayerSpec spec
    → line_answer (words_of (layer_text spec)) ≡ Ok spec
printed_again spec is =
    let sectors = is.sectors in
    let low : spec.length < 2 ^ 64 = (let few = sectors.few in omega arith) in
    ap line_answer (words_of_joined (line_words spec)
    (plain_words (line_words spec) (line_plain spec is)))
    ∙ target_asked spec.length spec.offset spec.target (digits_read spec.length low)
    (digits_read spec.offset is.place) (length_passes spec.length sectors)
    (target_passes spec.offset spec.target is.has) is.has
