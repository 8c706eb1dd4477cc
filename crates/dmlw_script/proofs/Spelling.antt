-- Proves that the canonical text of a line's fields has these fields, for words, fields and lines.
-- A script's canonical text is split into the parts that are printed one after another.
use Rattle.std.proofs.Common.{zero, suc, ◌∙◌, sym, subst, arith, append_assoc, ◌≡◌, ℕ, ◌^◌, ◌<◌}
use Rattle.std.proofs.Common.{Bool, true, false, not, List, [], ◌∷◌, ◌++◌, Some, None, refl}
use Rattle.std.specs.Prelude.{Result, ◌==◌, decimal, replicate, flat_map, map}
use Rattle.std.proofs.lemmas.Bool.{and_from, and_parts, cond-true}
use Rattle.std.proofs.lemmas.Bool.Decides.{nat_tests}
use Rattle.std.proofs.lemmas.Fmt.{digits_decimal}
use Rattle.std.proofs.lemmas.List.{append-nil}
use Rattle.std.proofs.lemmas.List.Concat.{flat_map-append}
use Rattle.std.proofs.lemmas.List.Folds.{list_all-append}
use Rattle.std.proofs.lemmas.Option.{cond_some}
use Rattle.std.specs.Char.{is_ascii_digit}
use Rattle.refusals.specs.WordLaws.{decimal_number, number_again, number_model}
use Rattle.refusals.specs.Words.{after_byte, before_byte, number_of, words_of}
use Rattle.bio.specs.declared.request.SectorSize.{SectorSize}
use Rattle.layer_table.specs.declared.layer_spec.LayerSpec.{LayerSpec}
use Rattle.layer_table.specs.declared.table_error.TableError.{TableError}
use Rattle.layer_table.specs.TableLines.{line_answer}
use Rattle.dmlw_script.proofs.WordLaws.{all_weaker, byte_again, byte_lacks_space, cut_word}
use Rattle.dmlw_script.proofs.WordLaws.{id_lacks_space, lacks, number_lacks_space}
use Rattle.dmlw_script.specs.declared.command.DiskName.TheVariants as disks
use Rattle.dmlw_script.specs.declared.script_id.ScriptId.{ScriptId}
use Rattle.dmlw_script.specs.Fields.{IsLineWith, IsWord, Name, Number, One, Seat, Table, Text, Word}
use Rattle.dmlw_script.specs.Fields.{word_text, Byte, Choice, Field, Fields, Given, HasFields}
use Rattle.dmlw_script.specs.Fields.{field_text, number, option_text, table_text, text_after}
use Rattle.dmlw_script.specs.Fields.{fields_text}
use Rattle.dmlw_script.specs.Grammar.{ended_line, ended_run_line, seats_line}
use Rattle.dmlw_script.specs.Words.{byte_text, hex_digit, id_of_word, is_id, is_line_byte}
use Rattle.dmlw_script.specs.Words.{is_line_text, is_name_byte, letters_of, script_id}
use Rattle.dmlw_script.specs.Plans.{IsName, Disk, data_line, layer_line}
use Rattle.dmlw_script.specs.Plans.{log_line}
use Rattle.dmlw_script.specs.RunPlans.{data_layer, log_layer, run_head, RunPlan}

abbrev pub IsLineText : List ℕ → Type 0
IsLineText word = is_line_text word ≡ true

-- The zeroes that fill a stored id don't change its letters.
front_zeros : (word : List ℕ) (n : ℕ) → lacks 0 word ≡ true
    → before_byte 0 (word ++ replicate n 0) ≡ word
front_zeros word zero lack = (cut_word 0 word None lack).0
front_zeros word (suc n) lack = (cut_word 0 word (Some (replicate n 0)) lack).0

name_byte_not_zero : (b : ℕ) → is_name_byte b ≡ true → not (b == 0) ≡ true
name_byte_not_zero b letter = grind (arith, nat_tests)

pub letters_id : (name : ScriptId) → IsName name → id_of_word (letters_of name) ≡ Some name
letters_id name is =
    grind (arith, front_zeros, all_weaker, name_byte_not_zero, and_parts, cond-true)

line_text_append : (a b : List ℕ) → IsLineText a → IsLineText b → IsLineText (a ++ b)
line_text_append a b first second =
    list_all-append is_line_byte a b ∙ and_from _ _ first second

line_digit : (b : ℕ) → is_ascii_digit b ≡ true → is_line_byte b ≡ true
line_digit b digit = grind (arith, nat_tests)

line_name_byte : (b : ℕ) → is_name_byte b ≡ true → is_line_byte b ≡ true
line_name_byte b letter = grind (arith, nat_tests)

line_hex : (half : ℕ) → half < 16 → is_line_byte (hex_digit half) ≡ true
line_hex half low = grind (arith, nat_tests)

line_number : (n : ℕ) → n < 2 ^ 64 → IsLineText (decimal n)
line_number n low = all_weaker _ _ line_digit (decimal n) (digits_decimal number_model n low)

read_decimal : (n : ℕ) → n < 2 ^ 64 → number_of (decimal n) ≡ Some n
read_decimal n low = number_again (decimal n) n (decimal_number n low)

line_id : (name : ScriptId) → IsName name → IsLineText (letters_of name)
line_id name is =
    let id =
    cond_some (is_id (letters_of name)) (script_id (letters_of name)) name (letters_id name is) in
    all_weaker is_name_byte is_line_byte line_name_byte (letters_of name) (and_parts _ _ id.0).1

line_byte : (byte : ℕ) → byte < 256 → IsLineText (byte_text byte)
line_byte byte low = grind (arith, and_from, line_hex)

-- The canonical text of the word is one word of a line, and is read as this word.
pub record IsWritable (word : Word) : Type 0 where
  pub good : IsLineText (word_text word)
  pub whole : lacks 32 (word_text word) ≡ true
  pub is : IsWord (word_text word) word

abbrev pub FitsWord : Word → Type 0
FitsWord (Given word) = IsLineText word × (lacks 32 word ≡ true)
FitsWord (Number n) = n < 2 ^ 64
FitsWord (Name name) = IsName name
FitsWord (Byte byte) = byte < 256
FitsWord (Seat seat) = seat < 2 ^ 64

pub writable : (word : Word) → FitsWord word → IsWritable word
writable (Given word) fits = record { good = fits.0; whole = fits.1; is = refl }
writable (Number n) low = record {
  good = line_number n low;
  whole = number_lacks_space (decimal n) n (read_decimal n low);
  is = read_decimal n low;
}
writable (Name name) is = record {
  good = line_id name is;
  whole = id_lacks_space (letters_of name) name (letters_id name is);
  is = letters_id name is;
}
writable (Byte byte) low =
    record {
      good = line_byte byte low;
      whole = byte_lacks_space byte low;
      is = byte_again byte low;
    }
writable (Seat seat) low = record {
  good = line_number seat low;
  whole = number_lacks_space (decimal seat) seat (read_decimal seat low);
  is = (decimal seat, read_decimal seat low, refl);
}

pub after_field : (field : Field) (fields : List Field)
    → text_after (field ∷ fields) ≡ field_text field ++ text_after fields
after_field field [] = sym (append-nil (field_text field))
after_field field (next ∷ fields) = refl

-- The canonical table line may be in a line, and its test gives `asked` again.
pub record IsTable (asked : Result LayerSpec TableError) : Type 0 where
  pub good : IsLineText (table_text asked)
  pub asks : line_answer (words_of (table_text asked)) ≡ asked

abbrev pub Fits : List Field → Type 0
Fits [] = Unit {0}
Fits (One word ∷ fields) = FitsWord word × Fits fields
Fits (Choice given word ∷ fields) = FitsWord (Given word) × Fits fields
Fits (Text text ∷ []) = IsLineText text
Fits (Table asked ∷ []) = IsTable asked
Fits (field ∷ fields) = ⊥

-- If `word ++ text` is cut at its first space, `word` is before it, and `fields` are after it.
record ReadsBack (word text : List ℕ) (fields : List Field) : Type 0 where
  first : before_byte 32 (word ++ text) ≡ word
  rest : HasFields fields (after_byte 32 (word ++ text))

read_after : (word text : List ℕ) (fields : List Field) → lacks 32 word ≡ true
    → HasFields fields (Some text) → ReadsBack word (32 ∷ text) fields
read_after word text fields whole has = grind (arith, cut_word 32 word (Some text) whole)

reads_after : (fields : List Field) (word : List ℕ) → lacks 32 word ≡ true → Fits fields
    → ReadsBack word (text_after fields) fields
reads_after [] word whole fits = grind (arith, cut_word 32 word None whole)
reads_after (One next ∷ fields) word whole fits =
    let w = writable next fits.0 in
    let more = reads_after fields (word_text next) w.whole fits.1 in
    subst (λ (t : List ℕ). ReadsBack word t (One next ∷ fields)) (sym (after_field (One next) fields))
    (read_after word (word_text next ++ text_after fields) (One next ∷ fields) whole
    (rw more.first w.is, more.rest))
reads_after (Choice true next ∷ fields) word whole fits =
    let more = reads_after fields next fits.0.1 fits.1 in
    subst (λ (t : List ℕ). ReadsBack word t (Choice true next ∷ fields))
    (sym (after_field (Choice true next) fields))
    (read_after word (next ++ text_after fields) (Choice true next ∷ fields) whole
    (more.first, more.rest))
reads_after (Choice false next ∷ fields) word whole fits =
    let more = reads_after fields word whole fits.1 in
    subst (λ (t : List ℕ). ReadsBack word t (Choice false next ∷ fields))
    (sym (after_field (Choice false next) fields))
    (record { first = more.first; rest = more.rest })
reads_after (Text text ∷ []) word whole fits =
    read_after word text (Text text ∷ []) whole (fits, refl)
reads_after (Table asked ∷ []) word whole fits =
    read_after word (table_text asked) (Table asked ∷ []) whole fits.asks
reads_after (field ∷ fields) word whole fits = absurd fits

line_option : (given : Bool) (text : List ℕ) → IsLineText text → IsLineText (option_text given text)
line_option true text good = good
line_option false text good = refl

line_after : (fields : List Field) → Fits fields → IsLineText (text_after fields)
line_after [] fits = refl
line_after (One word ∷ fields) fits =
    rw (after_field (One word) fields) (line_text_append (word_text word) (text_after fields)
    (let w = writable word fits.0 in w.good) (line_after fields fits.1))
line_after (Choice given word ∷ fields) fits =
    rw (after_field (Choice given word) fields) (line_text_append (option_text given (32 ∷ word))
    (text_after fields) (line_option given (32 ∷ word) fits.0.0) (line_after fields fits.1))
line_after (Text text ∷ []) fits = fits
line_after (Table asked ∷ []) fits = fits.good
line_after (field ∷ fields) fits = absurd fits

pub record FitsFields (fields : Fields) : Type 0 where
  pub first : FitsWord fields.first
  pub others : Fits fields.others

pub text_has : (fields : Fields) → FitsFields fields → IsLineWith (fields_text fields) fields
text_has fields fits =
    let w = writable fields.first fits.first in
    let r = reads_after fields.others (word_text fields.first) w.whole fits.others in
    (rw r.first w.is, r.rest)

pub text_good : (fields : Fields) → FitsFields fields → IsLineText (fields_text fields)
text_good fields fits =
    line_text_append (word_text fields.first) (text_after fields.others)
    (let w = writable fields.first fits.first in w.good) (line_after fields.others fits.others)

pub picks_spelled : (picks : List ℕ)
    → text_after (map number picks) ≡ flat_map (λ n. 32 ∷ decimal n) picks
picks_spelled [] = refl
picks_spelled (pick ∷ picks) =
    grind (arith, after_field (number pick) (map number picks), picks_spelled picks)

data_layers_spelled : (layers : List LayerSpec)
    → flat_map ended_run_line (map data_layer layers)
    ≡ flat_map ended_line (map (layer_line disks.Data) layers)
data_layers_spelled [] = refl
data_layers_spelled (layer ∷ layers) =
    rw (data_layers_spelled layers)

log_layers_spelled : (layers : List LayerSpec)
    → flat_map ended_run_line (map log_layer layers)
    ≡ flat_map ended_line (map (layer_line disks.Log) layers)
log_layers_spelled [] = refl
log_layers_spelled (layer ∷ layers) =
    rw (log_layers_spelled layers)

both_spelled : (plan : RunPlan)
    → flat_map ended_run_line
    (map data_layer plan.data_disk.layers ++ map log_layer plan.log_disk.layers)
    ≡ flat_map ended_line (map (layer_line disks.Data) plan.data_disk.layers)
    ++ flat_map ended_line (map (layer_line disks.Log) plan.log_disk.layers)
both_spelled plan = grind (arith, flat_map-append, data_layers_spelled, log_layers_spelled)

pub run_head_in_parts : (plan : RunPlan) → flat_map ended_run_line (run_head plan)
    ≡ (ended_line (data_line plan.data_disk.sectors)
    ++ ended_line (log_line plan.log_disk.sectors plan.log_size))
    ++ (ended_run_line (seats_line plan.seats)
    ++ (flat_map ended_line (map (layer_line disks.Data) plan.data_disk.layers)
    ++ flat_map ended_line (map (layer_line disks.Log) plan.log_disk.layers)))
run_head_in_parts plan = grind (arith, both_spelled, append_assoc)

-- `with_disks` and `with_seats` are the texts after the first two parts are written.
pub run_head_written : (plan : RunPlan) (data_disk log_disk : Disk)
    (data_sectors log_sectors seats : ℕ) (size : SectorSize) (start with_disks with_seats : List ℕ)
    → data_disk ≡ plan.data_disk → log_disk ≡ plan.log_disk → data_sectors ≡ data_disk.sectors
    → log_sectors ≡ log_disk.sectors → size ≡ plan.log_size → seats ≡ plan.seats
    → with_disks ≡ start ++ (ended_line (data_line data_sectors)
    ++ ended_line (log_line log_sectors size))
    → with_seats ≡ with_disks ++ ended_run_line (seats_line seats)
    → with_seats ++ (flat_map ended_line (map (layer_line disks.Data) data_disk.layers)
    ++ flat_map ended_line (map (layer_line disks.Log) log_disk.layers))
    ≡ start ++ flat_map ended_run_line (run_head plan)
run_head_written plan data_disk log_disk data_sectors log_sectors seats size start with_disks
    with_seats is_data is_log is_data_sectors is_log_sectors is_size is_count is_disks is_seats =
    grind (arith, append_assoc, run_head_in_parts)
