-- The words of a script's lines: each kind of line has a first word and a list of fields. The
-- grammar and the canonical text of a line follow from these fields.
use Rattle.std.specs.Prelude.{◌≡◌, ℕ, Bool, true, false, List, [], ◌∷◌, ◌++◌, Option, Some}
use Rattle.std.specs.Prelude.{None, Result, Ok, Err, codes, decimal, map, if◌then◌else◌}
use Rattle.bio.specs.declared.request.SectorSize.{SectorSize}
use Rattle.bio.specs.declared.request.SectorSize.TheVariants as sizes
use Rattle.dmlw_script.specs.declared.command.Submission.{Submission}
use Rattle.dmlw_script.specs.declared.command.Submission.TheVariants as submits
use Rattle.dmlw_script.specs.declared.command.Step.{Step}
use Rattle.dmlw_script.specs.declared.command.Step.TheVariants as steps
use Rattle.dmlw_script.specs.declared.command.WriteOptions.{WriteOptions}
use Rattle.dmlw_script.specs.declared.command.DiskName.{DiskName}
use Rattle.dmlw_script.specs.declared.command.DiskName.TheVariants as disks
use Rattle.dmlw_script.specs.declared.line.BodyLine.{BodyLine}
use Rattle.dmlw_script.specs.declared.line.BodyLine.TheVariants as body_lines
use Rattle.dmlw_script.specs.declared.line.HeadLine.{HeadLine}
use Rattle.dmlw_script.specs.declared.line.HeadLine.TheVariants as head_lines
use Rattle.dmlw_script.specs.declared.run_line.RunLine.{RunLine}
use Rattle.dmlw_script.specs.declared.run_line.RunLine.TheVariants as run_lines
use Rattle.dmlw_script.specs.declared.script_id.ScriptId.{ScriptId}
use Rattle.dmlw_script.specs.declared.run_line.RunCall.{RunCall}
use Rattle.dmlw_script.specs.declared.run_line.RunCall.TheVariants as calls
use Rattle.dmlw_script.specs.Words.{byte_of, byte_text, id_of_word, is_line_text, letters_of}
use Rattle.dmlw_script.specs.LineMeaning.{LineMeaning}
use Rattle.dmlw_script.specs.LineMeaning as parsed_lines
use Rattle.refusals.specs.Words.{after_byte, before_byte, number_of, words_of}
use Rattle.layer_table.specs.TableLines.{line_answer}
use Rattle.layer_table.specs.TableLines as table_texts
use Rattle.layer_table.specs.declared.layer_spec.LayerSpec.{LayerSpec}
use Rattle.layer_table.specs.declared.table_error.TableError.{TableError}

-- a word of a line: fixed bytes, a number, an id, a byte in hexadecimal, or a seat (`s` and a
-- number)
pub data Word : Type 0 where
  Given : List ℕ → Word
  Number : ℕ → Word
  Name : ScriptId → Word
  Byte : ℕ → Word
  Seat : ℕ → Word

-- A field of a line. `One` is a word. `Choice` is an option: its word is in the line if the `Bool`
-- is true. `Text` is a text, which may be empty. `Table` is a table line, with the result of
-- testing it. Only the last field can be a `Text` or a `Table`.
pub data Field : Type 0 where
  One : Word → Field
  Choice : Bool → List ℕ → Field
  Text : List ℕ → Field
  Table : Result LayerSpec TableError → Field

-- the first word of a line, and its other fields
pub record Fields : Type 0 where
  pub first : Word
  pub others : List Field

-- ---- the fields of each kind of line

-- the fields of a line whose first word is `word`
abbrev pub line_with : List ℕ → List Field → Fields
line_with word fields = record { first = Given word; others = fields }

-- the field of the number `n`
abbrev pub number : ℕ → Field
number n = One (Number n)

-- the fields for the size of the log's sectors: the word `4096` for 4,096 bytes, nothing for 512
abbrev pub size_fields : SectorSize → List Field
size_fields sizes.B512 = []
size_fields sizes.B4096 = One (Given (codes "4096")) ∷ []

-- the first word of the line of a layer over a disk
abbrev pub layer_word : DiskName → List ℕ
layer_word disks.Data = codes "data-layer"
layer_word disks.Log = codes "log-layer"

-- The fields of a line of the head. The line of the data disk has its sectors. The line of the log
-- disk has its sectors and the size of the log's sectors. The line of a layer has a table line.
abbrev pub head_fields : HeadLine → Fields
head_fields (head_lines.Data sectors) = line_with (codes "data") (number sectors ∷ [])
head_fields (head_lines.Log sectors size) =
    line_with (codes "log") (number sectors ∷ size_fields size)
head_fields (head_lines.Layer over asked) = line_with (layer_word over) (Table asked ∷ [])

-- the fields of a write's options, in the order of the line
abbrev pub option_fields : WriteOptions → List Field
option_fields options =
    Choice options.flush (codes "flush") ∷ Choice options.fua (codes "fua")
    ∷ Choice options.meta (codes "meta") ∷ []

-- the first word of a submission's line
abbrev pub submission_word : Submission → List ℕ
submission_word (submits.Write first count byte options) = codes "w"
submission_word submits.Flush = codes "f"
submission_word (submits.Discard first count) = codes "d"

-- The fields of a submission after its first word and its id. A write and a discard have the first
-- sector and the number of sectors. A write also has a byte and options.
abbrev pub submission_fields : Submission → List Field
submission_fields (submits.Write first count byte options) =
    number first ∷ number count ∷ One (Byte byte) ∷ option_fields options
submission_fields submits.Flush = []
submission_fields (submits.Discard first count) = number first ∷ number count ∷ []

-- the word that names a disk
abbrev pub disk_word : DiskName → List ℕ
disk_word disks.Data = codes "data"
disk_word disks.Log = codes "log"

-- the fields of a line that names no request
abbrev pub step_fields : Step → Fields
step_fields steps.Close = line_with (codes "close") []
step_fields (steps.Read first count) = line_with (codes "r") (number first ∷ number count ∷ [])
step_fields steps.Turn = line_with (codes "turn") []
step_fields (steps.Mark text) = line_with (codes "mark") (Text text ∷ [])
step_fields (steps.At time) = line_with (codes "at") (number time ∷ [])
step_fields (steps.Message over layer text) =
    line_with (codes "message") (One (Given (disk_word over)) ∷ number layer ∷ Text text ∷ [])

-- the fields of a line of the body
abbrev pub body_fields : BodyLine → Fields
body_fields (body_lines.Submit name submission) =
    line_with (submission_word submission) (One (Name name) ∷ submission_fields submission)
body_fields (body_lines.Complete name) = line_with (codes "c") (One (Name name) ∷ [])
body_fields (body_lines.Step step) = step_fields step

-- the fields of a line of a recorder's script
abbrev pub fields_of : LineMeaning → Fields
fields_of (parsed_lines.Head line) = head_fields line
fields_of (parsed_lines.Body line) = body_fields line
fields_of (parsed_lines.Crash picks) = line_with (codes "crash") (map number picks)

-- The fields of a seat's call, without the seat. They are those of a recorder's line, but a request
-- has no id.
abbrev pub call_fields : RunCall → Fields
call_fields (calls.Submit submission) =
    line_with (submission_word submission) (submission_fields submission)
call_fields (calls.Mark text) = line_with (codes "mark") (Text text ∷ [])

-- all fields of a line, the first word included
abbrev pub all_of : Fields → List Field
all_of fields = One fields.first ∷ fields.others

-- the fields of a line of a run's script
abbrev pub run_fields : RunLine → Fields
run_fields (run_lines.Head line) = head_fields line
run_fields (run_lines.Seats count) = line_with (codes "seats") (number count ∷ [])
run_fields (run_lines.Body said) =
    record { first = Seat said.seat; others = all_of (call_fields said.call) }

-- ---- the grammar

-- The bytes are a text of the word. A number has 1 to 20 digits and may have leading zeroes.
abbrev pub IsWord : List ℕ → Word → Type 0
IsWord bytes (Given word) = bytes ≡ word
IsWord bytes (Number n) = number_of bytes ≡ Some n
IsWord bytes (Name name) = id_of_word bytes ≡ Some name
IsWord bytes (Byte byte) = byte_of bytes ≡ Some byte
IsWord bytes (Seat seat) =
    (digits : List ℕ) × (number_of digits ≡ Some seat) × (bytes ≡ 115 ∷ digits)

-- The rest of a line, after a space, has these fields in their order; the rest is None if the line
-- has ended. A word ends before the next space or at the end of the line. A text or a table line is
-- all the rest.
abbrev pub HasFields : List Field → Option (List ℕ) → Type 0
HasFields [] None = Unit {0}
HasFields [] (Some left) = ⊥
HasFields (Choice false word ∷ fields) left = HasFields fields left
HasFields (Choice true word ∷ fields) (Some left) =
    (before_byte 32 left ≡ word) × HasFields fields (after_byte 32 left)
HasFields (One word ∷ fields) (Some left) =
    IsWord (before_byte 32 left) word × HasFields fields (after_byte 32 left)
HasFields (Text text ∷ []) (Some left) = (is_line_text text ≡ true) × (left ≡ text)
HasFields (Table asked ∷ []) (Some left) = line_answer (words_of left) ≡ asked
HasFields (field ∷ fields) left = ⊥

-- the line whose first word is `word`, and whose rest after the space is `left`, has these fields
abbrev pub Says : List ℕ → Option (List ℕ) → Fields → Type 0
Says word left fields = IsWord word fields.first × HasFields fields.others left

-- the line has these fields
abbrev pub IsLineWith : List ℕ → Fields → Type 0
IsLineWith line fields = Says (before_byte 32 line) (after_byte 32 line) fields

-- ---- the canonical text

-- the canonical text of a word: a number has no leading zeroes
abbrev pub word_text : Word → List ℕ
word_text (Given word) = word
word_text (Number n) = decimal n
word_text (Name name) = letters_of name
word_text (Byte byte) = byte_text byte
word_text (Seat seat) = 115 ∷ decimal seat

-- `text` if the option is given, otherwise nothing
abbrev pub option_text : Bool → List ℕ → List ℕ
option_text given text = if given then text else []

-- The canonical text of a table line that asks for a layer. A table line that asks for none is
-- never printed.
abbrev pub table_text : Result LayerSpec TableError → List ℕ
table_text (Ok spec) = table_texts.layer_text spec
table_text (Err error) = []

-- the canonical text of a field, with the space before it; empty for an option that is not given
abbrev pub field_text : Field → List ℕ
field_text (One word) = 32 ∷ word_text word
field_text (Choice given word) = option_text given (32 ∷ word)
field_text (Text text) = 32 ∷ text
field_text (Table asked) = 32 ∷ table_text asked

-- the canonical text of these fields, after a first word
abbrev pub text_after : List Field → List ℕ
text_after [] = []
text_after (field ∷ []) = field_text field
text_after (field ∷ next ∷ fields) = field_text field ++ text_after (next ∷ fields)

-- the canonical line with these fields
abbrev pub fields_text : Fields → List ℕ
fields_text fields = word_text fields.first ++ text_after fields.others
