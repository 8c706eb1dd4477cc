-- How the reader finds the meaning of a line of a recorder's script. `Grammar` defines the meaning
-- by the words of the line; the two agree by proof.
use Rattle.std.specs.Prelude.{◌≡◌, None, codes, if◌then◌else◌, ℕ, ◌==◌, Bool, true, false, List, []}
use Rattle.std.specs.Prelude.{◌∷◌, Option, Some}
use Rattle.std.specs.List.{slice_split}
use Rattle.std.specs.Option.{option_map, option_or}
use Rattle.std.specs.Str.{bytes_eq}
use Rattle.refusals.specs.declared.refusal.Refusal.TheVariants.{BadLine}
use Rattle.refusals.specs.Words.{before_byte, after_byte, number_of, words_of}
use Rattle.bio.specs.declared.request.SectorSize.{SectorSize}
use Rattle.bio.specs.declared.request.SectorSize.TheVariants as sizes
use Rattle.layer_table.specs.TableLines.{line_answer}
use Rattle.dmlw_script.specs.declared.command.DiskName.{DiskName}
use Rattle.dmlw_script.specs.declared.command.DiskName.TheVariants as disks
use Rattle.dmlw_script.specs.declared.command.Step.{Step}
use Rattle.dmlw_script.specs.declared.command.Step.TheVariants as steps
use Rattle.dmlw_script.specs.declared.command.Submission.{Submission}
use Rattle.dmlw_script.specs.declared.command.Submission.TheVariants as submits
use Rattle.dmlw_script.specs.declared.command.WriteOptions.{WriteOptions}
use Rattle.dmlw_script.specs.declared.line.BodyLine.TheVariants as body_lines
use Rattle.dmlw_script.specs.declared.line.HeadLine.{HeadLine}
use Rattle.dmlw_script.specs.declared.line.HeadLine.TheVariants as head_lines
use Rattle.dmlw_script.specs.declared.line_error.LineError.{LineError}
use Rattle.dmlw_script.specs.declared.line_error.LineError.TheVariants as line_errors
use Rattle.dmlw_script.specs.declared.run_line.RunCall.{RunCall}
use Rattle.dmlw_script.specs.declared.run_line.RunCall.TheVariants as calls
use Rattle.dmlw_script.specs.declared.run_line.RunLine.{RunLine}
use Rattle.dmlw_script.specs.declared.run_line.RunLine.TheVariants as run_lines
use Rattle.dmlw_script.specs.declared.script_id.ScriptId.{ScriptId}
use Rattle.dmlw_script.specs.LineMeaning.{LineMeaning}
use Rattle.dmlw_script.specs.LineMeaning as parsed_lines
use Rattle.dmlw_script.specs.Words.{byte_of, id_of_word, is_line_text}

-- applies `f` to the value, if there is one
infixl 10 ◌>>=◌
abbrev pub ◌>>=◌ : {A B : Type 0} → Option A → (A → Option B) → Option B
(Some x) >>= f = f x
None >>= f = None

-- the meaning of a line that submits a request
abbrev pub submit : ScriptId → Submission → LineMeaning
submit name submission = parsed_lines.Body (body_lines.Submit name submission)

-- the meaning of a line that names no request
abbrev pub step : Step → LineMeaning
step it = parsed_lines.Body (body_lines.Step it)

-- Whether `word` is the first of the words, and which words are left. Those after `word` are left,
-- or all if `word` is not the first.
abbrev pub take_word : List ℕ → Option (List ℕ) → Bool × Option (List ℕ)
take_word word None = (false, None)
take_word word (Some words) =
    if bytes_eq (before_byte 32 words) word then (true, after_byte 32 words) else
    (false, Some words)

-- a write's options that were found, if no word is left
abbrev pub found_options : Bool → Bool → Bool → Option (List ℕ) → Option WriteOptions
found_options flush fua meta None = Some (record { flush = flush; fua = fua; meta = meta })
found_options flush fua meta (Some words) = None

-- The options that the last words of a write give; None stands for no words. The options must be in
-- the order flush, fua, meta.
abbrev pub options_of : Option (List ℕ) → Option WriteOptions
options_of words =
    let flush = take_word (codes "flush") words in
    let fua = take_word (codes "fua") flush.1 in
    let meta = take_word (codes "meta") fua.1 in
    found_options flush.0 fua.0 meta.0 meta.1

-- the write with these words: the first sector, the number of sectors, the byte, and any options
abbrev pub write_words : List ℕ → Option Submission
write_words words = do
  from_count ← after_byte 32 words
  from_byte ← after_byte 32 from_count
  first ← number_of (before_byte 32 words)
  count ← number_of (before_byte 32 from_count)
  byte ← byte_of (before_byte 32 from_byte)
  options ← options_of (after_byte 32 from_byte)
  Some (submits.Write first count byte options)

-- the first sector and the number of sectors that these two words give
abbrev pub sectors_of : List ℕ → Option (ℕ × ℕ)
sectors_of words = do
  first ← number_of (before_byte 32 words)
  count_word ← after_byte 32 words
  count ← number_of count_word
  Some (first, count)

-- the discard with these words: the first sector and the number of sectors
abbrev pub discard_words : List ℕ → Option Submission
discard_words words = do
  sectors ← sectors_of words
  Some (submits.Discard sectors.0 sectors.1)

-- the request with the first word `verb` and the words `words` after the id
abbrev pub submission_with : List ℕ → List ℕ → Option Submission
submission_with verb words =
    if bytes_eq verb (codes "w") then write_words words
    else if bytes_eq verb (codes "d") then discard_words words
    else None

-- the request with the first word `verb` and the words after the id, if there are any
abbrev pub submission_of : List ℕ → Option (List ℕ) → Option Submission
submission_of verb (Some words) = submission_with verb words
submission_of verb None = if bytes_eq verb (codes "f") then Some submits.Flush else None

-- the meaning of a line that submits a request: `verb` is its first word, and `words` are its id
-- and the words of the request
abbrev pub submit_of : List ℕ → List ℕ → Option LineMeaning
submit_of verb words = do
  name ← id_of_word (before_byte 32 words)
  submission ← submission_of verb (after_byte 32 words)
  Some (submit name submission)

-- the meaning of a read with these words: the first sector and the number of sectors
abbrev pub read_of : List ℕ → Option LineMeaning
read_of words = do
  sectors ← sectors_of words
  Some (step (steps.Read sectors.0 sectors.1))

-- the meaning of a line of the single word `verb`
abbrev pub lone_word : List ℕ → Option LineMeaning
lone_word verb =
    if bytes_eq verb (codes "close") then Some (step steps.Close)
    else if bytes_eq verb (codes "turn") then Some (step steps.Turn)
    else None

-- the meaning of a line of the body with the first word `verb` and the other words `words`
abbrev pub body_words : List ℕ → List ℕ → Option LineMeaning
body_words verb words =
    if bytes_eq verb (codes "c") then option_map
    (λ name. parsed_lines.Body (body_lines.Complete name)) (id_of_word words)
    else if bytes_eq verb (codes "r") then read_of words
    else if bytes_eq verb (codes "at") then option_map (λ time. step (steps.At time))
    (number_of words)
    else submit_of verb words

-- the meaning of the line of a layer over a disk, with the table line `text`
abbrev pub layer_meaning : DiskName → List ℕ → HeadLine
layer_meaning over text = head_lines.Layer over (line_answer (words_of text))

-- the size of the log's sectors: 512 bytes without a word, and 4,096 for the word `4096`
abbrev pub size_of : Option (List ℕ) → Option SectorSize
size_of None = Some sizes.B512
size_of (Some word) = if bytes_eq word (codes "4096") then Some sizes.B4096 else None

-- the meaning of the log disk's line with these words: its number of sectors, and `4096` if the
-- log's sectors have 4,096 bytes
abbrev pub log_of : List ℕ → Option HeadLine
log_of words = do
  sectors ← number_of (before_byte 32 words)
  size ← size_of (after_byte 32 words)
  Some (head_lines.Log sectors size)

-- the meaning of a line of the head with the first word `verb` and the other words `words`
abbrev pub head_words : List ℕ → List ℕ → Option HeadLine
head_words verb words =
    if bytes_eq verb (codes "data") then option_map head_lines.Data (number_of words)
    else if bytes_eq verb (codes "log") then log_of words
    else if bytes_eq verb (codes "data-layer") then Some (layer_meaning disks.Data words)
    else if bytes_eq verb (codes "log-layer") then Some (layer_meaning disks.Log words)
    else None

-- the meaning of a line with the first word `verb` and the other words `words`, as a line of the
-- head or of the body
abbrev pub parse_words : List ℕ → List ℕ → Option LineMeaning
parse_words verb words =
    option_or (option_map parsed_lines.Head (head_words verb words)) (body_words verb words)

-- the parts of a text between its spaces
abbrev pub split_words : List ℕ → List (List ℕ)
split_words bytes = slice_split (λ byte. byte == 32) bytes

-- the list with the number in front, if both are there
abbrev pub with_number : Option ℕ → Option (List ℕ) → Option (List ℕ)
with_number (Some n) (Some ns) = Some (n ∷ ns)
with_number (Some n) None = None
with_number None ns = None

-- the values of the words, if each word is a number
abbrev pub numbers_of : List (List ℕ) → Option (List ℕ)
numbers_of [] = Some []
numbers_of (word ∷ words) = with_number (number_of word) (numbers_of words)

-- the picks in these words, if each is a number; no words give no picks
abbrev pub picks_of : Option (List ℕ) → Option (List ℕ)
picks_of None = Some []
picks_of (Some words) = numbers_of (split_words words)

-- the meaning of a mark with this text; None stands for a line with no space after `mark`
abbrev pub mark_of : Option (List ℕ) → Option LineMeaning
mark_of None = None
mark_of (Some text) = if is_line_text text then Some (step (steps.Mark text)) else None

-- the disk that a word names, if it names one
abbrev pub disk_of_word : List ℕ → Option DiskName
disk_of_word word =
    if bytes_eq word (codes "data") then Some disks.Data
    else if bytes_eq word (codes "log") then Some disks.Log
    else None

-- the meaning of a message to a layer of a disk: `words` are the layer's number and, after one
-- space, the text
abbrev pub message_to : DiskName → List ℕ → Option LineMeaning
message_to over words = do
  layer ← number_of (before_byte 32 words)
  text ← after_byte 32 words
  if is_line_text text then Some (step (steps.Message over layer text)) else None

-- the meaning of a message with these words: the name of a disk, the number of a layer, and the
-- text
abbrev pub message_of : Option (List ℕ) → Option LineMeaning
message_of None = None
message_of (Some words) = do
  over ← disk_of_word (before_byte 32 words)
  from_layer ← after_byte 32 words
  message_to over from_layer

-- the meaning of a line that needs no memory for its words: `verb` is its first word, and `words`
-- are the others, if there are any
abbrev pub plain_parts : List ℕ → Option (List ℕ) → Option LineMeaning
plain_parts verb (Some words) = parse_words verb words
plain_parts verb None = lone_word verb

-- the meaning of a line: `verb` is its first word, and `words` are the others, if there are any
abbrev pub parse_parts : List ℕ → Option (List ℕ) → Option LineMeaning
parse_parts verb words =
    if bytes_eq verb (codes "crash") then option_map (λ picks. parsed_lines.Crash picks)
    (picks_of words)
    else if bytes_eq verb (codes "mark") then mark_of words
    else if bytes_eq verb (codes "message") then message_of words
    else plain_parts verb words

-- the meaning of a line, if its words have one
abbrev pub parse_line : List ℕ → Option LineMeaning
parse_line line = parse_parts (before_byte 32 line) (after_byte 32 line)

-- How the reader finds the meaning of a line of a run's script. `Grammar` defines the meaning by
-- the words of the line; the two agree by proof.

-- the mark with this text; None stands for a line with no space after `mark`
abbrev pub mark_call : Option (List ℕ) → Option RunCall
mark_call None = None
mark_call (Some text) = if is_line_text text then Some (calls.Mark text) else None

-- the call of a seat: `verb` is its first word, and `words` are the others, if there are any
abbrev pub seat_call_of : List ℕ → Option (List ℕ) → Option RunCall
seat_call_of verb words =
    if bytes_eq verb (codes "mark") then mark_call words
    else option_map calls.Submit (submission_of verb words)

-- the number of the seat that a word names: the word is `s` and the number
abbrev pub seat_of : List ℕ → Option ℕ
seat_of [] = None
seat_of (byte ∷ word) = if byte == 115 then number_of word else None

-- the meaning of a line of the body: `verb` is its seat, and `words` are the words of the call
abbrev pub seat_line : List ℕ → List ℕ → Option RunLine
seat_line verb words = do
  seat ← seat_of verb
  call ← seat_call_of (before_byte 32 words) (after_byte 32 words)
  Some (run_lines.Body (record { seat = seat; call = call }))

-- the meaning of a line of the head with the first word `verb` and the other words `words`
abbrev pub run_head_line : List ℕ → List ℕ → Option RunLine
run_head_line verb words =
    if bytes_eq verb (codes "seats") then option_map run_lines.Seats (number_of words)
    else option_map run_lines.Head (head_words verb words)

-- the meaning of a line: `verb` is its first word, and `words` are the others; a line of one word
-- has no meaning
abbrev pub run_line_parts : List ℕ → Option (List ℕ) → Option RunLine
run_line_parts verb None = None
run_line_parts verb (Some words) = option_or (run_head_line verb words) (seat_line verb words)

-- the meaning of a line of a run's script, if its words have one
abbrev pub parse_run_line : List ℕ → Option RunLine
parse_run_line line = run_line_parts (before_byte 32 line) (after_byte 32 line)

-- Reading words failed with this error. Either it is `BadLine`, and the words have no meaning
-- (`parsed` is None). Or memory ran out.
abbrev pub IsUnread : {A : Type 0} → LineError → Option A → Type 0
IsUnread (line_errors.Refused refusal) parsed = (refusal ≡ BadLine) × (parsed ≡ None)
IsUnread line_errors.Memory parsed = Unit {0}

-- as `IsUnread`, for a line
abbrev pub IsNoRunLine : LineError → Option RunLine → Type 0
IsNoRunLine error parsed = IsUnread error parsed
