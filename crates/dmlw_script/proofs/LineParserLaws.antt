-- Proves that the parser finds a meaning of a line exactly if the line has its fields.
-- Lemmas `.._read` go from the parser's result to the fields, lemmas `.._again` the other way.
use Rattle.std.proofs.Common.{◌≡◌, ℕ, ◌<◌, Bool, true, false, cond, List, [], ◌∷◌, Option, Some}
use Rattle.std.proofs.Common.{None, ⊎_elim, refl, ap, subst, ◌∙◌, sym, arith, ◌^◌, ◌≤◌, Ok}
use Rattle.std.specs.Prelude.{codes, map}
use Rattle.std.specs.Option.{option_map}
use Rattle.std.specs.Str.{bytes_eq}
use Rattle.std.proofs.lemmas.Bool.{cases_Bool, cond-true, eqb-true, ltb-false}
use Rattle.std.proofs.lemmas.Slice.Eq.{bytes_eq-Decides}
use Rattle.std.proofs.lemmas.Option.{cond_some}
use Rattle.bio.specs.declared.request.SectorSize.{SectorSize}
use Rattle.bio.specs.declared.request.SectorSize.TheVariants as sizes
use Rattle.dmlw_script.specs.declared.command.DiskName.{DiskName}
use Rattle.dmlw_script.specs.declared.command.DiskName.TheVariants as disks
use Rattle.dmlw_script.specs.declared.script_id.ScriptId.{ScriptId}
use Rattle.dmlw_script.specs.LineMeaning.{LineMeaning}
use Rattle.dmlw_script.specs.LineMeaning as parsed_lines
use Rattle.dmlw_script.specs.declared.line.HeadLine.{HeadLine}
use Rattle.dmlw_script.specs.declared.line.HeadLine.TheVariants as head_lines
use Rattle.dmlw_script.specs.declared.line.BodyLine.TheVariants as body_lines
use Rattle.dmlw_script.specs.declared.command.Submission.{Submission}
use Rattle.dmlw_script.specs.declared.command.Submission.TheVariants as submits
use Rattle.dmlw_script.specs.declared.command.Step.TheVariants as steps
use Rattle.dmlw_script.specs.declared.command.WriteOptions.{WriteOptions}
use Rattle.dmlw_script.specs.Fields.{disk_word, fields_of, head_fields, number, option_fields}
use Rattle.dmlw_script.specs.Fields.{size_fields, submission_fields, submission_word, Byte, Choice}
use Rattle.dmlw_script.specs.Fields.{Field, Given, HasFields, IsWord, Name, Number, One, Says, Text}
use Rattle.dmlw_script.specs.Fields.{Word, step_fields}
use Rattle.dmlw_script.specs.Grammar.{ParsesAs}
use Rattle.dmlw_script.specs.Words.{byte_of, id_of_word, is_line_text, is_skipped}
use Rattle.dmlw_script.specs.inside.LineParser.{◌>>=◌, body_words, discard_words, disk_of_word}
use Rattle.dmlw_script.specs.inside.LineParser.{found_options}
use Rattle.dmlw_script.specs.inside.LineParser.{head_words, layer_meaning, log_of, mark_of, message_of}
use Rattle.dmlw_script.specs.inside.LineParser.{options_of, parse_line, parse_parts, picks_of}
use Rattle.dmlw_script.specs.inside.LineParser.{plain_parts, sectors_of, size_of, step}
use Rattle.dmlw_script.specs.inside.LineParser.{submission_of, submit, submit_of, take_word}
use Rattle.dmlw_script.specs.inside.LineParser.{with_number, write_words}
use Rattle.dmlw_script.proofs.WordLaws.{before_all, bind_at, bind_some, cut_alone, first_some}
use Rattle.dmlw_script.proofs.WordLaws.{id_lacks_space, lacks, map_some, number_lacks_space}
use Rattle.dmlw_script.proofs.WordLaws.{picks_first, same_bytes, same_some, verb_read}
use Rattle.refusals.specs.Words.{after_byte, before_byte, number_of}
use Rattle.bio.specs.RequestLaws.{sized_passed}
use Rattle.dmlw_script.specs.declared.command.Step.{Step}
use Rattle.dmlw_script.specs.Plans.{range_test, step_answer, submission_answer, HasLineText}
use Rattle.dmlw_script.specs.Plans.{WritesByte}
use Rattle.dmlw_script.proofs.Spelling.{Fits, FitsFields, FitsWord}
use Rattle.dmlw_script.proofs.ReaderLaws.{barred_ok}

pub at_end : (left : Option (List ℕ)) → HasFields [] left → left ≡ None
at_end None has = refl
at_end (Some text) has = absurd has

pub left_with : (fields : List Field) (left : Option (List ℕ)) (text : List ℕ) → left ≡ Some text
    → HasFields fields (Some text) → HasFields fields left
left_with fields left text is has = grind arith

pub word_left : (word : Word) (fields : List Field) (left : Option (List ℕ))
    → HasFields (One word ∷ fields) left
    → (text : List ℕ) × (left ≡ Some text) × IsWord (before_byte 32 text) word
    × HasFields fields (after_byte 32 text)
word_left word fields None has = absurd has
word_left word fields (Some text) has = (text, refl, has.0, has.1)

pub text_left : (text : List ℕ) (left : Option (List ℕ)) → HasFields (Text text ∷ []) left
    → (left ≡ Some text) × (is_line_text text ≡ true)
text_left text None has = absurd has
text_left text (Some other) has = (ap Some has.1, has.0)

last_word : (text : List ℕ) → HasFields [] (after_byte 32 text) → text ≡ before_byte 32 text
last_word text ends = sym (before_all 32 text (at_end (after_byte 32 text) ends))

last_has : (word : Word) (text : List ℕ) → lacks 32 text ≡ true → IsWord text word
    → HasFields (One word ∷ []) (Some text)
last_has word text lack is = grind (arith, cut_alone 32 text lack)

pub last_number_read : (text : List ℕ) (n : ℕ) → number_of text ≡ Some n
    → HasFields (number n ∷ []) (Some text)
last_number_read text n e = last_has (Number n) text (number_lacks_space text n e) e

pub last_number_again : (text : List ℕ) (n : ℕ) → HasFields (number n ∷ []) (Some text)
    → number_of text ≡ Some n
last_number_again text n has = ap number_of (last_word text has.1) ∙ has.0

last_id_read : (text : List ℕ) (name : ScriptId) → id_of_word text ≡ Some name
    → HasFields (One (Name name) ∷ []) (Some text)
last_id_read text name e = last_has (Name name) text (id_lacks_space text name e) e

last_id_again : (text : List ℕ) (name : ScriptId) → HasFields (One (Name name) ∷ []) (Some text)
    → id_of_word text ≡ Some name
last_id_again text name has = ap id_of_word (last_word text has.1) ∙ has.0

taken_read : (word : List ℕ) (fields : List Field) (left : Option (List ℕ))
    → HasFields fields (take_word word left).1
    → HasFields (Choice (take_word word left).0 word ∷ fields) left
taken_read word fields None has = has
taken_read word fields (Some text) has =
    by_test (bytes_eq (before_byte 32 text) word) (same_bytes (before_byte 32 text) word) has
  where
    by_test : (t : Bool) → (t ≡ true → before_byte 32 text ≡ word) →
        let took : Bool × Option (List ℕ) = cond t (true, after_byte 32 text) (false, Some text) in
        HasFields fields took.1 → HasFields (Choice took.0 word ∷ fields) (Some text)
    by_test true same has = (same refl, has)
    by_test false same has = has

-- Each field is an option with a word other than `word`, so that `take_word` can't take it.
abbrev AreOthers : List ℕ → List Field → Type 0
AreOthers word [] = Unit {0}
AreOthers word (Choice given other ∷ fields) =
    (bytes_eq other word ≡ false) × AreOthers word fields
AreOthers word (field ∷ fields) = ⊥

untaken : (word : List ℕ) (fields : List Field) (left : Option (List ℕ)) → AreOthers word fields
    → HasFields fields left → take_word word left ≡ (false, left)
untaken word [] None others has = refl
untaken word [] (Some text) others has = absurd has
untaken word (Choice false other ∷ fields) left others has =
    untaken word fields left others.1 has
untaken word (Choice true other ∷ fields) None others has = refl
untaken word (Choice true other ∷ fields) (Some text) others has = grind arith
untaken word (field ∷ fields) left others has = absurd others

taken_again : (word : List ℕ) (given : Bool) (fields : List Field) (left : Option (List ℕ))
    → AreOthers word fields → HasFields (Choice given word ∷ fields) left
    → ((take_word word left).0 ≡ given) × HasFields fields (take_word word left).1
taken_again word false fields left others has =
    let is = untaken word fields left others has in (
      rw is,
      rw is has,
    )
taken_again word true fields None others has = absurd has
taken_again word true fields (Some text) others has =
    grind (arith, true, bytes_eq-Decides, cond-true)

abbrev asks_for : Bool → Bool → Bool → WriteOptions
asks_for flush fua meta = record { flush = flush; fua = fua; meta = meta }

found_read : (flush fua meta : Bool) (left : Option (List ℕ)) (options : WriteOptions)
    → found_options flush fua meta left ≡ Some options
    → (left ≡ None) × (asks_for flush fua meta ≡ options)
found_read flush fua meta (Some words) options e = absurd (cc)
found_read flush fua meta None options e = (refl, cc)

options_read : (left : Option (List ℕ)) (options : WriteOptions) → options_of left ≡ Some options
    → HasFields (option_fields options) left
options_read left options e =
    let flush = take_word (codes "flush") left in
    let fua = take_word (codes "fua") flush.1 in
    let meta = take_word (codes "meta") fua.1 in
    let found = found_read flush.0 fua.0 meta.0 meta.1 options e in
    let last : HasFields [] meta.1 =
    rw found.0 tt in
    subst (λ (o : WriteOptions). HasFields (option_fields o) left) found.1
    (taken_read (codes "flush") (Choice fua.0 (codes "fua") ∷ Choice meta.0 (codes "meta") ∷ []) left
    (taken_read (codes "fua") (Choice meta.0 (codes "meta") ∷ []) flush.1
    (taken_read (codes "meta") [] fua.1 last)))

options_again : (left : Option (List ℕ)) (options : WriteOptions)
    → HasFields (option_fields options) left → options_of left ≡ Some options
options_again left options has =
    let meta_field = Choice options.meta (codes "meta") in
    let flush =
    taken_again (codes "flush") options.flush
    (Choice options.fua (codes "fua") ∷ meta_field ∷ []) left (refl, (refl, tt)) has in
    let after_flush : Option (List ℕ) = (take_word (codes "flush") left).1 in
    let fua =
    taken_again (codes "fua") options.fua (meta_field ∷ []) after_flush (refl, tt) flush.1 in
    let after_fua : Option (List ℕ) = (take_word (codes "fua") after_flush).1 in
    let meta = taken_again (codes "meta") options.meta [] after_fua tt fua.1 in
    found_again _ _ _ _ flush.0 fua.0 meta.0 (at_end _ meta.1)
  where
    found_again : (flush fua meta : Bool) (left : Option (List ℕ)) → flush ≡ options.flush
        → fua ≡ options.fua → meta ≡ options.meta → left ≡ None
        → found_options flush fua meta left ≡ Some options
    found_again flush fua meta left is_flush is_fua is_meta none = grind arith

abbrev SaysRequest : Option (List ℕ) → List ℕ → Submission → Type 0
SaysRequest left verb s = (verb ≡ submission_word s) × HasFields (submission_fields s) left

write_words_read : (words : List ℕ) (s : Submission) → write_words words ≡ Some s
    → SaysRequest (Some words) (codes "w") s
write_words_read words s e =
    let b = bind_some (after_byte 32 words) _ s e in
    let c = bind_some (after_byte 32 b.0) _ s b.2 in
    let f = bind_some (number_of (before_byte 32 words)) _ s c.2 in
    let g = bind_some (number_of (before_byte 32 b.0)) _ s f.2 in
    let h = bind_some (byte_of (before_byte 32 c.0)) _ s g.2 in
    let o = bind_some (options_of (after_byte 32 c.0)) _ s h.2 in
    rw (← same_some _ s o.2) (
      refl,
      (
        f.1,
        left_with (number g.0 ∷ One (Byte h.0) ∷
            option_fields o.0) (after_byte 32 words) b.0 b.1 (
              g.1,
              left_with (One (Byte h.0) ∷
                  option_fields o.0) (after_byte 32 b.0) c.0 c.1 (
                    h.1,
                    options_read (after_byte 32 c.0) o.0
                        o.1,
                  ),
            ),
      ),
    )

sectors_read : (words : List ℕ) (sectors : ℕ × ℕ) → sectors_of words ≡ Some sectors
    → HasFields (number sectors.0 ∷ number sectors.1 ∷ []) (Some words)
sectors_read words sectors e =
    grind (arith, bind_some, same_some, left_with, last_number_read)

discard_words_read : (words : List ℕ) (s : Submission) → discard_words words ≡ Some s
    → SaysRequest (Some words) (codes "d") s
discard_words_read words s e =
    let a = bind_some (sectors_of words) _ s e in
    rw (← same_some _ s a.2) (refl, sectors_read words a.0 a.1)

pub submission_read : (verb : List ℕ) (left : Option (List ℕ)) (s : Submission)
    → submission_of verb left ≡ Some s
    → (verb ≡ submission_word s) × HasFields (submission_fields s) left
submission_read verb (Some words) s =
    verb_read (SaysRequest (Some words)) verb (codes "w") _ _ s (write_words_read words s)
    (verb_read (SaysRequest (Some words)) verb (codes "d") _ _ s (discard_words_read words s)
    (λ none. absurd (cc none)))
submission_read verb None s =
    verb_read (SaysRequest None) verb (codes "f") _ _ s
    (λ e. rw (← same_some submits.Flush s e) (refl, tt))
    (λ none. absurd (cc none))

write_words_again : (words : List ℕ) (first count byte : ℕ) (options : WriteOptions)
    → HasFields (submission_fields (submits.Write first count byte options)) (Some words)
    → write_words words ≡ Some (submits.Write first count byte options)
write_words_again words first count byte options has =
    grind (arith, word_left, bind_at, options_again)

sectors_again : (words : List ℕ) (first count : ℕ)
    → HasFields (number first ∷ number count ∷ []) (Some words)
    → sectors_of words ≡ Some (first, count)
sectors_again words first count has = grind (arith, word_left, bind_at, last_number_again)

pub no_mark : (s : Submission) → bytes_eq (submission_word s) (codes "mark") ≡ false
no_mark (submits.Write first count byte options) = refl
no_mark submits.Flush = refl
no_mark (submits.Discard first count) = refl

pub submission_again : (s : Submission) (verb : List ℕ) (left : Option (List ℕ))
    → verb ≡ submission_word s → HasFields (submission_fields s) left
    → submission_of verb left ≡ Some s
submission_again (submits.Write first count byte options) verb (Some words) is has =
    rw is (write_words_again words first count byte options has)
submission_again (submits.Discard first count) verb (Some words) is has =
    rw is (bind_at _ _ _ _ (sectors_again words first count has) refl)
submission_again submits.Flush verb None is has = rw is refl
submission_again s verb left is has = absurd has

abbrev SaysLine : List ℕ → Option (List ℕ) → LineMeaning → Type 0
SaysLine verb left s = Says verb left (fields_of s)

abbrev SaysWords : List ℕ → List ℕ → LineMeaning → Type 0
SaysWords words verb s = SaysLine verb (Some words) s

submit_read : (verb words : List ℕ) (s : LineMeaning) → submit_of verb words ≡ Some s
    → SaysWords words verb s
submit_read verb words s e =
    grind (arith, bind_some, submission_read, same_some)

body_read : (verb words : List ℕ) (s : LineMeaning) → body_words verb words ≡ Some s
    → SaysWords words verb s
body_read verb words s =
    verb_read (SaysWords words) verb (codes "c") _ _ s
    (λ e. let p = map_some (λ name. parsed_lines.Body (body_lines.Complete name))
    (id_of_word words) s e in
    subst (λ (x : LineMeaning). SaysWords words (codes "c") x) p.2
    (refl, last_id_read words p.0 p.1))
    (verb_read (SaysWords words) verb (codes "r") _ _ s
    (λ e. let a = bind_some (sectors_of words) _ s e in
    subst (λ (x : LineMeaning). SaysWords words (codes "r") x) (same_some _ s a.2)
    (refl, sectors_read words a.0 a.1))
    (verb_read (SaysWords words) verb (codes "at") _ _ s
    (λ e. let p = map_some (λ time. step (steps.At time)) (number_of words) s e in
    subst (λ (x : LineMeaning). SaysWords words (codes "at") x) p.2
    (refl, last_number_read words p.0 p.1))
    (submit_read verb words s)))

abbrev pub SaysHead : List ℕ → List ℕ → HeadLine → Type 0
SaysHead words verb s = Says verb (Some words) (head_fields s)

size_read : (left : Option (List ℕ)) (size : SectorSize) → size_of left ≡ Some size
    → HasFields (size_fields size) left
size_read None size e = grind (arith, same_some)
size_read (Some text) size e =
    let p = cond_some (bytes_eq text (codes "4096")) sizes.B4096 size e in
    subst (λ (x : SectorSize). HasFields (size_fields x) (Some text)) p.1
    (subst (λ (x : List ℕ). HasFields (size_fields sizes.B4096) (Some x))
    (sym (same_bytes text (codes "4096") p.0)) (refl, tt))

pub head_read : (verb words : List ℕ) (s : HeadLine) → head_words verb words ≡ Some s
    → SaysHead words verb s
head_read verb words s =
    verb_read (SaysHead words) verb (codes "data") _ _ s
    (λ e. let p = map_some head_lines.Data (number_of words) s e in
    subst (λ (x : HeadLine). SaysHead words (codes "data") x) p.2
    (refl, last_number_read words p.0 p.1))
    (verb_read (SaysHead words) verb (codes "log") _ _ s
    (λ e. let a = bind_some (number_of (before_byte 32 words)) _ s e in
    let b = bind_some (size_of (after_byte 32 words)) _ s a.2 in
    subst (λ (x : HeadLine). SaysHead words (codes "log") x)
    (same_some (head_lines.Log a.0 b.0) s b.2) (
      refl,
      (
        a.1,
        size_read (after_byte 32 words) b.0 b.1,
      ),
    ))
    (verb_read (SaysHead words) verb (codes "data-layer") _ _ s
    (λ e. subst (λ (x : HeadLine). SaysHead words (codes "data-layer") x)
    (same_some (layer_meaning disks.Data words) s e) (refl, refl))
    (verb_read (SaysHead words) verb (codes "log-layer") _ _ s
    (λ e. subst (λ (x : HeadLine). SaysHead words (codes "log-layer") x)
    (same_some (layer_meaning disks.Log words) s e) (refl, refl))
    (λ e. absurd (cc e)))))

plain_read : (verb : List ℕ) (left : Option (List ℕ)) (s : LineMeaning)
    → plain_parts verb left ≡ Some s → SaysLine verb left s
plain_read verb (Some words) s e =
    ⊎_elim
    (λ (head : option_map parsed_lines.Head (head_words verb words) ≡ Some s).
    let p = map_some parsed_lines.Head (head_words verb words) s head in
    rw (← p.2) (head_read verb words p.0 p.1))
    (body_read verb words s)
    (first_some _ (body_words verb words) s e)
plain_read verb None s e =
    verb_read (λ v x. SaysLine v None x) verb (codes "close") _ _ s
    (λ is. subst (λ (x : LineMeaning). SaysLine (codes "close") None x)
    (same_some (step steps.Close) s is) (refl, tt))
    (verb_read (λ v x. SaysLine v None x) verb (codes "turn") _ _ s
    (λ is. subst (λ (x : LineMeaning). SaysLine (codes "turn") None x)
    (same_some (step steps.Turn) s is) (refl, tt))
    (λ none. absurd (cc none))) e

number_parts : (o : Option ℕ) (os : Option (List ℕ)) (picks : List ℕ)
    → with_number o os ≡ Some picks
    → (n : ℕ) × (ns : List ℕ) × (o ≡ Some n) × (os ≡ Some ns) × (n ∷ ns ≡ picks)
number_parts (Some n) (Some ns) picks e = (n, ns, refl, refl, cc)
number_parts (Some n) None picks e = absurd (cc)
number_parts None os picks e = absurd (cc)

picks_read : (picks : List ℕ) (left : Option (List ℕ)) → picks_of left ≡ Some picks
    → HasFields (map number picks) left
picks_read [] None e = tt
picks_read (pick ∷ picks) None e = absurd (cc)
picks_read [] (Some words) e = grind (arith, number_parts, picks_first)
picks_read (pick ∷ picks) (Some words) e =
    let p =
    number_parts (number_of (before_byte 32 words)) (picks_of (after_byte 32 words))
    (pick ∷ picks) (sym (picks_first words) ∙ e) in
    let parts : p.0 ∷ p.1 ≡ pick ∷ picks = p.4 in
    let one : p.0 ≡ pick = cc in
    let more : p.1 ≡ picks = cc in (
      p.2 ∙ ap Some one,
      picks_read picks (after_byte 32 words) (p.3 ∙ ap Some more),
    )

picks_again : (picks : List ℕ) (left : Option (List ℕ)) → HasFields (map number picks) left
    → picks_of left ≡ Some picks
picks_again [] None has = refl
picks_again [] (Some words) has = absurd has
picks_again (pick ∷ picks) None has = absurd has
picks_again (pick ∷ picks) (Some words) has =
    grind (arith, picks_again picks (after_byte 32 words) has.1, picks_first)

mark_read : (left : Option (List ℕ)) (s : LineMeaning) → mark_of left ≡ Some s
    → SaysLine (codes "mark") left s
mark_read None s e = absurd (cc)
mark_read (Some text) s e = grind (arith, cond_some)

disk_read : (word : List ℕ) (over : DiskName) → disk_of_word word ≡ Some over
    → word ≡ disk_word over
disk_read word over e = grind (arith, same_bytes, same_some, cond_some)

message_read : (left : Option (List ℕ)) (s : LineMeaning) → message_of left ≡ Some s
    → SaysLine (codes "message") left s
message_read None s e = absurd (cc)
message_read (Some words) s e =
    let d = bind_some (disk_of_word (before_byte 32 words)) _ s e in
    let a = bind_some (after_byte 32 words) _ s d.2 in
    let n = bind_some (number_of (before_byte 32 a.0)) _ s a.2 in
    let t = bind_some (after_byte 32 a.0) _ s n.2 in
    let p = cond_some (is_line_text t.0) (step (steps.Message d.0 n.0 t.0)) s t.2 in
    rw (← p.1) (
      refl,
      (
        disk_read (before_byte 32 words) d.0 d.1,
        left_with (number n.0 ∷ Text
            t.0 ∷ []) (after_byte 32 words) a.0 a.1 (
              n.1,
              left_with (Text t.0 ∷ []) (after_byte 32
                  a.0) t.0 t.1 (p.0, refl),
            ),
      ),
    )

parts_read : (verb : List ℕ) (left : Option (List ℕ)) (s : LineMeaning)
    → parse_parts verb left ≡ Some s → SaysLine verb left s
parts_read verb left s =
    verb_read (λ v x. SaysLine v left x) verb (codes "crash") _ _ s
    (λ e. let p = map_some (λ (ps : List ℕ). parsed_lines.Crash ps) (picks_of left) s e in
    subst (λ (x : LineMeaning). SaysLine (codes "crash") left x) p.2
    (refl, picks_read p.0 left p.1))
    (verb_read (λ v x. SaysLine v left x) verb (codes "mark") _ _ s (mark_read left s)
    (verb_read (λ v x. SaysLine v left x) verb (codes "message") _ _ s (message_read left s)
    (plain_read verb left s)))

pub parsed_read : (line : List ℕ) (s : LineMeaning) → parse_line line ≡ Some s → ParsesAs line s
parsed_read line s e = parts_read (before_byte 32 line) (after_byte 32 line) s e

size_again : (size : SectorSize) (left : Option (List ℕ)) → HasFields (size_fields size) left
    → size_of left ≡ Some size
size_again sizes.B512 None has = refl
size_again sizes.B4096 (Some text) has = grind (arith, last_word)
size_again size left has = absurd has

pub log_again : (words : List ℕ) (n : ℕ) (size : SectorSize)
    → HasFields (number n ∷ size_fields size) (Some words)
    → log_of words ≡ Some (head_lines.Log n size)
log_again words n size has = grind (arith, bind_at, size_again)

submit_again : (s : Submission) (verb words : List ℕ) (name : ScriptId) → verb ≡ submission_word s
    → HasFields (One (Name name) ∷ submission_fields s) (Some words)
    → submit_of verb words ≡ Some (submit name s)
submit_again s verb words name is has =
    bind_at _ _ _ _ has.0
    (bind_at _ _ _ _ (submission_again s verb (after_byte 32 words) is has.1) refl)

disk_again : (over : DiskName) (word : List ℕ) → word ≡ disk_word over
    → disk_of_word word ≡ Some over
disk_again disks.Data word is = rw is refl
disk_again disks.Log word is = rw is refl

message_again : (over : DiskName) (layer : ℕ) (text words : List ℕ)
    → HasFields (One (Given (disk_word over)) ∷ number layer ∷ Text text ∷ []) (Some words)
    → message_of (Some words) ≡ Some (step (steps.Message over layer text))
message_again over layer text words has =
    grind (arith, word_left, text_left, bind_at, disk_again, cond-true)

mark_again : (text : List ℕ) (left : Option (List ℕ)) → HasFields (Text text ∷ []) left
    → mark_of left ≡ Some (step (steps.Mark text))
mark_again text left has = grind (arith, text_left, cond-true)

abbrev heard_head : Option HeadLine → Option LineMeaning
heard_head s = option_map parsed_lines.Head s

parts_again : (s : LineMeaning) (verb : List ℕ) (left : Option (List ℕ)) → SaysLine verb left s
    → parse_parts verb left ≡ Some s
parts_again (parsed_lines.Head (head_lines.Data n)) verb (Some words) says =
    rw says.0 (rw (last_number_again words n says.1))
parts_again (parsed_lines.Head (head_lines.Log n size)) verb (Some words) says =
    rw says.0 (rw (log_again words n size says.1))
parts_again (parsed_lines.Head (head_lines.Layer disks.Data asked)) verb (Some words) says =
    rw says.0
    (rw says.1)
parts_again (parsed_lines.Head (head_lines.Layer disks.Log asked)) verb (Some words) says =
    rw says.0
    (rw says.1)
parts_again (parsed_lines.Body
    (body_lines.Submit name (submits.Write first count byte options))) verb (Some words) says =
    grind (arith, submit_again)
parts_again (parsed_lines.Body (body_lines.Submit name (submits.Discard first count))) verb
    (Some words) says =
    rw says.0 (submit_again (submits.Discard first count) (codes "d") words name refl says.1)
parts_again (parsed_lines.Body (body_lines.Submit name submits.Flush)) verb (Some words) says =
    rw says.0 (submit_again submits.Flush (codes "f") words name refl says.1)
parts_again (parsed_lines.Body (body_lines.Complete name)) verb (Some words) says =
    grind (arith, last_id_again words name says.1)
parts_again (parsed_lines.Body (body_lines.Step steps.Close)) verb None says = rw says.0 refl
parts_again (parsed_lines.Body (body_lines.Step (steps.Read first count))) verb (Some words) says =
    rw says.0 (bind_at _ _ _ _ (sectors_again words first count says.1) refl)
parts_again (parsed_lines.Body (body_lines.Step steps.Turn)) verb None says = rw says.0 refl
parts_again (parsed_lines.Body (body_lines.Step (steps.Mark text))) verb left says =
    rw says.0 (mark_again text left says.1)
parts_again (parsed_lines.Body (body_lines.Step (steps.At time))) verb (Some words) says =
    rw says.0 (ap (option_map (λ k. step (steps.At k))) (last_number_again words time says.1))
parts_again (parsed_lines.Body (body_lines.Step (steps.Message over layer text))) verb
    (Some words) says =
    rw says.0 (message_again over layer text words says.1)
parts_again (parsed_lines.Crash picks) verb left says = grind (arith, picks_again picks left says.1)
parts_again s verb left says = absurd says.1

pub parsed_again : (line : List ℕ) (s : LineMeaning) → ParsesAs line s → parse_line line ≡ Some s
parsed_again line s says = parts_again s (before_byte 32 line) (after_byte 32 line) says

comment_parts : (word : List ℕ) (rest : Option (List ℕ)) → parse_parts (35 ∷ word) rest ≡ None
comment_parts word None = refl
comment_parts word (Some words) =
    no_submission (id_of_word (before_byte 32 words)) (after_byte 32 words)
  where
    no_submission : (name : Option ScriptId) (left : Option (List ℕ))
        → (name >>= λ id. submission_of (35 ∷ word) left >>= λ made. Some (submit id made)) ≡ None
    no_submission None left = refl
    no_submission (Some id) None = refl
    no_submission (Some id) (Some others) = refl

-- A line with a meaning isn't skipped, if an empty line and a comment (`#`, 35) have no meaning.
pub kept_by : {A : Type 0} (parse : List ℕ → Option A) → parse [] ≡ None
    → ((line : List ℕ) → parse (35 ∷ line) ≡ None) → (line : List ℕ) (s : A)
    → parse line ≡ Some s → is_skipped line ≡ false
kept_by parse none comment [] s e = absurd (cc)
kept_by parse none comment (b ∷ line) s e = grind (arith, eqb-true, cases_Bool)

pub said_kept : (line : List ℕ) (s : LineMeaning) → ParsesAs line s → is_skipped line ≡ false
said_kept line s says = grind (arith, kept_by, comment_parts, parsed_again)

pub range_low : (bytes sectors first count : ℕ) → sectors ≤ 1048576
    → range_test bytes sectors first count ≡ Ok tt → (first < 2 ^ 64) × (count < 2 ^ 64)
range_low bytes sectors first count small e = grind (arith, barred_ok, sized_passed, ltb-false)

pub submission_fits : (bytes sectors : ℕ) (submission : Submission) → sectors ≤ 1048576
    → submission_answer bytes sectors submission ≡ Ok tt → WritesByte submission
    → FitsWord (Given (submission_word submission)) × Fits (submission_fields submission)
submission_fits bytes sectors submits.Flush small passes low = ((refl, refl), tt)
submission_fits bytes sectors other small passes low = grind (arith, range_low)

pub step_fits : (bytes sectors : ℕ) (it : Step) → sectors ≤ 1048576
    → step_answer bytes sectors it ≡ Ok tt → HasLineText it → FitsFields (step_fields it)
step_fits bytes sectors steps.Close small passes text = grind arith
step_fits bytes sectors (steps.Read first count) small passes text = grind (arith, range_low)
step_fits bytes sectors other small passes rest = grind arith
