-- Proves what one line of a script does, and what it prints.
use Rattle.std.proofs.Common.{add-one, ◌<◌, ◌≤◌, Bool, ℕ, ◌+◌, ◌*◌, zero, suc, true, false}
use Rattle.std.proofs.Common.{not, None, Option, Some, append_assoc, drop, refl, subst}
use Rattle.std.proofs.Common.{if◌then◌else◌, sym, inl, inr, ◌≡◌, ◌∙◌, List, [], ◌∷◌, ◌++◌}
use Rattle.std.proofs.Common.{encode_utf8_all, ap, arith, length, take, replicate}
use Rattle.std.specs.Prelude.{slice_get, codes, decimal, option_map, slice_index_or, ◌==◌}
use Rattle.std.specs.Prelude.{Err, IfErr, IfOk, Ok, OnOk, Result}
use Rattle.std.proofs.lemmas.Bool.{and_from, and_parts, ltb-true}
use Rattle.std.proofs.lemmas.Bool.Decides.{nat_tests}
use Rattle.std.proofs.lemmas.List.{append-nil, drop_all, take_all}
use Rattle.std.proofs.lemmas.List.Elements.{All-from_recursion, All-get_or}
use Rattle.std.proofs.lemmas.Option.{slice_get-get_or}
use Rattle.std.proofs.lemmas.Str.{encodes-IsAscii}
use Rattle.std.proofs.lemmas.Str.Ascii.{IsAscii-from_all}
use Rattle.std.proofs.Math.Nat.{mul-div_cancel, mul-mod_left}
use Rattle.std.specs.declared.io.ErrorKind.{ErrorKind}
use Rattle.std.specs.declared.io.ErrorKind.TheVariants as kinds
use Rattle.std.specs.Io.KnownBytes.{Appends}
use Rattle.std.specs.List.{AllByRecursion, list_all}
use Rattle.std.specs.Result.{IsErr}
use Rattle.std.specs.Str.{IsAscii}
use Rattle.refusals.specs.declared.refusal.Refusal.{Refusal}
use Rattle.refusals.specs.declared.refusal.Refusal.TheVariants as refusals
use Rattle.refusals.specs.Errors.{IsFileError, io_refusal, refused_by}
use Rattle.refusals.specs.Words.{before_byte as before_mark}
use Rattle.bio.specs.declared.request.Bio.{Bio}
use Rattle.bio.specs.Events.{is_recording, is_text}
use Rattle.bio.specs.PlaceLaws.{bool_cases}
use Rattle.bio.specs.Requests.{range_answer}
use Rattle.blockdev.specs.View.{IsByteRange}
use Rattle.blockdev.specs.declared.device.BlockDev.{Ghosts}
use Rattle.pending.specs.CoreState.{records}
use Rattle.recorder.specs.Calls.{Closes, Marks, SubmitsRequest, core_of, recorder_view}
use Rattle.recorder.specs.declared.recorder.Recorder.{Recorder}
use Rattle.recorder.specs.declared.reply.Reply.{Reply}
use Rattle.recorder.specs.declared.reply.Reply.TheVariants as replies
use Rattle.recorder.specs.Growth.{RecorderFrame}
use Rattle.dmlw_script.specs.declared.command.Command.{Command}
use Rattle.dmlw_script.specs.declared.command.Command.TheVariants as commands
use Rattle.dmlw_script.specs.declared.command.Step.{Step}
use Rattle.dmlw_script.specs.declared.command.Step.TheVariants as steps
use Rattle.dmlw_script.specs.declared.script_id.ScriptId.{ScriptId}
use Rattle.dmlw_script.specs.Words.{byte_text, is_line_byte, is_line_text, is_name_byte, letters_of}
use Rattle.dmlw_script.specs.Words.{script_id}
use Rattle.dmlw_script.specs.Plans.{IsName, time_at_step}
use Rattle.script_runner.specs.CallLaws.{appends_twice}
use Rattle.script_runner.specs.declared.request.Request.{Request}
use Rattle.script_runner.specs.declared.running.Running.{Running}
use Rattle.script_runner.specs.inside.{mark_printed}
use Rattle.script_runner.specs.Lines.{Answering, PrintsLine, PrintsMark, TakesStep, printed_bytes}
use Rattle.script_runner.specs.Lines.{outcome_line, outcome_word, read_line}

pub refused-only : {L : Type 0} {g : Ghosts L} (bio : Bio) (reply : Reply) (old new : Recorder L g)
    → SubmitsRequest bio reply old new
    → ((id : ℕ) → reply ≡ replies.Tracked id → ⊥) → (reply ≡ replies.Passed → ⊥)
    → SubmitsRequest bio (replies.Refused refusals.Memory) old new
refused-only bio reply old new submits tracked passed =
    elim (bool_cases (records (core_of old) bio)) [
      | inl recorded ↦ elim (submits.recorded recorded) [
        | inl followed ↦ absurd (tracked _ followed.0)
        | inr refused ↦ rw (← refused.0) submits
      ]
      | inr other ↦ absurd (passed (submits.passed other).0)
    ]

pub closed-only : {L : Type 0} {g : Ghosts L} (reply : Reply) (old new : Recorder L g)
    → Closes reply old new
    → ((refusal : Refusal) → reply ≡ replies.Refused refusal → ⊥) → Closes replies.Closed old new
closed-only reply old new closes refused = elim closes.answer [
  | inl done ↦ rw (← done.0) closes
  | inr other ↦
      elim other [ inl busy ↦ absurd (refused _ busy.0) | inr memory ↦ absurd (refused _ memory.0) ]
]

byte_is_text : (byte : ℕ) → is_line_byte byte ≡ true → not (byte == 0) ≡ true
byte_is_text byte plain = grind (arith, nat_tests)

line_is_text : (text : List ℕ) → is_line_text text ≡ true → is_text text ≡ true
line_is_text [] plain = refl
line_is_text (byte ∷ text) plain =
    let parts = and_parts (is_line_byte byte) (is_line_text text) plain in
    and_from _ _ (byte_is_text byte parts.0) (line_is_text text parts.1)

pub mark_prints : {L : Type 0} {g : Ghosts L} (text : List ℕ) (reply : Reply)
    (old new : Recorder L g) → Marks text reply old new → is_line_text text ≡ true
    → PrintsMark reply (mark_printed reply)
mark_prints text reply old new marks plain = elim (bool_cases (is_recording (core_of old).events)) [
  | inl going ↦ elim (marks.recorded heard going) [
    | inl queued ↦ rw queued.0 refl
    | inr refused ↦
        rw refused.0 (refl, refl)
  ]
  | inr over ↦
      rw ((marks.passed heard over).0) refl
]
  where
    heard : is_text text ≡ true
    heard = line_is_text text plain

pub line_ascii : (text : List ℕ) → is_line_text text ≡ true → IsAscii text
line_ascii [] plain i = omega arith
line_ascii (byte ∷ text) plain zero = grind (arith, and_parts, ltb-true, not)
line_ascii (byte ∷ text) plain (suc i) =
    line_ascii text (and_parts (is_line_byte byte) (is_line_text text) plain).1 i

pub stands_at : (items : List Request) (place : ℕ) (here found : Request) → place < length items
    → here ≡ slice_index_or items place here → here ≡ found
    → slice_get items place ≡ Some found
stands_at items place here found within is same =
    slice_get-get_or items place here within ∙ ap Some (sym is ∙ same)

pub is_close_step : (command : Command) (step : Step) → command ≡ commands.Step step
    → step ≡ steps.Close → command ≡ commands.Step steps.Close
is_close_step command step is close = is ∙ ap commands.Step close

pub is_step : (command : Command) (step other : Step) → command ≡ commands.Step step → step ≡ other
    → command ≡ commands.Step other
is_step command step other is same = is ∙ ap commands.Step same

pub on_ok : {T E A B : Type 0} (result : Result T E) → OnOk result A → (A → B) → OnOk result B
on_ok (Ok value) holds follows = follows holds
on_ok (Err error) holds follows = tt

pub if_err : {T E : Type 0} {P Q : E → Type 0} (result : Result T E) → IfErr result P
    → ((error : E) → P error → Q error) → IfErr result Q
if_err (Ok value) holds follows = tt
if_err (Err error) holds follows = follows error holds

pub on_failed : {T E : Type 0} (A : Type 0) (result : Result T E) → IsErr result → OnOk result A
on_failed A (Ok value) fails = absurd (cc fails)
on_failed A (Err error) fails = tt

pub output_stops : (kind : ErrorKind) → IsFileError (refused_by (io_refusal kind))
output_stops kinds.OutOfMemory = inr refl
output_stops _ = inl refl

pub if_failed : {T E : Type 0} (P : T → Type 0) (result : Result T E) → IsErr result → IfOk result P
if_failed P (Ok value) fails = absurd (cc fails)
if_failed P (Err error) fails = tt

pub both_ok : {T E A B C : Type 0} (result : Result T E) → OnOk result A → OnOk result B
    → (A → B → C) → OnOk result C
both_ok (Ok value) one two follows = follows one two
both_ok (Err error) one two follows = tt

pub step_runs : {D L : Type 0} {d : Ghosts D} {l : Ghosts L} (m : Answering D L)
    (names : List ScriptId) (command : Command) (step : Step) (before after : Option (List ℕ))
    (text : List ℕ)
    (old new : Running D L d l) → command ≡ commands.Step step → TakesStep m step text old new
    → new.time ≡ time_at_step old.time step
    → new.recorder.store.time ≡ time_at_step old.recorder.store.time step
    → RecorderFrame (recorder_view old.recorder) (recorder_view new.recorder)
    → Appends before after text → PrintsLine m names command before after old new
step_runs m names command step before after text old new is takes time log_time goes printed =
    grind arith

pub appends_none : (known : Option (List ℕ)) → Appends known known []
appends_none None = tt
appends_none (Some bytes) = sym (append-nil bytes)

low_byte : (byte : ℕ) → is_name_byte byte ≡ true → byte < 128
low_byte byte letter = grind (arith, nat_tests)

low_letters : (word : List ℕ) (size : ℕ) → list_all is_name_byte word ≡ true
    → AllByRecursion (λ byte. byte < 128) (before_mark 0 (word ++ replicate size 0))
low_letters [] zero all = tt
low_letters [] (suc size) all = tt
low_letters (byte ∷ word) size all =
    let parts = and_parts (is_name_byte byte) (list_all is_name_byte word) all in
    kept (byte == 0) _ (low_byte byte parts.0) (low_letters word size parts.1)
  where
    kept : (mark : Bool) (bytes : List ℕ) → byte < 128 → AllByRecursion (λ b. b < 128) bytes
        → AllByRecursion (λ b. b < 128) (if mark then [] else byte ∷ bytes)
    kept true bytes low rest = tt
    kept false bytes low rest = (low, rest)

-- The characters of an id are ASCII, so UTF-8 encodes each as itself.
letters_encoded : (name : ScriptId) → IsName name
    → encode_utf8_all (letters_of name) ≡ letters_of name
letters_encoded name is =
    let word = is.0 in
    let letters = and_parts _ (list_all is_name_byte word) is.1 in
    subst (λ (n : ScriptId). encode_utf8_all (letters_of n) ≡ letters_of n) (sym is.2)
    (encodes-IsAscii (letters_of (script_id word)) (IsAscii-from_all (letters_of (script_id word))
    (All-from_recursion (λ byte. byte < 128) (letters_of (script_id word))
    (low_letters word _ letters.1))))

line_of : (word other : List ℕ)
    → word ++ 32 ∷ (other ++ 10 ∷ []) ≡ word ++ codes " " ++ other ++ codes "\n"
line_of word other =
    sym (append_assoc (word ++ codes " ") other (codes "\n")
    ∙ append_assoc word (codes " ") (other ++ codes "\n"))

pub outcome_printed : (name : ScriptId) (ok : Bool) (word : List ℕ) (before after : Option (List ℕ))
    → IsName name → word ≡ outcome_word ok
    → Appends before after (encode_utf8_all (letters_of name) ++ 32 ∷ (word ++ 10 ∷ []))
    → Appends before after (outcome_line name ok)
outcome_printed name ok word before after is says output =
    grind (arith, letters_encoded name is, line_of (letters_of name) word)

pub name_is : (names : List ScriptId) (request : ℕ) (other : ScriptId) → AllByRecursion IsName names
    → request < length names
    → IsName (slice_index_or names request other)
name_is names request other ids here =
    All-get_or IsName names request other here (All-from_recursion IsName names ids)

pub range_parts : (first count sectors : ℕ) → range_answer first count sectors ≡ Ok tt
    → (0 < count) × (count ≤ 2048) × (first + count ≤ sectors)
range_parts first count sectors passes =
    (grind (arith, nat_tests), grind (arith, nat_tests), grind (arith, nat_tests))

pub byte_range : (sectors first count bytes : ℕ) → range_answer first count sectors ≡ Ok tt
    → bytes ≡ count * 512 → IsByteRange sectors first bytes
byte_range sectors first count bytes passes is =
    grind (arith, range_parts, mul-mod_left, mul-div_cancel)

pub filled : (new old : List ℕ) (n : ℕ) → length new ≡ length old → n ≡ length old
    → take n (new ++ drop (length new) old) ≡ new
filled new old n same size =
    ap (λ (rest : List ℕ). take n (new ++ rest)) (drop_all (length new) old (omega arith))
    ∙ ap (take n) (append-nil new)
    ∙ take_all n new (omega arith)

first_bytes-more : (n : ℕ) (bytes : List ℕ)
    → printed_bytes (n + 1) bytes
    ≡ printed_bytes n bytes ++ byte_text (slice_index_or bytes (n * 512) 0)
first_bytes-more n bytes = rw (add-one n)

pub byte_printed : (n : ℕ) (bytes : List ℕ) (byte : ℕ) (digits : List ℕ)
    (start now new : Option (List ℕ)) → Appends start now (printed_bytes n bytes)
    → byte ≡ slice_index_or bytes (n * 512) 0 → digits ≡ byte_text byte → Appends now new digits
    → Appends start new (printed_bytes (n + 1) bytes)
byte_printed n bytes byte digits start now new before here is more =
    grind (arith, first_bytes-more, appends_twice)

in_one : (head from plus long space rest end : List ℕ)
    → head ++ (from ++ (plus ++ (long ++ (space ++ (rest ++ end)))))
    ≡ head ++ from ++ plus ++ long ++ space ++ rest ++ end
in_one head from plus long space rest end = sym (simp append_assoc)

in_parts : (head from plus long space ok bytes end : List ℕ)
    → head ++ (from ++ (plus ++ (long ++ (space ++ ok)))) ++ bytes ++ end
    ≡ head ++ from ++ plus ++ long ++ space ++ (ok ++ bytes) ++ end
in_parts head from plus long space ok bytes end = simp append_assoc

pub failed_printed : {V : Type 0} (items : V → List ℕ) (first count : ℕ) (bytes : Option V)
    (before after : Option (List ℕ)) → bytes ≡ None
    → Appends before after (codes "read "
    ++ (decimal first ++ (codes "+" ++ (decimal count ++ codes " failed\n"))))
    → Appends before after (read_line first count (option_map items bytes))
failed_printed {V} items first count bytes before after none output =
    rw none (subst (Appends before after) (in_one (codes "read ") (decimal first) (codes "+")
    (decimal count) (codes " ") (codes "failed") (codes "\n")) output)

-- `begun` and `told` are what the output holds after the first and the second part of the line.
pub read_printed : {V : Type 0} (items : V → List ℕ) (first count : ℕ) (bytes : Option V) (read : V)
    (shown : List ℕ) (before begun told after : Option (List ℕ)) → bytes ≡ Some read
    → shown ≡ items read
    → Appends before begun (codes "read "
    ++ (decimal first ++ (codes "+" ++ (decimal count ++ codes " ok "))))
    → Appends begun told (printed_bytes count shown)
    → Appends told after (codes "\n")
    → Appends before after (read_line first count (option_map items bytes))
read_printed {V} items first count bytes read shown before begun told after some same head middle
    end =
    grind (
      arith,
      in_parts (codes "read ") (decimal first) (codes "+") (decimal count) (codes " ")
          (codes "ok ") (printed_bytes count (items read)) (codes "\n"),
      appends_twice before told after _
          (codes "\n") (appends_twice before begun told _ (printed_bytes count (items read)) head (rw (←
          same) middle)) end,
    )
