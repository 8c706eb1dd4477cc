-- Proves that words that don't begin with a hyphen are parsed as the command that they name.
use Rattle.std.proofs.Common.{◌≡◌, ◌∙◌, ◌==◌, ℕ, List, [], ◌∷◌, Option, Some, Err, arith, ap}
use Rattle.std.proofs.Common.{false, inl, inr, not, refl, sym, true}
use Rattle.std.proofs.lemmas.Bool.{and_parts}
use Rattle.std.proofs.lemmas.Bool.Decides.{nat_tests}
use Rattle.std.specs.Char.{is_ascii_digit}
use Rattle.std.specs.Io.KnownBytes.{Keeps}
use Rattle.std.specs.List.{filter, list_any}
use Rattle.clap.specs.declared.error.Error.{Error}
use Rattle.clap.specs.declared.error.kind.ErrorKind.TheVariants.{OutOfMemory}
use Rattle.clap.specs.Words.{Row, Text, kind_of}
use Rattle.refusals.specs.Errors.{memory_error}
use Rattle.refusals.specs.Words.{IsNumber, is_number, number_value}
use Rattle.dmlw_commands.specs.declared.ending.Ended.{Ended}
use Rattle.dmlw_commands.specs.Ends.{EndsAsCommand, exit_after, exit_by}
use Rattle.dmlw_commands.specs.Judgements.{AnswersOf, Meaning, exit_answered, file as unjudged}
use Rattle.dmlw_commands.specs.Lists.{Shows, ShowsLog}
use Rattle.dmlw_commands.specs.Makings.{MakesImage, Making, unmade}
use Rattle.dmlw_commands.specs.Records.{ScriptKind, RecordsScript, file}
use Rattle.dmlw_commands.specs.Seen.{Seen}
use Rattle.dmlw.specs.CommandLine.{DoesWords, EntersCommand, ReadsTask, IsReadByClap, command_words}
use Rattle.dmlw.specs.CommandLine.{has_explain, is_explain, is_positional, without_explain}
use Rattle.dmlw.specs.Commands.{AsksBy, EndsTask, HasWords, name_text}
use Rattle.dmlw.specs.Endings.{EndsText}
use Rattle.dmlw.specs.declared.program.Name.{Name}
use Rattle.dmlw.specs.declared.program.Name.TheVariants as names
use Rattle.dmlw.specs.declared.task.Task.{Task}
use Rattle.dmlw.proofs.PlainWords.{WordsArePlain, asks_for, have_places, is_other, level, plain_enters}
use Rattle.dmlw.proofs.PlainWords.{plain_fault, plain_rows, read_asks, same_some}

not_explain : (word : List ℕ) → is_positional word ≡ true → is_explain word ≡ false
not_explain [] plain = refl
not_explain (x ∷ xs) plain = let other = is_other x plain in simp other

kept_words : (words : List Text) → WordsArePlain words
    → filter (λ word. not (is_explain word)) words ≡ words
kept_words [] plain = refl
kept_words (word ∷ words) plain =
    let same = not_explain word plain.0 in let rest = kept_words words plain.1 in simp (same, rest)

none_explains : (words : List Text) → WordsArePlain words → list_any is_explain words ≡ false
none_explains [] plain = refl
none_explains (word ∷ words) plain =
    let same = not_explain word plain.0 in
    let rest = none_explains words plain.1 in simp (same, rest)

name_plain : (name : Name) → is_positional (name_text name) ≡ true
name_plain names.Record = refl
name_plain _ = refl

stays_plain : (name : Name) (program : Text) (words : List Text) → WordsArePlain words
    → without_explain (command_words program name words) ≡ command_words program name words
stays_plain name program words plain =
    grind (arith, kept_words (name_text name ∷ words) (name_plain name, plain))

stays_silent : (name : Name) (program : Text) (words : List Text) → WordsArePlain words
    → has_explain (command_words program name words) ≡ false
stays_silent name program words plain =
    none_explains (name_text name ∷ words) (name_plain name, plain)

-- No command's name is `help`, so clap parses the words.
pub names_help : (name : Name) (program : Text) (words : List Text) (task : Task)
    → ReadsTask (command_words program name words) task
    → IsReadByClap (command_words program name words) task
names_help name program [] task read = read
names_help names.Record program (word ∷ []) task read = read
names_help _ program (word ∷ []) task read = read
names_help name program (word ∷ next ∷ words) task read = read

plain_asks : (name : Name) (program : Text) (words : List Text) (rows : List Row) (task : Task)
    → WordsArePlain words
    → EntersCommand (command_words program name words) (name_text name, rows) → HasWords name rows
    → ReadsTask (without_explain (command_words program name words)) task → AsksBy name rows task
plain_asks name program words rows task plain enters has read =
    let plainly = rw (stays_plain name program words plain) at read in
    asks_for name rows task
    (read_asks (command_words program name words) task (name_text name, rows)
    (names_help name program words task plainly) enters (name, refl, has))

-- The words of the command `name` ask for a task, which ends so.
abbrev pub DoesPlain : Name → List Text → Seen → Seen → Ended → Type 0
DoesPlain name words old new ended =
    (task : Task) × AsksBy name (plain_rows name words) task × EndsTask task false old new ended

-- For words of a command, the hypotheses from `have_places` to `HasWords` hold by computation.
pub plain_does : (name : Name) (program : Text) (words : List Text) (old new : Seen)
    (ended : Ended) → WordsArePlain words → have_places (level name).rules 1 words ≡ true
    → plain_fault name words ≡ [] → HasWords name (plain_rows name words)
    → DoesWords (command_words program name words) old new ended
    → DoesPlain name words old new ended
plain_does name program words old new ended plain have faultless has does = (
  does.task,
  plain_asks name program words (plain_rows name words) does.task plain
      (plain_enters name program words plain have faultless) has does.read,
  rw (stays_silent name program words plain) at does.ends,
)

pub memory_ends : (error : Error) (old new : Seen) (ended : Ended) → kind_of error ≡ OutOfMemory
    → EndsText (kind_of error) false old new ended → EndsText OutOfMemory false old new ended
memory_ends error old new ended is ends = rw is at ends

pub none_made : {T : Type 0} (making : (List ℕ → Option (List ℕ)) → Making T) (read name : List ℕ)
    (old new : Seen) (ended : Ended)
    → (Keeps old.out new.out → (making old.files).fails old.out new.out memory_error)
    → EndsText OutOfMemory false old new ended → MakesImage making read name old new (Err memory_error)
none_made making read name old new ended fails ends = record {
  came = (unmade (fails (ends.silent refl)) ends.unwritten, ends.kept);
  apart = λ is. ends.unwritten;
}

pub recording_refused : {S : Type 0} (kind : ScriptKind S) (script log : Text) (old new : Seen)
    (ended : Ended) → EndsText OutOfMemory false old new ended
    → EndsAsCommand (RecordsScript kind script log) exit_after false old new ended
recording_refused kind script log old new ended ends = record {
  done = Err memory_error;
  did = none_made _ script log old new ended (λ kept. file memory_error (inr refl)) ends;
  tells = ends.tells;
}

pub showing_refused : (shows : Shows) (log : Text) (old new : Seen) (ended : Ended)
    → EndsText OutOfMemory false old new ended
    → EndsAsCommand (ShowsLog shows log) exit_by false old new ended
showing_refused shows log old new ended ends = record {
  done = Err memory_error;
  did = record {
    printed = inr (inr refl, ends.silent refl);
    unwritten = ends.unwritten;
    kept = ends.kept;
  };
  tells = ends.tells;
}

pub answer_refused : {A : Type 0} (meaning : Meaning A) (script : Text) (moment : ℕ) (image : Text)
    (old new : Seen) (ended : Ended) → EndsText OutOfMemory false old new ended
    → EndsAsCommand (AnswersOf meaning script moment image) (exit_answered meaning) false old new ended
answer_refused meaning script moment image old new ended ends = record {
  done = Err memory_error;
  did = record {
    printed = inl (unjudged memory_error (inr refl) (λ usable. refl), ends.silent refl);
    unwritten = ends.unwritten;
    kept = ends.kept;
  };
  tells = ends.tells;
}

digit_plain : (x : ℕ) → is_ascii_digit x ≡ true → not (x == 45) ≡ true
digit_plain x digit = grind (arith, nat_tests)

pub number_plain : (m : Text) (n : ℕ) → IsNumber m n → is_positional m ≡ true
number_plain [] n number = refl
number_plain (x ∷ xs) n number = grind (arith, and_parts, digit_plain)

pub same_number : (m word : Text) (moment n : ℕ) → IsNumber m moment → IsNumber word n
    → Some m ≡ Some word → moment ≡ n
same_number m word moment n given read is =
    sym given.1 ∙ ap number_value (same_some m word is) ∙ read.1

pub number_named : (m word : Text) (moment : ℕ) → IsNumber m moment → Some m ≡ Some word
    → is_number word ≡ false → ⊥
number_named m word moment given is none =
    let number : is_number word ≡ true = ap is_number (sym (same_some m word is)) ∙ given.0 in cc
