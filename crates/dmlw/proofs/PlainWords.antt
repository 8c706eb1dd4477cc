-- Proves how clap parses a command's name and plain words, which don't begin with a hyphen.
use Rattle.std.proofs.Common.{false, not, List, refl, sym, ◌&&◌, ◌≡◌, ◌∙◌}
use Rattle.std.proofs.Common.{◌==◌, ℕ, Bool, true, [], ◌∷◌, ◌++◌, Some, None, ap, cond, drop}
use Rattle.std.proofs.Common.{map, arith, fold, is_some, length, get_or, Option, ◌+◌, ◌<◌}
use Rattle.clap.proofs.OnLiterals.{clap_on_literals}
use Rattle.clap.proofs.WalkLemmas.{list_any-map}
use Rattle.clap.specs.declared.error.Error.{Error}
use Rattle.clap.specs.declared.error.kind.ErrorKind.TheVariants.{OutOfMemory}
use Rattle.clap.specs.Faults.{check_fault, defaults_fault, entered_fault, level_fault, settle_fault}
use Rattle.clap.specs.Faults.{step_fault, turn_fault, walk_fault}
use Rattle.clap.specs.Kinds.{Kinds, or_else}
use Rattle.clap.specs.Simple.{Shape, built, built_leaf, entered, names_of}
use Rattle.clap.specs.Walk.{Held, Names, Rule, Walk, arg_by_index, finished, idle, is_multiple}
use Rattle.clap.specs.Walk.{next_position, nothing_held, positional_held, rows_after, settled}
use Rattle.clap.specs.Walk.{to_positional, value, walk, walk_from, walked}
use Rattle.clap.specs.Words.{App, Row, Text, is_simple}
use Rattle.clap.specs.Words.{is_simple_and_free, kind_of, new_app, with_rule}
use Rattle.std.proofs.lemmas.Bool.{and_parts}
use Rattle.std.proofs.lemmas.List.{append_assoc, append-nil, drop_more}
use Rattle.std.specs.Cmp.Lexicographic.{same_text}
use Rattle.std.specs.List.{AllByRecursion, list_any}
use Rattle.dmlw.specs.CommandLine.{AsksForTask, EnteredCommand, EntersCommand, IsComplete, IsReadByClap}
use Rattle.dmlw.specs.CommandLine.{command_app, command_words, fault, has_explain, is_explain}
use Rattle.dmlw.specs.CommandLine.{is_positional, memory, missing, needed, program_app}
use Rattle.dmlw.specs.CommandLine.{with_arguments}
use Rattle.dmlw.specs.Commands.{AsksBy, all_names, arguments, first_named, is_same, name_of}
use Rattle.dmlw.specs.Commands.{name_text}
use Rattle.dmlw.specs.declared.program.Name.{Name}
use Rattle.dmlw.specs.declared.program.Name.TheVariants as names
use Rattle.dmlw.specs.declared.task.Task.{Task}
use Rattle.dmlw.specs.declared.task.Task.TheVariants as tasks

pub is_other : (x : ℕ) → not (x == 45) ≡ true → (x == 45) ≡ false
is_other x plain = grind arith

abbrev pub WordsArePlain : List Text → Type 0
WordsArePlain = AllByRecursion (λ word. is_positional word ≡ true)

-- The walk is before the argument at this place, and no argument waits for a value.
abbrev pub before_place : Held → ℕ → Walk
before_place h place =
    record { held = h; waiting = idle; position = place; is_trailing = false; stopped = None }

-- The argument takes one word, and the words after it may still be options.
abbrev pub takes_one : Option Rule → Bool
takes_one None = false
takes_one (Some rule) = not (is_multiple rule) && not rule.trailing_var_arg

abbrev pub held_with : List Rule → Option Rule → Text → Held → Held
held_with rules None word h = h
held_with rules (Some rule) word h = positional_held rules rule word h

abbrev pub place_after : Option Rule → ℕ → ℕ
place_after None place = place
place_after (Some rule) place = next_position rule place

abbrev pub have_places : List Rule → ℕ → List Text → Bool
have_places rules place [] = true
have_places rules place (word ∷ words) =
    takes_one (arg_by_index rules place)
    && have_places rules (place_after (arg_by_index rules place) place) words

abbrev pub held_after : List Rule → ℕ → List Text → Held → Held
held_after rules place [] h = h
held_after rules place (word ∷ words) h =
    held_after rules (place_after (arg_by_index rules place) place) words
    (held_with rules (arg_by_index rules place) word h)

abbrev pub place_behind : List Rule → ℕ → List Text → ℕ
place_behind rules place [] = place
place_behind rules place (word ∷ words) =
    place_behind rules (place_after (arg_by_index rules place) place) words

abbrev pub places_fault : Shape → ℕ → List Text → Held → Kinds
places_fault s place [] h = []
places_fault s place (word ∷ words) h =
    or_else (step_fault s place h value)
    (places_fault s (place_after (arg_by_index s.rules place) place) words
    (held_with s.rules (arg_by_index s.rules place) word h))

walked_plain : (rules : List Rule) (h : Held) (place : ℕ) (word : Text) → is_positional word ≡ true
    → walked rules [] (before_place h place) word
    ≡ to_positional rules (arg_by_index rules place) word (before_place h place) h
unfolding walked
walked_plain rules h place [] plain = refl
walked_plain rules h place (x ∷ xs) plain = let other = is_other x plain in simp other

turn_plain : (s : Shape) (h : Held) (place : ℕ) (word : Text) → is_positional word ≡ true
    → turn_fault s [] (before_place h place) word ≡ step_fault s place h value
turn_plain s h place [] plain = refl
turn_plain s h place (x ∷ xs) plain = let other = is_other x plain in simp other

taken : (rules : List Rule) (rule : Option Rule) (word : Text) (h : Held) (place : ℕ)
    → takes_one rule ≡ true
    → to_positional rules rule word (before_place h place) h
    ≡ before_place (held_with rules rule word h) (place_after rule place)
taken rules None word h place takes = absurd (cc)
taken rules (Some rule) word h place takes =
    let parts = and_parts (not (is_multiple rule)) (not rule.trailing_var_arg) takes in
    let one : is_multiple rule ≡ false = off (is_multiple rule) parts.0 in
    let apart : rule.trailing_var_arg ≡ false = off rule.trailing_var_arg parts.1 in
    rw (one, apart) refl
  where
    off : (b : Bool) → not b ≡ true → b ≡ false
    off false e = refl
    off true e = cc

one_step : (rules : List Rule) (h : Held) (place : ℕ) (word : Text) → is_positional word ≡ true
    → takes_one (arg_by_index rules place) ≡ true
    → walked rules [] (before_place h place) word
    ≡ before_place (held_with rules (arg_by_index rules place) word h)
    (place_after (arg_by_index rules place) place)
one_step rules h place word plain takes = grind (arith, walked_plain, arg_by_index)

walk_plain : (rules : List Rule) (words : List Text) (h : Held) (place : ℕ) → WordsArePlain words
    → have_places rules place words ≡ true
    → fold (walked rules []) (before_place h place) words
    ≡ before_place (held_after rules place words h) (place_behind rules place words)
walk_plain rules [] h place plain have = refl
walk_plain rules (word ∷ words) h place plain have =
    let parts =
    and_parts (takes_one (arg_by_index rules place))
    (have_places rules (place_after (arg_by_index rules place) place) words) have in
    grind (arith, one_step rules h place word plain.0 parts.0)
    ∙ walk_plain rules words (held_with rules (arg_by_index rules place) word h)
    (place_after (arg_by_index rules place) place) plain.1 parts.1

fault_plain : (s : Shape) (words : List Text) (h : Held) (place : ℕ) → WordsArePlain words
    → have_places s.rules place words ≡ true
    → walk_fault s [] (before_place h place) words ≡ places_fault s place words h
unfolding walk_fault
fault_plain s [] h place plain have = refl
fault_plain s (word ∷ words) h place plain have =
    let parts =
    and_parts (takes_one (arg_by_index s.rules place))
    (have_places s.rules (place_after (arg_by_index s.rules place) place) words) have in
    ap (λ (ks : Kinds). or_else ks
    (walk_fault s [] (walked s.rules [] (before_place h place) word) words))
    (turn_plain s h place word plain.0)
    ∙ ap (λ (w : Walk). or_else (step_fault s place h value) (walk_fault s [] w words))
    (one_step s.rules h place word plain.0 parts.0)
    ∙ ap (or_else (step_fault s place h value))
    (fault_plain s words (held_with s.rules (arg_by_index s.rules place) word h)
    (place_after (arg_by_index s.rules place) place) plain.1 parts.1)

-- The faults that clap finds only after it has walked over all words of a command.
abbrev pub last_fault : Shape → Held → Kinds
last_fault s end =
    or_else (settle_fault s.rules s.args_override_self end)
    (or_else (defaults_fault (settled s.rules end).rows s.rules)
    (check_fault s (finished s.rules end) false))

pub level_plain : (s : Shape) (words : List Text) → WordsArePlain words
    → have_places s.rules 1 words ≡ true
    → level_fault s [] nothing_held words false []
    ≡ or_else (places_fault s 1 words nothing_held)
    (last_fault s (held_after s.rules 1 words nothing_held))
level_plain s words plain have =
    ap (λ (ks : Kinds). or_else ks (last_fault s (walk s.rules [] nothing_held words).held))
    (fault_plain s words nothing_held 1 plain have)
    ∙ ap (λ (w : Walk). or_else (places_fault s 1 words nothing_held) (last_fault s w.held))
    (walk_plain s.rules words nothing_held 1 plain have)

pub rows_plain : (rules : List Rule) (words : List Text) → WordsArePlain words
    → have_places rules 1 words ≡ true
    → (walk rules [] nothing_held words).held ≡ held_after rules 1 words nothing_held
rows_plain rules words plain have =
    grind (arith, walk_plain rules words nothing_held 1 plain have)

-- When the walk meets a command, it keeps the words after the command's name for later.
abbrev pub stopped_at : Walk → Text × List Text → Walk
stopped_at w p = record w { stopped = Some p }

pub walk_stopped : (rules : List Rule) (names : Names) (w : Walk) (name : Text)
    (before words : List Text)
    → fold (walked rules names) (stopped_at w (name, before)) words
    ≡ stopped_at w (name, before ++ words)
unfolding walked
walk_stopped rules names w name before [] = rw append-nil refl
walk_stopped rules names w name before (word ∷ words) =
    walk_stopped rules names w name (before ++ word ∷ []) words ∙ rw append_assoc refl

pub fault_stopped : (s : Shape) (names : Names) (w : Walk) (name : Text) (before words : List Text)
    → walk_fault s names (stopped_at w (name, before)) words ≡ []
unfolding walk_fault walked
fault_stopped s names w name before [] = refl
fault_stopped s names w name before (word ∷ words) =
    fault_stopped s names w name (before ++ word ∷ []) words

abbrev pub level : Name → Shape
level name = built_leaf (command_app name).top

abbrev top : Shape
top = (built program_app).top

abbrev program_walk : List Text → Walk
program_walk words = walk top.rules (names_of (built program_app)) nothing_held words

abbrev fault_at : Walk → Kinds → Kinds
fault_at end found =
    or_else found (or_else (entered_fault (built program_app) end.stopped)
    (or_else (settle_fault top.rules top.args_override_self end.held)
    (or_else (defaults_fault (settled top.rules end.held).rows top.rules)
    (check_fault top (finished top.rules end.held)
    (is_some (entered (built program_app) end.stopped))))))

abbrev met : Name → List Text → Walk
met name words = stopped_at (walk_from nothing_held) (name_text name, words)

meets : (name : Name) → walked top.rules (names_of (built program_app)) (walk_from nothing_held)
    (name_text name) ≡ met name []
unfolding clap_on_literals
meets names.Record = refl
meets _ = refl

name_faultless : (name : Name)
    → turn_fault top (names_of (built program_app)) (walk_from nothing_held) (name_text name) ≡ []
unfolding clap_on_literals
name_faultless names.Record = refl
name_faultless _ = refl

walk_met : (name : Name) (words : List Text)
    → program_walk (name_text name ∷ words) ≡ met name words
walk_met name words =
    ap (λ (w : Walk). fold (walked top.rules (names_of (built program_app))) w words) (meets name)
    ∙ walk_stopped top.rules (names_of (built program_app)) (walk_from nothing_held)
    (name_text name) [] words

walk_faultless : (name : Name) (words : List Text)
    → walk_fault top (names_of (built program_app)) (walk_from nothing_held)
    (name_text name ∷ words) ≡ []
unfolding walk_fault
walk_faultless name words =
    grind (
      arith,
      name_faultless name,
      meets name,
      fault_stopped top (names_of (built
          program_app)) (walk_from nothing_held) (name_text name) [] words,
    )

fault_met : (name : Name) (words : List Text)
    → fault_at (met name words) []
    ≡ or_else (level_fault (level name) [] nothing_held words false []) []
unfolding clap_on_literals
fault_met names.Record words = refl
fault_met _ words = refl

entered_met : (name : Name) (words : List Text)
    → entered (built program_app) (Some (name_text name, words))
    ≡ Some (name_text name, rows_after (level name).rules [] words)
entered_met names.Record words = refl
entered_met _ words = refl

abbrev pub plain_rows : Name → List Text → List Row
plain_rows name words =
    finished (level name).rules (held_after (level name).rules 1 words nothing_held)

abbrev pub plain_fault : Name → List Text → Kinds
plain_fault name words =
    or_else (places_fault (level name) 1 words nothing_held)
    (last_fault (level name) (held_after (level name).rules 1 words nothing_held))

pub plain_enters : (name : Name) (program : Text) (words : List Text) → WordsArePlain words
    → have_places (level name).rules 1 words ≡ true
    → plain_fault name words ≡ []
    → EntersCommand (command_words program name words) (name_text name, plain_rows name words)
plain_enters name program words plain have faultless = record {
  faultless =
      ap (λ (ks : Kinds). fault_at (program_walk (name_text name ∷ words)) ks)
      (walk_faultless name words)
      ∙ ap (λ (w : Walk). fault_at w []) (walk_met name words)
      ∙ fault_met name words
      ∙ ap (λ (ks : Kinds). or_else ks []) (level_plain (level name) words plain have ∙ faultless);
  enters = ap (λ (w : Walk). entered (built program_app) w.stopped) (walk_met name words)
      ∙ entered_met name words
      ∙ ap (λ h. Some (name_text name, finished (level name).rules h))
      (rows_plain (level name).rules words plain have);
}

pub begun : (name : Name) (app : App) (text : Text) (words : List Text) → app ≡ new_app text
    → text ≡ name_text name → words ≡ arguments name → with_arguments app words ≡ command_app name
begun name app text words is named all = rw (is, named, all) refl

pub one_argument : {X : Type 0} (text_of : X → Text) (old new : App) (rule : Rule) (rows : List X)
    (i : ℕ) (d : X) → i < length rows → new ≡ with_rule old rule
    → rule ≡ needed (text_of (get_or rows i d))
    → with_arguments new (map text_of (drop (i + 1) rows))
    ≡ with_arguments old (map text_of (drop i rows))
one_argument text_of old new rule rows i d below adds is =
    rw (adds, is, drop_more rows i d below) refl

pub same_some : {A : Type 0} (x y : A) → Some x ≡ Some y → x ≡ y
same_some x y same = cc

chosen : (t : Bool) (name found : Name) (word : List ℕ) (other : Option Name)
    → (true ≡ t → word ≡ name_text name)
    → (other ≡ Some found → word ≡ name_text found) → cond t (Some name) other ≡ Some found
    → word ≡ name_text found
chosen true name found word other here there is =
    rw (← same_some name found is) (here refl)
chosen false name found word other here there is = there is

named_once : (name found : Name) (word : List ℕ) (other : Option Name)
    → (other ≡ Some found → word ≡ name_text found)
    → cond (is_same word (name_text name)) (Some name) other ≡ Some found → word ≡ name_text found
named_once name found word other there is =
    chosen (is_same word (name_text name)) name found word other
    (same_text word (name_text name)) there is

named_in : (names : List Name) (word : List ℕ) (found : Name)
    → first_named word names ≡ Some found → word ≡ name_text found
named_in [] word found is = cc
named_in (name ∷ names) word found is =
    named_once name found word (first_named word names) (named_in names word found) is

pub named : (word : List ℕ) (found : Name) → name_of word ≡ Some found → word ≡ name_text found
named = named_in all_names

pub named_again : (name : Name) → name_of (name_text name) ≡ Some name
named_again names.Record = refl
named_again _ = refl

pub one_name : (word : List ℕ) (first second : Name) → word ≡ name_text first
    → word ≡ name_text second → first ≡ second
one_name word first second is_first is_second = grind (arith, same_some, named_again)

shown_for_memory : (name : Name) (rows : List Row) (error : Error) → kind_of error ≡ OutOfMemory
    → AsksBy name rows (tasks.Show error)
shown_for_memory names.Record rows error is = is
shown_for_memory _ rows error is = is

pub read_asks : (words : List Text) (task : Task) (entered : EnteredCommand) → IsReadByClap words task
    → EntersCommand words entered → IsComplete entered
    → AsksForTask entered task
read_asks words (tasks.Show error) entered (memory is) enters complete =
    grind (arith, shown_for_memory)
read_asks words (tasks.Show error) entered (fault among) enters complete =
    absurd (rw enters.faultless at among)
read_asks words (tasks.Show error) entered (missing faultless incomplete is) enters complete =
    absurd (incomplete entered enters complete)
read_asks words task entered read enters complete =
    rw (← same_some _ _ (sym read.1.1 ∙ enters.enters)) read.1.2

pub asks_for : (name : Name) (rows : List Row) (task : Task) → AsksForTask (name_text name, rows) task
    → AsksBy name rows task
asks_for name rows task asks = grind (arith, one_name)

-- For a simple app, clap's contracts compute the result of a parse from the words.
pub is_simple_app : is_simple program_app ≡ true
unfolding clap_on_literals
is_simple_app = refl

-- As above, and no argument has a rule about another argument.
pub is_free_program : is_simple_and_free program_app ≡ true
unfolding clap_on_literals
is_free_program = refl

pub explains_of : {X : Type 0} (text_of : X → List ℕ) (words rest : List X) → rest ≡ drop 1 words
    → list_any (λ word. is_explain (text_of word)) rest ≡ has_explain (map text_of words)
explains_of text_of [] rest is = ap (list_any (λ word. is_explain (text_of word))) is
explains_of text_of (x ∷ xs) rest is =
    ap (list_any (λ word. is_explain (text_of word))) is ∙ list_any-map is_explain text_of xs
