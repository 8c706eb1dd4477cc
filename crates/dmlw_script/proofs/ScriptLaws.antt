-- Proves the laws of a whole recorder's script, such as `requests_end_once`, that are in
-- `laws.rt`.
use Rattle.std.proofs.Common.{◌≡◌, ℕ, zero, suc, ◌+◌, ◌<◌, ◌≤◌, Bool, true, false, not, cond, List}
use Rattle.std.proofs.Common.{[], ◌∷◌, ◌++◌, length, Option, Some, None, ⊎_elim, get_or, refl, ap}
use Rattle.std.proofs.Common.{◌∙◌, sym, subst, arith, append_assoc}
use Rattle.std.specs.Prelude.{is_some, slice_get}
use Rattle.std.specs.List.{AllByRecursion, AllZip}
use Rattle.std.proofs.lemmas.Bool.{cases_lt, eq-eqb}
use Rattle.std.proofs.lemmas.List.{append-nil, length-append, length-map}
use Rattle.std.proofs.lemmas.List.Elements.{filter-append}
use Rattle.std.proofs.lemmas.Slice.Zip.{AllZip-long}
use Rattle.std.proofs.lemmas.Option.{slice_get-get_or, slice_get_past}
use Rattle.dmlw_script.proofs.ReaderLaws.{kept_said, kept_skipped, one_script}
use Rattle.std.proofs.Math.Bool.{or-true}
use Rattle.bio.specs.Requests.{bytes_of}
use Rattle.dmlw_script.specs.declared.command.Command.{Command}
use Rattle.dmlw_script.specs.declared.command.Command.TheVariants as commands
use Rattle.dmlw_script.specs.declared.script_id.ScriptId.{ScriptId}
use Rattle.dmlw_script.specs.LineMeaning.{LineMeaning}
use Rattle.dmlw_script.specs.LineMeaning as parsed_lines
use Rattle.dmlw_script.specs.Grammar.{canonical_text, IsLineOf, ParsesAs, IsTextOf, AreLinesOf}
use Rattle.dmlw_script.specs.Words.{unskipped_numbers, lines_of, command_line, is_ascii_line}
use Rattle.dmlw_script.specs.Words.{is_skipped, unskipped}
use Rattle.dmlw_script.specs.Plans.{count_after_command, count_after_head, head_count, head_of}
use Rattle.dmlw_script.specs.Plans.{lines_after_head, lines_of_body, is_ended, lines_of_script}
use Rattle.dmlw_script.specs.Plans.{top_of, with_ending, IsWellFormed, IsPlan, CanFollow}
use Rattle.dmlw_script.specs.Plans.{ScriptValue}
use Rattle.dmlw_script.proofs.CanonicalTextLaws.{spelling_spells}
use Rattle.dmlw_script.proofs.FaultLaws.{longer}
use Rattle.dmlw_script.proofs.RecorderLaws.{recorder}
use Rattle.dmlw_script.proofs.LineParserLaws.{said_kept}

pub same_from_spelling : (plan other : ScriptValue) → IsPlan plan → IsPlan other
    → canonical_text plan ≡ canonical_text other → plan ≡ other
same_from_spelling plan other is_plan is_other same =
    one_script recorder (lines_of (canonical_text plan)) plan other (spelling_spells plan is_plan)
    (subst (λ (text : List ℕ). IsTextOf text other) (sym same) (spelling_spells other is_other))

kept_without : (before after : List (List ℕ)) (line : List ℕ) → is_skipped line ≡ true
    → unskipped (before ++ line ∷ after) ≡ unskipped (before ++ after)
kept_without before after line skipped = grind (arith, filter-append, kept_skipped)

plain_with : (before after : List (List ℕ)) (line : List ℕ) → is_ascii_line line ≡ true
    → AllByRecursion (λ l. is_ascii_line l ≡ true) (before ++ after)
    → AllByRecursion (λ l. is_ascii_line l ≡ true) (before ++ line ∷ after)
plain_with [] after line plain all = (plain, all)
plain_with (first ∷ before) after line plain all = (all.0, plain_with before after line plain all.1)

plain_without : (before after : List (List ℕ)) (line : List ℕ)
    → AllByRecursion (λ l. is_ascii_line l ≡ true) (before ++ line ∷ after)
    → AllByRecursion (λ l. is_ascii_line l ≡ true) (before ++ after)
plain_without [] after line all = all.1
plain_without (first ∷ before) after line all = (all.0, plain_without before after line all.1)

pub spells_with : (before after : List (List ℕ)) (line : List ℕ) (plan : ScriptValue)
    → is_ascii_line line ≡ true → is_skipped line ≡ true
    → AreLinesOf (before ++ after) plan → AreLinesOf (before ++ line ∷ after) plan
spells_with before after line plan plain skipped spells = grind (arith, plain_with, kept_without)

pub spells_without : (before after : List (List ℕ)) (line : List ℕ) (plan : ScriptValue)
    → is_skipped line ≡ true
    → AreLinesOf (before ++ line ∷ after) plan → AreLinesOf (before ++ after) plan
spells_without before after line plan skipped spells = grind (arith, plain_without, kept_without)

-- Line `n` is the unskipped line at the index `i`, if the first of `lines` is line `number`.
record KeptAt (number : ℕ) (lines : List (List ℕ)) (i n : ℕ) : Type 0 where
  pub before : List (List ℕ)
  pub line : List ℕ
  pub more : List (List ℕ)
  pub split : lines ≡ before ++ line ∷ more
  pub number_is : n ≡ number + length before
  pub after_byte : length (unskipped before) ≡ i
  pub there : slice_get (unskipped lines) i ≡ Some line

get_behind : {A : Type 0} (front rest : List A) (place : ℕ)
    → slice_get (front ++ rest) (place + length front) ≡ slice_get rest place
get_behind [] rest place = ap (slice_get rest) (omega arith)
get_behind (s ∷ front) rest place = grind (arith, get_behind front rest place)

kept_behind : (number : ℕ) (first : List ℕ) (lines kept : List (List ℕ)) (i j n : ℕ)
    → ((ls : List (List ℕ)) → unskipped (first ∷ ls) ≡ kept ++ unskipped ls) → j ≡ i + length kept
    → KeptAt (number + 1) lines i n → KeptAt number (first ∷ lines) j n
kept_behind number first lines kept i j n is place rest =
    let at : n ≡ number + 1 + length rest.before = rest.number_is in
    let count : length (unskipped rest.before) ≡ i = rest.after_byte in
    let both = length-append kept (unskipped rest.before) in
    record {
      before = first ∷ rest.before;
      line = rest.line;
      more = rest.more;
      split = rw rest.split;
      number_is = omega arith;
      after_byte = ap length (is rest.before) ∙ both ∙ omega arith;
      there =
          rw (is lines) (ap (slice_get (kept ++ unskipped lines)) place ∙ get_behind kept
          (unskipped lines) i ∙ rest.there);
    }

kept_first : (number : ℕ) (first : List ℕ) (lines : List (List ℕ)) (n : ℕ)
    → is_skipped first ≡ false → Some number ≡ Some n → KeptAt number (first ∷ lines) zero n
kept_first number first lines n kept same =
    let is : number ≡ n = cc in
    record {
      before = [];
      line = first;
      more = lines;
      split = refl;
      number_is = sym is ∙ omega arith;
      after_byte = refl;
      there = rw (kept_said first lines kept);
    }

kept_step : (number : ℕ) (first : List ℕ) (lines : List (List ℕ)) (i n : ℕ) (t : Bool)
    → is_skipped first ≡ t
    → slice_get (cond t (unskipped_numbers (number + 1) lines)
    (number ∷ unskipped_numbers (number + 1) lines)) i ≡ Some n
    → ((j : ℕ) → slice_get (unskipped_numbers (number + 1) lines) j ≡ Some n
    → KeptAt (number + 1) lines j n) → KeptAt number (first ∷ lines) i n
kept_step number first lines i n true skipped e rest =
    kept_behind number first lines [] i i n (λ ls. kept_skipped first ls skipped) (omega arith)
    (rest i e)
kept_step number first lines zero n false kept e rest = kept_first number first lines n kept e
kept_step number first lines (suc i) n false kept e rest =
    kept_behind number first lines (first ∷ []) i (suc i) n (λ ls. kept_said first ls kept)
    (omega arith) (rest i e)

kept_at : (number : ℕ) (lines : List (List ℕ)) (i n : ℕ)
    → slice_get (unskipped_numbers number lines) i ≡ Some n → KeptAt number lines i n
kept_at number [] i n e = absurd (cc)
kept_at number (first ∷ lines) i n e =
    kept_step number first lines i n (is_skipped first) refl e
    (λ j found. kept_at (number + 1) lines j n found)

said_at : (lines : List (List ℕ)) (ss : List LineMeaning) (i : ℕ) (line : List ℕ)
    → AllZip ParsesAs lines ss → slice_get lines i ≡ Some line
    → (s : LineMeaning) × (slice_get ss i ≡ Some s) × ParsesAs line s
said_at [] [] i line says e = absurd (cc)
said_at (first ∷ lines) (s ∷ ss) zero line says e = grind arith
said_at (first ∷ lines) (s ∷ ss) (suc i) line says e = said_at lines ss i line says.1 e
said_at lines ss i line says e = absurd (says)

length-head : (plan : ScriptValue)
    → length (head_of plan.data_disk plan.log_disk plan.log_size) ≡ head_count plan
length-head plan = grind (arith, length-append, length-map)

pub line_says : (text : List ℕ) (plan : ScriptValue) (place number : ℕ) → IsTextOf text plan
    → command_line text (place + head_count plan) ≡ Some number
    → IsLineOf (lines_of text) plan place number
line_says text plan place number spells e =
    let found = kept_at 1 (lines_of text) (place + head_count plan) number e in
    let head = head_of plan.data_disk plan.log_disk plan.log_size in
    let said =
    said_at (unskipped (lines_of text)) (lines_of_script plan)
    (place + head_count plan) found.line spells.says found.there in
    let at : number ≡ 1 + length found.before = found.number_is in
    record {
      before = found.before;
      line = found.line;
      more = found.more;
      split = found.split;
      number_is = omega arith;
      after_byte = found.after_byte;
      parsed = said.0;
      command =
          sym (get_behind head (lines_after_head plan) place) ∙ rw (length-head plan) said.1;
      says = said.2;
    }

length-unskipped_numbers : (number : ℕ) (lines : List (List ℕ))
    → length (unskipped_numbers number lines) ≡ length (unskipped lines)
length-unskipped_numbers number [] = refl
length-unskipped_numbers number (line ∷ lines) =
    counted_step (is_skipped line) number line (unskipped_numbers (number + 1) lines)
    (unskipped lines) (length-unskipped_numbers (number + 1) lines)
  where
    counted_step : (t : Bool) (n : ℕ) (l : List ℕ) (ns : List ℕ) (ks : List (List ℕ))
        → length ns ≡ length ks → length (cond t ns (n ∷ ns)) ≡ length (cond (not t) (l ∷ ks) ks)
    counted_step true n l ns ks same = same
    counted_step false n l ns ks same = ap suc same

length-lines_of_body : (names : List ScriptId) (before : ℕ) (body : List Command)
    → length (lines_of_body names before body) ≡ length body
length-lines_of_body names before [] = refl
length-lines_of_body names before (command ∷ body) =
    ap suc (length-lines_of_body names (count_after_command before command) body)

length-with_ending : (ending : Option (List ℕ)) (ss : List LineMeaning)
    → length (with_ending ending ss) ≡ length ss + cond (is_some ending) 1 0
length-with_ending None ss = omega arith
length-with_ending (Some picks) ss = length-append ss (parsed_lines.Crash picks ∷ [])

length-unskipped : (text : List ℕ) (plan : ScriptValue) → IsTextOf text plan
    → length (unskipped_numbers 1 (lines_of text)) ≡ count_after_head plan + head_count plan
length-unskipped text plan spells =
    let numbers = length-unskipped_numbers 1 (lines_of text) in
    let says =
    AllZip-long ParsesAs (unskipped (lines_of text)) (lines_of_script plan) spells.says in
    let body = length-lines_of_body plan.names 0 plan.commands in
    let ending = length-with_ending plan.ending (lines_of_body plan.names 0 plan.commands) in
    let parts =
    length-append (head_of plan.data_disk plan.log_disk plan.log_size)
    (lines_after_head plan) in
    let head = length-head plan in
    omega arith

pub line_found : (text : List ℕ) (plan : ScriptValue) (place : ℕ) → IsTextOf text plan
    → place < count_after_head plan
    → (number : ℕ) × (command_line text (place + head_count plan) ≡ Some number)
line_found text plan place spells within =
    let all = length-unskipped text plan spells in (
      get_or (unskipped_numbers 1 (lines_of text)) (place + head_count plan) 0,
      slice_get-get_or (unskipped_numbers 1 (lines_of text)) (place + head_count plan) 0
          (omega arith),
    )

-- A place after the last command and the crash has no line.
pub lined : (text : List ℕ) (plan : ScriptValue) (place : ℕ) → IsTextOf text plan
    → count_after_head plan ≤ place → command_line text (place + head_count plan) ≡ None
lined text plan place spells past = grind (arith, length-unskipped, slice_get_past)

kept_more : (before between : List (List ℕ)) (line : List ℕ) → is_skipped line ≡ false
    → length (unskipped before) < length (unskipped (before ++ line ∷ between))
kept_more before between line kept = grind (arith, filter-append, kept_said, length-append)

not_later : (lines : List (List ℕ)) (plan : ScriptValue) (place m n : ℕ)
    → IsLineOf lines plan place m → IsLineOf lines plan place n → n ≤ m
not_later lines plan place m n a b =
    let here : m ≡ length a.before + 1 = a.number_is in
    let there : n ≡ length b.before + 1 = b.number_is in
    ⊎_elim
    (λ (less : m < n).
    let more =
    longer a.before (a.line ∷ a.more) b.before (b.line ∷ b.more) (sym a.split ∙ b.split)
    (omega arith) in
    let rest : a.line ∷ a.more ≡ more.line ∷ more.tail = more.rest_is in
    let line : a.line ≡ more.line = cc in
    let kept : is_skipped more.line ≡ false =
    ap is_skipped (sym line) ∙ said_kept a.line a.parsed a.says in
    let grown = kept_more a.before more.between more.line kept in
    let counted = ap (λ (ls : List (List ℕ)). length (unskipped ls)) more.long_is in
    let few : length (unskipped a.before) ≡ place + head_count plan = a.after_byte in
    let many : length (unskipped b.before) ≡ place + head_count plan = b.after_byte in
    absurd (omega arith))
    (λ (no_less : n ≤ m). no_less)
    (cases_lt m n)

pub one_line : (lines : List (List ℕ)) (plan : ScriptValue) (place m n : ℕ)
    → IsLineOf lines plan place m → IsLineOf lines plan place n → m ≡ n
one_line lines plan place m n a b =
    let up = not_later lines plan place m n a b in
    let down = not_later lines plan place n m b a in
    omega arith

well_formed_at : (bytes sectors : ℕ) (done before : List Command) (command : Command)
    (rest : List Command) → IsWellFormed bytes sectors done (before ++ command ∷ rest)
    → CanFollow bytes sectors (done ++ before) command
well_formed_at bytes sectors done [] command rest well_formed = grind (arith, append-nil)
well_formed_at bytes sectors done (first ∷ before) command rest well_formed =
    grind (
      arith,
      well_formed_at bytes sectors (done ++ first ∷ []) before command rest
          well_formed.1,
      append_assoc,
    )

pub can_follow : (plan : ScriptValue) (before : List Command) (command : Command)
    (rest : List Command) → IsPlan plan → plan.commands ≡ before ++ command ∷ rest
    → CanFollow (bytes_of plan.log_size) (top_of plan.data_disk) before command
can_follow plan before command rest is split = grind (arith, well_formed_at)

ended_behind : (request : ℕ) (before between : List Command)
    → is_ended request (before ++ commands.Complete request ∷ between) ≡ true
ended_behind request [] between = grind (arith, eq-eqb)
ended_behind request (first ∷ before) between =
    grind (arith, ended_behind request before between, or-true)

pub ends_once : (plan : ScriptValue) (before between rest : List Command) (request : ℕ)
    → IsPlan plan
    → plan.commands ≡ before
    ++ commands.Complete request ∷ (between ++ commands.Complete request ∷ rest) → ⊥
ends_once plan before between rest request is split =
    let regrouped : plan.commands ≡ (before ++ commands.Complete request ∷ between)
    ++ commands.Complete request ∷ rest =
    grind (arith, append_assoc) in
    let may =
    can_follow plan (before ++ commands.Complete request ∷ between)
    (commands.Complete request) rest is regrouped in
    let closed = ended_behind request before between in
    let not_ended = may.1 in
    cc
