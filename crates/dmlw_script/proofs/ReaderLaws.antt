-- Proves for any reader that reading lines gives a script exactly if they are the script's lines.
use Rattle.std.proofs.Common.{Option, Some, None, Ok, Err, ⊎_elim, refl, ap, ◌∙◌, sym, arith, ◌≡◌}
use Rattle.std.proofs.Common.{ℕ, ◌+◌, Bool, cond, true, false, not, List, [], ◌∷◌, ◌++◌, length}
use Rattle.std.proofs.Common.{append_assoc}
use Rattle.std.specs.Prelude.{map, Result, IfOk}
use Rattle.std.proofs.lemmas.Bool.{cases_Bool, cond-false, cond-true}
use Rattle.std.proofs.lemmas.List.{append-nil}
use Rattle.std.specs.List.{AllByRecursion, AllZip}
use Rattle.refusals.specs.declared.refusal.Refusal.{Refusal}
use Rattle.refusals.specs.declared.refusal.Refusal.TheVariants.{BadLine, Memory}
use Rattle.refusals.specs.declared.run_error.Fault.{Fault}
use Rattle.std.proofs.Common.{subst}
use Rattle.dmlw_script.specs.Language.{memory_fault, AreLines, Language, Means}
use Rattle.dmlw_script.specs.inside.Drafts.{◌>>=◌}
use Rattle.dmlw_script.specs.inside.Readers.{and_then, at_line, line_by, read_by, step_if, IsFault}
use Rattle.dmlw_script.specs.inside.Readers.{ReadsLine}
use Rattle.dmlw_script.specs.Words.{is_ascii_line, is_skipped, unskipped}

pub bind_ok : {A B : Type 0} (r : Result A Refusal) (f : A → Result B Refusal) (y : B)
    → (r >>= f) ≡ Ok y → (x : A) × (r ≡ Ok x) × (f x ≡ Ok y)
bind_ok (Ok x) f y e = (x, refl, e)
bind_ok (Err refusal) f y e = absurd (cc)

pub made_ok : {A B : Type 0} (r : Result A Refusal) (f : A → B) (y : B)
    → (r >>= λ x. Ok (f x)) ≡ Ok y → (x : A) × (r ≡ Ok x) × (f x ≡ y)
made_ok (Ok x) f y e = (x, refl, cc)
made_ok (Err refusal) f y e = absurd (cc)

pub made_err : {A B : Type 0} (r : Result A Refusal) (f : A → B) (refusal : Refusal)
    → (r >>= λ x. Ok (f x)) ≡ Err refusal → r ≡ Err refusal
made_err (Ok x) f refusal e = absurd (cc)
made_err (Err other) f refusal e = cc

pub bind_at : {A B : Type 0} (r : Result A Refusal) (f : A → Result B Refusal) (x : A)
    (y : Result B Refusal) → r ≡ Ok x → f x ≡ y → (r >>= f) ≡ y
bind_at (Ok z) f x y e g = let same : z ≡ x = cc in ap f same ∙ g
bind_at (Err refusal) f x y e g = absurd (cc)

pub barred_ok : {A E : Type 0} (t : Bool) (bad : E) (r : Result A E) (y : A)
    → cond t (Err bad) r ≡ Ok y → (t ≡ false) × (r ≡ Ok y)
barred_ok true bad r y e = absurd (cc)
barred_ok false bad r y e = (refl, e)

pub barred_err : {A : Type 0} (t : Bool) (bad : Refusal) (x : A) (refusal : Refusal)
    → cond t (Err bad) (Ok x) ≡ Err refusal → (t ≡ true) × (bad ≡ refusal)
barred_err true bad x refusal e = (refl, cc)
barred_err false bad x refusal e = absurd (cc)

pub all_append : {A : Type 0} (P : A → Type 0) (xs ys : List A) → AllByRecursion P xs
    → AllByRecursion P ys → AllByRecursion P (xs ++ ys)
all_append P [] ys all others = others
all_append P (x ∷ xs) ys all others = (all.0, all_append P xs ys all.1 others)

pub all_map : {A B : Type 0} (P : A → Type 0) (Q : B → Type 0) (f : A → B)
    → ((x : A) → P x → Q (f x)) → (xs : List A) → AllByRecursion P xs
    → AllByRecursion Q (map f xs)
all_map P Q f each [] all = tt
all_map P Q f each (x ∷ xs) all = (each x all.0, all_map P Q f each xs all.1)

pub line_ok : {A : Type 0} (number : ℕ) (r : Result A Refusal) (x : A) → at_line number r ≡ Ok x
    → r ≡ Ok x
line_ok number (Ok y) x e = cc
line_ok number (Err refusal) x e = absurd (cc)

pub line_err : {A : Type 0} (number : ℕ) (r : Result A Refusal) (fault : Fault)
    → at_line number r ≡ Err fault →
    (fault.line ≡ Some number) × (r ≡ Err fault.refusal)
line_err number (Ok x) fault e = absurd (cc)
line_err number (Err refusal) fault e = grind arith

pub then_ok : {A B : Type 0} (r : Result A Fault) (f : A → Result B Fault) (y : B)
    → and_then r f ≡ Ok y → (x : A) × (r ≡ Ok x) × (f x ≡ Ok y)
then_ok (Ok x) f y e = (x, refl, e)
then_ok (Err fault) f y e = absurd (cc)

pub memory_is : (fault : Fault) (line : Option ℕ) → fault.line ≡ line → line ≡ None
    → fault.refusal ≡ Memory → fault ≡ memory_fault
memory_is fault line is none memory = grind arith

abbrev pub fold : {S W : Type 0} → (S → W → Result S Refusal) → S → List W → Result S Refusal
fold step s [] = Ok s
fold step s (w ∷ ws) = step s w >>= λ t. fold step t ws

pub fold_append : {S W : Type 0} (step : S → W → Result S Refusal) (s t : S) (ws more : List W)
    → fold step s ws ≡ Ok t →
    fold step s (ws ++ more) ≡ fold step t more
fold_append step s t [] more e = grind arith
fold_append step s t (w ∷ ws) more e =
    let r = bind_ok (step s w) _ t e in
    bind_at _ _ _ _ r.1 (fold_append step r.0 t ws more r.2)

-- Reading stops in the state `s`: the next line is refused, or the text can't end here.
abbrev pub StopsAt : {S A : Type 0} → (S → List ℕ → Result S Refusal) → (S → Result A Refusal) → S
    → List (List ℕ) → Refusal → Type 0
StopsAt step finish s [] refusal = finish s ≡ Err refusal
StopsAt step finish s (line ∷ more) refusal = step s line ≡ Err refusal

-- Reading stops with `fault` in the state `reached`, after the lines `before`.
pub record Stopped {S A : Type 0} (step : S → List ℕ → Result S Refusal)
    (finish : S → Result A Refusal) (s : S) (number : ℕ)
    (lines : List (List ℕ)) (fault : Fault) : Type 0 where
  pub before : List (List ℕ)
  pub more : List (List ℕ)
  pub reached : S
  pub split : lines ≡ before ++ more
  pub gone : fold step s before ≡ Ok reached
  pub place : fault.line ≡ Some (number + length before)
  pub ends : StopsAt step finish reached more fault.refusal

module _ {S A : Type 0} (step : S → List ℕ → Result S Refusal) (finish : S → Result A Refusal) where
  pub reads_line : (s t : S) (number : ℕ) (line : List ℕ) (lines : List (List ℕ))
      → step s line ≡ Ok t →
      read_by step finish s number (line ∷ lines) ≡ read_by step finish t (number + 1) lines
  reads_line s t number line lines e = grind arith

  pub reads_on : (s t : S) (number : ℕ) (before rest : List (List ℕ)) → fold step s before ≡ Ok t →
      read_by step finish s number (before ++ rest)
      ≡ read_by step finish t (number + length before) rest
  reads_on s t number [] rest e =
      grind arith
  reads_on s t number (line ∷ before) rest e =
      let r = bind_ok (step s line) _ t e in
      reads_line s r.0 number line (before ++ rest) r.1
      ∙ reads_on r.0 t (number + 1) before rest r.2
      ∙ ap (λ n. read_by step finish t n rest) (omega arith)

  pub read_leads : (s : S) (number : ℕ) (lines : List (List ℕ)) (x : A)
      → read_by step finish s number lines ≡ Ok x → (fold step s lines >>= finish) ≡ Ok x
  read_leads s number [] x e = line_ok number (finish s) x e
  read_leads s number (line ∷ lines) x e =
      let r = then_ok (at_line number (step s line)) _ x e in
      let first = line_ok number (step s line) r.0 r.1 in
      let others =
      bind_ok (fold step r.0 lines) finish x (read_leads r.0 (number + 1) lines x r.2) in
      bind_at _ _ _ _ (bind_at _ _ _ _ first others.1) others.2

  pub leads_read : (s : S) (number : ℕ) (lines : List (List ℕ)) (x : A)
      → (fold step s lines >>= finish) ≡ Ok x → read_by step finish s number lines ≡ Ok x
  leads_read s number lines x e =
      let r = bind_ok (fold step s lines) finish x e in
      ap (λ ls. read_by step finish s number ls) (sym (append-nil lines))
      ∙ reads_on s r.0 number lines [] r.1 ∙ ap (at_line (number + length lines)) r.2

  stopped_later : (s t : S) (number : ℕ) (line : List ℕ) (lines : List (List ℕ)) (fault : Fault)
      → step s line ≡ Ok t →
      Stopped step finish t (number + 1) lines fault
      → Stopped step finish s number (line ∷ lines) fault
  stopped_later s t number line lines fault is f = record {
    before = line ∷ f.before;
    more = f.more;
    reached = f.reached;
    split = rw f.split;
    gone = bind_at _ _ _ _ is f.gone;
    place = f.place ∙ ap Some (omega arith);
    ends = f.ends;
  }

  pub stopped : (s : S) (number : ℕ) (lines : List (List ℕ)) (fault : Fault)
      → read_by step finish s number lines ≡ Err fault →
      Stopped step finish s number lines fault
  stopped s number [] fault e =
      let h = line_err number (finish s) fault e in
      record {
        before = [];
        more = [];
        reached = s;
        split = refl;
        gone = refl;
        place = h.0 ∙ ap Some (omega arith);
        ends = h.1;
      }
  stopped s number (line ∷ lines) fault e =
      here (step s line) refl e (λ t again. stopped t (number + 1) lines fault again)
    where
      here : (r : Result S Refusal) → step s line ≡ r
          → and_then (at_line number r) (λ t. read_by step finish t (number + 1) lines)
          ≡ Err fault →
          ((t : S) → read_by step finish t (number + 1) lines ≡ Err fault
          → Stopped step finish t (number + 1) lines fault) →
          Stopped step finish s number (line ∷ lines) fault
      here (Ok t) is again later = stopped_later s t number line lines fault is (later t again)
      here (Err refusal) is again later =
          let same : record { line = Some number; refusal = refusal } ≡ fault = cc in
          record {
            before = [];
            more = line ∷ lines;
            reached = s;
            split = refl;
            gone = refl;
            place = sym (ap (λ (f : Fault). f.line) same) ∙ ap Some (omega arith);
            ends = grind (arith, is, same);
          }

pub kept_skipped : (line : List ℕ) (lines : List (List ℕ)) → is_skipped line ≡ true
    → unskipped (line ∷ lines) ≡ unskipped lines
kept_skipped line lines e = cond-false _ _ _ (ap not e)

pub kept_said : (line : List ℕ) (lines : List (List ℕ)) → is_skipped line ≡ false
    → unskipped (line ∷ lines) ≡ line ∷ unskipped lines
kept_said line lines e = cond-true _ _ _ (ap not e)

-- Each line is ASCII without zero bytes, and the unskipped lines have the meanings `ws`.
pub record LinesMean {W : Type 0} (Says : List ℕ → W → Type 0) (lines : List (List ℕ))
    (ws : List W) : Type 0 where
  pub plain : AllByRecursion (λ line. is_ascii_line line ≡ true) lines
  pub says : AllZip Says (unskipped lines) ws

pub tells_skipped : {W : Type 0} (Says : List ℕ → W → Type 0) (line : List ℕ)
    (lines : List (List ℕ)) (ws : List W) → is_ascii_line line ≡ true
    → is_skipped line ≡ true → LinesMean Says lines ws → LinesMean Says (line ∷ lines) ws
tells_skipped Says line lines ws plain skipped h = grind (arith, kept_skipped)

pub tells_said : {W : Type 0} (Says : List ℕ → W → Type 0) (line : List ℕ) (lines : List (List ℕ))
    (w : W) (ws : List W) → is_ascii_line line ≡ true →
    is_skipped line ≡ false → Says line w → LinesMean Says lines ws → LinesMean Says (line ∷ lines) (w ∷ ws)
tells_said Says line lines w ws plain kept says h = grind (arith, kept_said)

-- The reader of one kind of script, and the facts from which the laws of its texts follow.
-- `S` is the state of the reader, `W` the meaning of a line, and `A` the script.
pub record ReaderLaw (S W A : Type 0) : Type 1 where
  pub parse : List ℕ → Option W
  pub language : Language W A
  pub parse_says : (line : List ℕ) (w : W) → parse line ≡ Some w → Means language line w
  pub says_parse : (line : List ℕ) (w : W) → Means language line w → parse line ≡ Some w
  pub start : S
  pub step : S → W → Result S Refusal
  pub finish : S → Result A Refusal
  pub IsFine : W → Type 0
  pub fine_said : (line : List ℕ) (w : W) → Means language line w → IsFine w
  pub IsBegun : S → Type 0
  pub lines_so_far : S → List W
  pub start_begun : IsBegun start
  pub start_lines : lines_so_far start ≡ []
  pub step_grows : (s t : S) (w : W) → step s w ≡ Ok t → IsFine w → IsBegun s
      → IsBegun t × (lines_so_far t ≡ lines_so_far s ++ w ∷ [])
  pub finish_grows : (s : S) (plan : A) → finish s ≡ Ok plan → IsBegun s
      → (lines_so_far s ≡ language.lines_of plan) × language.IsScript plan
  pub script_again : (plan : A) → language.IsScript plan
      → (fold step start (language.lines_of plan) >>= finish) ≡ Ok plan

module _ {S W A : Type 0} (r : ReaderLaw S W A) where
  abbrev pub takes : S → List ℕ → Result S Refusal
  takes s line = line_by r.parse r.step s line

  abbrev pub reads : ℕ → List (List ℕ) → Result A Fault
  reads number lines = read_by takes r.finish r.start number lines

  pub strange_line : (s : S) (line : List ℕ) → is_ascii_line line ≡ false
      → takes s line ≡ Err BadLine
  strange_line s line e = cond-true _ _ _ (ap not e)

  pub skipped_line : (s : S) (line : List ℕ) → is_ascii_line line ≡ true → is_skipped line ≡ true
      → takes s line ≡ Ok s
  skipped_line s line plain skipped = cond-false _ _ _ (ap not plain) ∙ cond-true _ _ _ skipped

  pub kept_line : (s : S) (line : List ℕ) → is_ascii_line line ≡ true → is_skipped line ≡ false
      → takes s line ≡ step_if r.step s (r.parse line)
  kept_line s line plain kept = cond-false _ _ _ (ap not plain) ∙ cond-false _ _ _ kept

  -- Reading `lines` in the state `s` adds the meanings `said`, and ends in the state `t`.
  record Grown (s t : S) (lines : List (List ℕ)) : Type 0 where
    said : List W
    tells : LinesMean (Means r.language) lines said
    begun : r.IsBegun t
    more : r.lines_so_far t ≡ r.lines_so_far s ++ said

  line_grown : (s t u : S) (line : List ℕ) (lines : List (List ℕ)) → takes s line ≡ Ok t
      → r.IsBegun s → (r.IsBegun t → Grown t u lines) → Grown s u (line ∷ lines)
  line_grown s t u line lines e begun others =
      by_tests (is_ascii_line line) (is_skipped line) refl refl
    where
      heard : (o : Option W) → is_ascii_line line ≡ true → is_skipped line ≡ false
          → r.parse line ≡ o → step_if r.step s o ≡ Ok t → Grown s u (line ∷ lines)
      heard None plain kept is step = absurd (cc)
      heard (Some w) plain kept is step =
          grind (
            arith,
            tells_said,
            append_assoc (r.lines_so_far s) (w ∷ []) (others (r.step_grows
                s t w step (r.fine_said line w (r.parse_says line w is)) begun).0).said,
          )

      by_tests : (plain skipped : Bool) → is_ascii_line line ≡ plain → is_skipped line ≡ skipped
          → Grown s u (line ∷ lines)
      by_tests false skipped strange is =
          absurd (let bad = sym (strange_line s line strange) ∙ e in cc)
      by_tests true false plain kept =
          heard (r.parse line) plain kept refl (sym (kept_line s line plain kept) ∙ e)
      by_tests true true plain skipped =
          grind (arith, tells_skipped)

  all_grown : (s t : S) (lines : List (List ℕ)) → fold takes s lines ≡ Ok t → r.IsBegun s
      → Grown s t lines
  all_grown s t [] e begun =
      let same : s ≡ t = cc in
      rw (← same) (record {
        said = [];
        tells = record { plain = tt; says = tt };
        begun = begun;
        more = sym (append-nil (r.lines_so_far s));
      })
  all_grown s t (line ∷ lines) e begun =
      let f = bind_ok (takes s line) _ t e in
      line_grown s f.0 t line lines f.1 begun (all_grown f.0 t lines f.2)

  -- Reading `lines` ends in the state `s`, which holds the meanings of all of them.
  pub record Reached (lines : List (List ℕ)) (s : S) : Type 0 where
    pub gone : fold takes r.start lines ≡ Ok s
    pub tells : LinesMean (Means r.language) lines (r.lines_so_far s)
    pub begun : r.IsBegun s

  pub reached : (lines : List (List ℕ)) (s : S) → fold takes r.start lines ≡ Ok s
      → Reached lines s
  reached lines s gone =
      let g = all_grown r.start s lines gone r.start_begun in
      let same : g.said ≡ r.lines_so_far s =
      sym (g.more ∙ rw r.start_lines) in
      record {
        gone = gone;
        tells = rw (← same) g.tells;
        begun = g.begun;
      }

  pub reached_spells : (lines : List (List ℕ)) (s : S) (plan : A) → Reached lines s
      → r.finish s ≡ Ok plan → AreLines r.language lines plan
  reached_spells lines s plan here finish =
      let grown = r.finish_grows s plan finish here.begun in
      record {
        plain = here.tells.plain;
        says =
            subst (λ ws. AllZip (Means r.language) (unskipped lines) ws) grown.0 here.tells.says;
        script = grown.1;
      }

  pub lines_spell : (number : ℕ) (lines : List (List ℕ)) (plan : A) → reads number lines ≡ Ok plan
      → AreLines r.language lines plan
  lines_spell number lines plan e =
      let f =
      bind_ok (fold takes r.start lines) r.finish plan
      (read_leads takes r.finish r.start number lines plan e) in
      reached_spells lines f.0 plan (reached lines f.0 f.1) f.2

  told_lines : (s t : S) (lines : List (List ℕ)) (ws : List W)
      → AllByRecursion (λ line. is_ascii_line line ≡ true) lines
      → AllZip (Means r.language) (unskipped lines) ws → fold r.step s ws ≡ Ok t → fold takes s lines ≡ Ok t
  told_lines s t [] [] plain says e = e
  told_lines s t [] (w ∷ ws) plain says e = absurd says
  told_lines s t (line ∷ lines) ws plain says e =
      ⊎_elim
      (λ (skipped : is_skipped line ≡ true).
      bind_at _ _ _ _ (skipped_line s line plain.0 skipped) (told_lines s t lines ws plain.1
      (rw (← kept_skipped line lines skipped) says) e))
      (λ (kept : is_skipped line ≡ false).
      said ws kept (rw (← kept_said line lines kept) says) e (λ q vs tells again.
      told_lines q t lines vs plain.1 tells again))
      (cases_Bool (is_skipped line))
    where
      said : (vs : List W) → is_skipped line ≡ false → AllZip (Means r.language) (line ∷ unskipped lines) vs
          → fold r.step s vs ≡ Ok t
          → ((q : S) (more : List W) → AllZip (Means r.language) (unskipped lines) more
          → fold r.step q more ≡ Ok t → fold takes q lines ≡ Ok t)
          → fold takes s (line ∷ lines) ≡ Ok t
      said [] kept tells again others = absurd tells
      said (w ∷ vs) kept tells again others =
          grind (arith, bind_ok (r.step s w) _ t again, bind_at)

  pub one_told : (lines : List (List ℕ)) (vs ws : List W) → AllZip (Means r.language) lines vs
      → AllZip (Means r.language) lines ws → vs ≡ ws
  one_told [] [] [] says again = refl
  one_told [] [] (w ∷ ws) says again = absurd again
  one_told (line ∷ lines) (v ∷ vs) [] says again = absurd again
  one_told (line ∷ lines) (v ∷ vs) (w ∷ ws) says again =
      let first = sym (r.says_parse line v says.0) ∙ r.says_parse line w again.0 in
      let others = one_told lines vs ws says.1 again.1 in cc
  one_told lines vs ws says again = absurd says

  pub spelled_lines : (number : ℕ) (lines : List (List ℕ)) (plan : A) → AreLines r.language lines plan
      → reads number lines ≡ Ok plan
  spelled_lines number lines plan spells =
      let f =
      bind_ok (fold r.step r.start (r.language.lines_of plan)) r.finish plan
      (r.script_again plan spells.script) in
      leads_read takes r.finish r.start number lines plan
      (bind_at _ _ _ _ (told_lines r.start f.0 lines (r.language.lines_of plan)
      spells.plain spells.says f.1) f.2)

  pub one_script : (lines : List (List ℕ)) (plan other : A) → AreLines r.language lines plan
      → AreLines r.language lines other → plan ≡ other
  one_script lines plan other spells again =
      let both = sym (spelled_lines 1 lines plan spells) ∙ spelled_lines 1 lines other again in cc

  pub one_said : (line : List ℕ) (v w : W) → (Means r.language) line v → (Means r.language) line w → v ≡ w
  one_said line v w says again =
      let both = sym (r.says_parse line v says) ∙ r.says_parse line w again in cc

  pub end_is_script : (s : S) (number : ℕ) (lines : List (List ℕ))
      → read_by takes r.finish s number [] ≡ reads 1 lines → IfOk (r.finish s) r.language.IsScript
  end_is_script s number lines e = by_end (r.finish s) e
    where
      by_end : (end : Result A Refusal) → at_line number end ≡ reads 1 lines
          → IfOk end r.language.IsScript
      by_end (Ok plan) same = (lines_spell 1 lines plan (sym same)).script
      by_end (Err refusal) same = tt

  no_fault_read : (lines : List (List ℕ)) (plan : A) (fault : Fault) (line : Option ℕ)
      → fault.line ≡ line → IsFault line fault (reads 1 lines) → AreLines r.language lines plan
      → fault ≡ memory_fault
  no_fault_read lines plan fault None is read spells = memory_is fault None is refl read
  no_fault_read lines plan fault (Some number) is read spells =
      absurd (let both = sym (spelled_lines 1 lines plan spells) ∙ read in cc)

  pub found : (lines : List (List ℕ)) (answer : Result A Fault) → ReadsLine answer (reads 1 lines)
      → IfOk answer (λ plan. AreLines r.language lines plan)
  found lines (Ok plan) read = lines_spell 1 lines plan read
  found lines (Err fault) read = tt

  -- If the lines are the script's, the reader returns the script, or reports out of memory.
  pub only : (IsAnswer : Result A Fault → Type 0) (lines : List (List ℕ)) (plan : A)
      (answer : Result A Fault) → ((script : A) → script ≡ plan → IsAnswer (Ok script))
      → ((fault : Fault) → fault ≡ memory_fault → IsAnswer (Err fault))
      → ReadsLine answer (reads 1 lines) → AreLines r.language lines plan → IsAnswer answer
  only IsAnswer lines plan (Ok script) same memory read spells =
      same script (let both = sym read ∙ spelled_lines 1 lines plan spells in cc)
  only IsAnswer lines plan (Err fault) same memory read spells =
      memory fault (no_fault_read lines plan fault fault.line refl read spells)
