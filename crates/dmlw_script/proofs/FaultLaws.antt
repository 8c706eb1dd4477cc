-- Proves that a text is a script's text, or has exactly one first fault.
-- If a reader refuses the text at a line, it reports this fault.
use Rattle.std.proofs.Common.{◌≡◌, ℕ, ◌+◌, ◌<◌, ◌≤◌, Bool, true, false, List, [], ◌∷◌, ◌++◌, length}
use Rattle.std.proofs.Common.{Option, Some, None, Ok, Err, ◌⊎◌, inl, ⊎_elim, refl, ap, ◌∙◌, sym}
use Rattle.std.proofs.Common.{subst, arith, append_assoc, inr}
use Rattle.std.specs.Prelude.{Result, IfErr}
use Rattle.std.proofs.lemmas.Bool.{cases_lt}
use Rattle.std.proofs.lemmas.List.{append-nil}
use Rattle.refusals.specs.declared.run_error.Fault.{Fault}
use Rattle.refusals.specs.declared.refusal.Refusal.{Refusal}
use Rattle.refusals.specs.declared.refusal.Refusal.TheVariants.{BadLine}
use Rattle.dmlw_script.specs.Words.{is_ascii_line, is_skipped, unskipped}
use Rattle.dmlw_script.specs.Language.{after_all, bad_line, refused, AreLines, Begins, FaultAfter}
use Rattle.dmlw_script.specs.Language.{IsAfter, IsFault as Faulty, IsFirst, IsLineFault, Means}
use Rattle.dmlw_script.specs.Language.{LineOrder}
use Rattle.dmlw_script.specs.inside.Readers.{and_then, read_by, step_if, IsFault, ReadsLine, at_line}
use Rattle.dmlw_script.proofs.ReaderLaws.{reads, spelled_lines, takes, Reached, ReaderLaw, reached}
use Rattle.dmlw_script.proofs.ReaderLaws.{skipped_line, strange_line, reached_spells, kept_line}
use Rattle.dmlw_script.proofs.ReaderLaws.{lines_spell, one_said, one_script, one_told, memory_is}
use Rattle.dmlw_script.proofs.ReaderLaws.{reads_on, stopped, StopsAt}

-- `long_part` is `short_part` and at least one more line, with which `rest` begins.
pub record Longer (short_part : List (List ℕ)) (rest long_part : List (List ℕ)) : Type 0 where
  pub line : List ℕ
  pub between : List (List ℕ)
  pub tail : List (List ℕ)
  pub long_is : long_part ≡ short_part ++ line ∷ between
  pub rest_is : rest ≡ line ∷ tail

pub longer : (a x b y : List (List ℕ)) → a ++ x ≡ b ++ y → length a < length b → Longer a x b
longer [] x (line ∷ b) y same less =
    record { line = line; between = b; tail = b ++ y; long_is = refl; rest_is = same }
longer (first ∷ a) x (line ∷ b) y same less =
    let firsts : first ≡ line = cc in
    let rests : a ++ x ≡ b ++ y = cc in
    let more = longer a x b y rests (omega arith) in
    let long = more.long_is in
    record {
      line = more.line;
      between = more.between;
      tail = more.tail;
      long_is = cc;
      rest_is = more.rest_is;
    }
longer a x b y same less = absurd (omega arith)

same_parts : (a x b y : List (List ℕ)) → a ++ x ≡ b ++ y → length a ≡ length b → (a ≡ b) × (x ≡ y)
same_parts [] x [] y same lens = (refl, same)
same_parts (first ∷ a) x (line ∷ b) y same lens =
    let firsts : first ≡ line = cc in
    let rests : a ++ x ≡ b ++ y = cc in
    let more = same_parts a x b y rests (omega arith) in
    let heads = more.0 in
    (cc, more.1)
same_parts a x b y same lens = absurd (omega arith)

-- From the state `s`, reading the lines `more` ends with the script `plan`.
pub record CompletesScript {S W A : Type 0} (r : ReaderLaw S W A) (s : S) (number : ℕ) : Type 0 where
  pub more : List (List ℕ)
  pub plan : A
  pub read : read_by (takes r) r.finish s number more ≡ Ok plan

-- The facts about a reader from which the laws of its first faults follow.
-- A value of type `P` is how much of a script was read, as far as the next line depends on it.
pub record ReaderFaults {S W A : Type 0} (r : ReaderLaw S W A) (P : Type 0) : Type 1 where
  pub order : LineOrder W A P
  pub prefix_of : S → P
  pub after_lines : (s : S) → r.IsBegun s
      → after_all order.next order.start (r.lines_so_far s) ≡ prefix_of s
  pub step_refused : (s : S) (w : W) (refusal : Refusal) → r.step s w ≡ Err refusal
      → ((order.MayFollow (prefix_of s) w → ⊥) × (BadLine ≡ refusal))
      ⊎ (order.MayFollow (prefix_of s) w × (plan : A) × (r.finish s ≡ Ok plan)
      × (order.refusal plan w ≡ Some refusal))
  pub completes : (s : S) (number : ℕ) → r.IsBegun s → CompletesScript r s number
  pub unfinished_is : (s : S) (refusal : Refusal) → r.finish s ≡ Err refusal → refusal ≡ BadLine

module _ {S W A P : Type 0} (r : ReaderLaw S W A) (f : ReaderFaults r P) where
  read_behind : (before more : List (List ℕ)) (s : S) → Reached r before s
      → reads r 1 (before ++ more) ≡ read_by (takes r) r.finish s (1 + length before) more
  read_behind before more s here = reads_on (takes r) r.finish r.start s 1 before more here.gone

  -- Lines that a reader accepts are a prefix of a script, because `completes` adds what is missing.
  reached_begins : (before : List (List ℕ)) (s : S) → Reached r before s → Begins r.language before
  reached_begins before s here =
      let c = f.completes s (1 + length before) here.begun in
      record {
        more = c.more;
        plan = c.plan;
        spells =
            lines_spell r 1 (before ++ c.more) c.plan (read_behind before c.more s here ∙ c.read);
      }

  refused_ends : (before : List (List ℕ)) (s : S) (line : List ℕ) (refusal : Refusal)
      → Reached r before s → takes r s line ≡ Err refusal → Begins r.language (before ++ line ∷ []) → ⊥
  refused_ends before s line refusal here step begins =
      let rest = line ∷ begins.more in
      let spells : AreLines r.language (before ++ rest) begins.plan =
      subst (λ ls. AreLines r.language ls begins.plan)
      (append_assoc before (line ∷ []) begins.more) begins.spells in
      let read =
      sym (spelled_lines r 1 (before ++ rest) begins.plan spells) ∙ read_behind before rest s here
      ∙ ap (λ t. and_then (at_line (1 + length before) t)
      (λ u. read_by (takes r) r.finish u (1 + length before + 1) begins.more)) step in
      cc

  unfinished : (before : List (List ℕ)) (s : S) (refusal : Refusal) → Reached r before s
      → r.finish s ≡ Err refusal → (plan : A) → AreLines r.language before plan → ⊥
  unfinished before s refusal here finish plan spells =
      let read =
      sym (spelled_lines r 1 before plan spells) ∙ ap (reads r 1) (sym (append-nil before))
      ∙ read_behind before [] s here
      ∙ ap (at_line (1 + length before)) finish in
      cc

  never_after : (before : List (List ℕ)) (s : S) (line : List ℕ) (w : W) → Reached r before s
      → Means r.language line w → (f.order.MayFollow (f.prefix_of s) w → ⊥) → (v : W) → IsAfter r.language f.order before line v → ⊥
  never_after before s line w here says never v at =
      let same =
      one_told r (unskipped before) at.said (r.lines_so_far s) at.before_says here.tells.says in
      let stands =
      subst (λ x. f.order.MayFollow (after_all f.order.next f.order.start at.said) x)
      (one_said r line v w at.says says) at.stands in
      never (subst (λ p. f.order.MayFollow p w)
      (ap (after_all f.order.next f.order.start) same ∙ f.after_lines s here.begun) stands)

  said_fault : (before : List (List ℕ)) (s : S) (line : List ℕ) (w : W) (refusal : Refusal)
      → Reached r before s → is_ascii_line line ≡ true → Means r.language line w
      → r.step s w ≡ Err refusal → IsLineFault r.language f.order before line refusal
  said_fault before s line w refusal here plain says e =
      ⊎_elim
      (λ (h : (f.order.MayFollow (f.prefix_of s) w → ⊥) × (BadLine ≡ refusal)).
      subst (λ (x : Refusal). IsLineFault r.language f.order before line x) h.1
      (bad_line (never_after before s line w here says h.0)))
      (λ (h : f.order.MayFollow (f.prefix_of s) w × (plan : A) × (r.finish s ≡ Ok plan)
      × (f.order.refusal plan w ≡ Some refusal)).
      refused w h.1 refusal (record {
        plain = plain;
        says = says;
        said = r.lines_so_far s;
        before_says = here.tells.says;
        stands = rw (f.after_lines s here.begun) h.0;
      })
      (reached_spells r before s h.1 here h.2) h.3)
      (f.step_refused s w refusal e)

  refused_line : (before : List (List ℕ)) (s : S) (line : List ℕ) (refusal : Refusal)
      → Reached r before s → takes r s line ≡ Err refusal → IsLineFault r.language f.order before line refusal
  refused_line before s line refusal here e =
      by_tests (is_ascii_line line) (is_skipped line) refl refl
    where
      bad : BadLine ≡ refusal → ((w : W) → IsAfter r.language f.order before line w → ⊥)
          → IsLineFault r.language f.order before line refusal
      bad same none =
          rw (← same) (bad_line none)

      heard : (o : Option W) → is_ascii_line line ≡ true → r.parse line ≡ o
          → step_if r.step s o ≡ Err refusal → IsLineFault r.language f.order before line refusal
      heard None plain is step =
          let never : (w : W) → IsAfter r.language f.order before line w → ⊥ =
          λ w at. (let both = sym is ∙ r.says_parse line w at.says in cc) in
          let same : BadLine ≡ refusal = cc in bad same never
      heard (Some w) plain is step =
          said_fault before s line w refusal here plain (r.parse_says line w is) step

      by_tests : (plain skipped : Bool) → is_ascii_line line ≡ plain → is_skipped line ≡ skipped
          → IsLineFault r.language f.order before line refusal
      by_tests false skipped strange is =
          let never : (w : W) → IsAfter r.language f.order before line w → ⊥ =
          λ w at. (let both = sym strange ∙ at.plain in cc) in
          let both = sym (strange_line r s line strange) ∙ e in
          let same : BadLine ≡ refusal = cc in bad same never
      by_tests true true plain skipped = grind (arith, skipped_line)
      by_tests true false plain kept =
          heard (r.parse line) plain refl
          (sym (kept_line r s line plain kept) ∙ e)

  fault_behind : (before more : List (List ℕ)) (s : S) (refusal : Refusal) → Reached r before s
      → StopsAt (takes r) r.finish s more refusal → FaultAfter r.language f.order before more refusal
  fault_behind before [] s refusal here ends =
      (f.unfinished_is s refusal ends, unfinished before s refusal here ends)
  fault_behind before (line ∷ more) s refusal here ends =
      (refused_ends before s line refusal here ends, refused_line before s line refusal here ends)

  pub first_fault : (lines : List (List ℕ)) (fault : Fault) (number : ℕ)
      → fault.line ≡ Some number → reads r 1 lines ≡ Err fault
      → IsFirst r.language f.order lines number fault.refusal
  first_fault lines fault number is e =
      let at = stopped (takes r) r.finish r.start 1 lines fault e in
      let here = reached r at.before at.reached at.gone in
      let place : number ≡ 1 + length at.before = (let both = sym is ∙ at.place in cc) in
      record {
        before = at.before;
        more = at.more;
        split = at.split;
        place = place ∙ omega arith;
        begins = reached_begins at.before at.reached here;
        fault = fault_behind at.before at.more at.reached fault.refusal here at.ends;
      }

  pub fault_found : (lines : List (List ℕ)) (answer : Result A Fault)
      → ReadsLine answer (reads r 1 lines)
      → IfErr answer (λ fault. Faulty r.language f.order lines fault fault.line)
  fault_found lines (Ok plan) read = tt
  fault_found lines (Err fault) read = by_line fault.line refl read
    where
      by_line : (line : Option ℕ) → fault.line ≡ line → IsFault line fault (reads r 1 lines)
          → Faulty r.language f.order lines fault line
      by_line None is it = memory_is fault None is refl it
      by_line (Some number) is it = first_fault lines fault number is it

  pub script_or_fault : (lines : List (List ℕ)) → ((plan : A) × AreLines r.language lines plan)
      ⊎ ((line : ℕ) × (refusal : Refusal) × IsFirst r.language f.order lines line refusal)
  script_or_fault lines = by_reading (reads r 1 lines) refl
    where
      by_reading : (read : Result A Fault) → reads r 1 lines ≡ read
          → ((plan : A) × AreLines r.language lines plan)
          ⊎ ((line : ℕ) × (refusal : Refusal) × IsFirst r.language f.order lines line refusal)
      by_reading (Ok plan) e = inl (plan, lines_spell r 1 lines plan e)
      by_reading (Err fault) e =
          let at = stopped (takes r) r.finish r.start 1 lines fault e in
          inr (
            1 + length at.before,
            fault.refusal,
            first_fault lines fault (1 + length at.before) at.place e,
          )

  one_reason : (before : List (List ℕ)) (line : List ℕ) (x y : Refusal)
      → IsLineFault r.language f.order before line x → IsLineFault r.language f.order before line y → x ≡ y
  one_reason before line x y (bad_line never) (bad_line again) = refl
  one_reason before line x y (bad_line never) (refused w plan why at spells is) =
      absurd (never w at)
  one_reason before line x y (refused w plan why at spells is) (bad_line never) =
      absurd (never w at)
  one_reason before line x y (refused v plan why at spells is)
      (refused w other reason there again it) =
      let both : Some x ≡ Some y =
      sym is ∙ ap (f.order.refusal plan) (one_said r line v w at.says there.says)
      ∙ ap (λ (p : A). f.order.refusal p w) (one_script r before plan other spells again) ∙ it in
      cc

  begins_before : (before more : List (List ℕ)) → Begins r.language (before ++ more) → Begins r.language before
  begins_before before more begins = record {
    more = more ++ begins.more;
    plan = begins.plan;
    spells =
        subst (λ ls. AreLines r.language ls begins.plan) (append_assoc before more begins.more)
        begins.spells;
  }

  one_behind : (before more : List (List ℕ)) (x y : Refusal) → FaultAfter r.language f.order before more x
      → FaultAfter r.language f.order before more y → x ≡ y
  one_behind before [] x y fault other =
      fault.0 ∙ sym other.0
  one_behind before (line ∷ more) x y fault other =
      one_reason before line x y fault.1 other.1

  -- A prefix of a script can't go beyond a fault.
  none_longer : (a x b : List (List ℕ)) (refusal : Refusal) → FaultAfter r.language f.order a x refusal
      → Longer a x b → Begins r.language b → ⊥
  none_longer a x b refusal fault more begins =
      let there : FaultAfter r.language f.order a (more.line ∷ more.tail) refusal =
      subst (λ ls. FaultAfter r.language f.order a ls refusal) more.rest_is fault in
      let regrouped : b ≡ (a ++ more.line ∷ []) ++ more.between =
      more.long_is ∙ sym (append_assoc a (more.line ∷ []) more.between) in
      there.0 (begins_before (a ++ more.line ∷ []) more.between
      (subst (Begins r.language) regrouped begins))

  not_behind : (a x b y : List (List ℕ)) (refusal : Refusal) → a ++ x ≡ b ++ y
      → FaultAfter r.language f.order a x refusal → Begins r.language b → length b ≤ length a
  not_behind a x b y refusal split fault begins =
      ⊎_elim
      (λ (less : length a < length b). absurd
      (none_longer a x b refusal fault (longer a x b y split less) begins))
      (λ (more : length b ≤ length a). more)
      (cases_lt (length a) (length b))

  pub one_first_fault : (lines : List (List ℕ)) (m n : ℕ) (x y : Refusal)
      → IsFirst r.language f.order lines m x → IsFirst r.language f.order lines n y → (m ≡ n) × (x ≡ y)
  one_first_fault lines m n x y fault other =
      let a = fault in
      let b = other in
      let split : a.before ++ a.more ≡ b.before ++ b.more = sym a.split ∙ b.split in
      let up = not_behind a.before a.more b.before b.more x split a.fault b.begins in
      let down = not_behind b.before b.more a.before a.more y (sym split) b.fault a.begins in
      let long : length a.before ≡ length b.before = omega arith in
      let parts = same_parts a.before a.more b.before b.more split long in
      let there : FaultAfter r.language f.order a.before a.more y =
      subst (λ (ls : List (List ℕ)). FaultAfter r.language f.order ls a.more y) (sym parts.0)
      (rw parts.1 b.fault) in
      (a.place ∙ rw long (sym b.place), one_behind a.before a.more x y a.fault there)

  whole_behind : (before more : List (List ℕ)) (plan : A) (refusal : Refusal)
      → AreLines r.language (before ++ more) plan → FaultAfter r.language f.order before more refusal → ⊥
  whole_behind before [] plan refusal spells fault =
      fault.1 plan (subst (λ ls. AreLines r.language ls plan) (append-nil before) spells)
  whole_behind before (line ∷ more) plan refusal spells fault =
      fault.0 (record {
        more = more;
        plan = plan;
        spells =
            subst (λ ls. AreLines r.language ls plan) (sym (append_assoc before (line ∷ []) more))
            spells;
      })

  pub no_fault : (lines : List (List ℕ)) (plan : A) (m : ℕ) (refusal : Refusal)
      → AreLines r.language lines plan → IsFirst r.language f.order lines m refusal → ⊥
  no_fault lines plan m refusal spells fault =
      whole_behind fault.before fault.more plan refusal
      (subst (λ ls. AreLines r.language ls plan) fault.split spells) fault.fault
