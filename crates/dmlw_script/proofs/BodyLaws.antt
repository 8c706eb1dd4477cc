-- Proves how the body of a recorder's script grows line by line, and how ids name its requests.
use Rattle.std.proofs.Common.{◌≡◌, ℕ, ◌+◌, ◌<◌, true, false, cond, List, [], ◌∷◌, ◌++◌, length}
use Rattle.std.proofs.Common.{get_or, Option, Some, None, Ok, Err, ⊎_elim, refl, ap, ◌∙◌, sym}
use Rattle.std.proofs.Common.{subst, arith, append_assoc}
use Rattle.std.specs.Prelude.{Result, nat_lt}
use Rattle.std.specs.Cmp.{IsEquivalence}
use Rattle.std.specs.List.{list_any, position_or_len, AllByRecursion, IsDistinct}
use Rattle.std.proofs.lemmas.Bool.{cond-true, cond-false, cases_Bool, le-ltb, lt-ltb, ltb-false}
use Rattle.std.proofs.lemmas.Bool.{ltb-true}
use Rattle.std.proofs.lemmas.List.{append-nil, length-append, get_or_append_left}
use Rattle.std.proofs.lemmas.List.Folds.{list_any_none}
use Rattle.std.proofs.lemmas.List.Sums.{passes_at_first, position_or_len_is, sum_by-append}
use Rattle.std.proofs.lemmas.Map.Keys.{apart_from_distinct, IsDistinct-from_apart, IsDistinct-push}
use Rattle.std.proofs.lemmas.Slice.Eq.{bytes_eq-Decides}
use Rattle.std.proofs.Math.Seq.{get_or-append_seam}
use Rattle.std.proofs.lemmas.Option.{cond_some}
use Rattle.bio.specs.declared.request.BadBio.{BadBio}
use Rattle.bio.specs.declared.request.SectorSize.{SectorSize}
use Rattle.bio.specs.Requests.{bytes_of}
use Rattle.refusals.specs.declared.refusal.Refusal.{Refusal}
use Rattle.refusals.specs.declared.refusal.Refusal.TheVariants.{BadId}
use Rattle.dmlw_script.specs.declared.command.Command.{Command}
use Rattle.dmlw_script.specs.declared.command.Command.TheVariants as commands
use Rattle.dmlw_script.specs.declared.script_id.ScriptId.{ScriptId}
use Rattle.dmlw_script.specs.LineMeaning.{LineMeaning}
use Rattle.dmlw_script.specs.LineMeaning as parsed_lines
use Rattle.dmlw_script.specs.declared.line.BodyLine.{BodyLine}
use Rattle.dmlw_script.specs.declared.line.BodyLine.TheVariants as body_lines
use Rattle.dmlw_script.specs.declared.command.Step.{Step}
use Rattle.dmlw_script.specs.declared.command.Step.TheVariants as steps
use Rattle.dmlw_script.specs.declared.command.Submission.{Submission}
use Rattle.dmlw_script.specs.inside.Stages as heads
use Rattle.dmlw_script.specs.inside.Drafts.{body_step, ended_next, named_next, as_refusal}
use Rattle.dmlw_script.specs.inside.Drafts.{step_test, with_command, with_name, Body}
use Rattle.dmlw_script.specs.Words.{script_id, same_name}
use Rattle.dmlw_script.specs.Plans.{count_after_command, lines_of_body, is_ended, is_submission}
use Rattle.dmlw_script.specs.Plans.{name_at, request_of, line_at, time_after, step_answer}
use Rattle.dmlw_script.specs.Plans.{submission_answer, submissions, top_of, Disk, HasLineText}
use Rattle.dmlw_script.specs.Plans.{IsInTime, IsName, IsWellFormed, CanFollow, WritesByte}
use Rattle.dmlw_script.specs.inside.Readers.{parsed_step, Progress}
use Rattle.dmlw_script.proofs.DraftLemmas.{listed, with_new_name}
use Rattle.dmlw_script.proofs.ReaderLaws.{all_append, barred_ok, bind_at, bind_ok, fold}

pub same_name_is : (a b : ScriptId) → same_name a b ≡ true → a ≡ b
same_name_is a b e = grind (arith, bytes_eq-Decides)

pub same_name_self : (a : ScriptId) → same_name a a ≡ true
same_name_self a = (bytes_eq-Decides a.letters a.letters).1 refl

pub same_name_swap : (a b : ScriptId) → same_name a b ≡ same_name b a
same_name_swap a b =
    ⊎_elim
    (λ (same : same_name a b ≡ true). let is : a ≡ b = same_name_is a b same in
    same ∙ sym (rw is (same_name_self b)))
    (λ (apart : same_name a b ≡ false).
    ⊎_elim
    (λ (back : same_name b a ≡ true). let is : b ≡ a = same_name_is b a back in
    absurd (let both : same_name a b ≡ true = subst (λ (x : ScriptId). same_name x b ≡ true) is
    (same_name_self b) in cc))
    (λ (back : same_name b a ≡ false). apart ∙ sym back)
    (cases_Bool (same_name b a)))
    (cases_Bool (same_name a b))

pub same_name_equiv : IsEquivalence same_name
same_name_equiv = record {
  refl = same_name_self;
  symm = same_name_swap;
  congr = λ x y z same. ap (λ a. same_name a z) (same_name_is x y same);
}

pub request_of_name : (names : List ScriptId) (request : ℕ) (d : ScriptId)
    → IsDistinct same_name names → request < length names
    → request_of (get_or names request d) names ≡ Some request
request_of_name names request d distinct inside =
    let place : position_or_len (same_name (get_or names request d)) names ≡ request =
    position_or_len_is (same_name (get_or names request d)) names request d (omega arith)
    (λ k below. same_name_swap (get_or names request d) (get_or names k d)
    ∙ apart_from_distinct same_name names k request d distinct below inside)
    (λ within. same_name_self (get_or names request d)) in
    let test : nat_lt (position_or_len (same_name (get_or names request d)) names) (length names)
    ≡ true = lt-ltb _ _ (omega arith) in
    cond-true _ _ _ test ∙ ap Some place

pub name_of_request : (name : ScriptId) (names : List ScriptId) (request : ℕ) (d : ScriptId)
    → request_of name names ≡ Some request
    → (request < length names) × (get_or names request d ≡ name)
name_of_request name names request d e =
    let p =
    cond_some (nat_lt (position_or_len (same_name name) names) (length names))
    (position_or_len (same_name name) names) request e in
    let inside : position_or_len (same_name name) names < length names = ltb-true _ _ p.0 in
    let here : same_name name (get_or names request d) ≡ true =
    subst (λ (x : ℕ). same_name name (get_or names x d) ≡ true) p.1
    (passes_at_first (same_name name) names d inside) in
    (omega (arith, p.1), sym (same_name_is name (get_or names request d) here))

pub new_name : (front rest : List ScriptId) (name : ScriptId)
    → IsDistinct same_name (front ++ name ∷ rest)
    → list_any (same_name name) front ≡ false
new_name front rest name distinct =
    list_any_none (same_name name) front (λ k d inside.
    let apart : same_name (get_or (front ++ name ∷ rest) k d)
    (get_or (front ++ name ∷ rest) (length front) d) ≡ false =
    apart_from_distinct same_name (front ++ name ∷ rest) k (length front) d distinct
    inside (omega (arith, length-append front (name ∷ rest))) in
    same_name_swap name (get_or front k d)
    ∙ ap (λ x. same_name x name) (sym (get_or_append_left front (name ∷ rest) d k inside))
    ∙ ap (λ x. same_name (get_or (front ++ name ∷ rest) k d) x)
    (sym (get_or-append_seam front name rest d))
    ∙ apart)

-- The body may be in a script; `bytes` and `sectors` are as in `range_test`.
pub record IsSoundBody (bytes sectors : ℕ) (b : Body) : Type 0 where
  pub ids : AllByRecursion IsName b.names
  pub distinct : IsDistinct same_name b.names
  pub numbered : length b.names ≡ submissions b.body
  pub well_formed : IsWellFormed bytes sectors [] b.body

-- The line's own values are allowed, whatever lines are before it.
abbrev pub IsFine : BodyLine → Type 0
IsFine (body_lines.Submit name submission) = IsName name × WritesByte submission
IsFine (body_lines.Complete name) = Unit {0}
IsFine (body_lines.Step step) = HasLineText step

abbrev pub submits : Command → ℕ
submits command = cond (is_submission command) 1 0

pub submissions-push : (body : List Command) (command : Command)
    → submissions (body ++ command ∷ []) ≡ submissions body + submits command
submissions-push body command = grind (arith, sum_by-append)

pub submissions-cons : (command : Command) (body : List Command)
    → submissions (command ∷ body) ≡ submits command + submissions body
submissions-cons command body =
    sum_by-append submits (command ∷ []) body ∙ ap (λ n. n + submissions body) (omega arith)

pub count_after_command-is : (before : ℕ) (command : Command)
    → count_after_command before command ≡ before + submits command
count_after_command-is before (commands.Submit submission) = refl
count_after_command-is before (commands.Complete request) = omega arith
count_after_command-is before (commands.Step step) = omega arith

pub well_formed_push : (bytes sectors : ℕ) (before body : List Command) (command : Command)
    → IsWellFormed bytes sectors before body → CanFollow bytes sectors (before ++ body) command
    → IsWellFormed bytes sectors before (body ++ command ∷ [])
well_formed_push bytes sectors before [] command well_formed may = grind (arith, append-nil)
well_formed_push bytes sectors before (c ∷ body) command well_formed may =
    grind (
      arith,
      well_formed_push bytes sectors (before ++ c ∷ []) body command well_formed.1,
      well_formed,
      append_assoc,
    )

-- The body `c` is the body `b` after one more line with the meaning `s`.
pub record Grows (b c : Body) (s : BodyLine) : Type 0 where
  pub names : List ScriptId
  pub command : Command
  pub grown_names : c.names ≡ b.names ++ names
  pub grown_body : c.body ≡ b.body ++ command ∷ []
  pub says : line_at c.names (length b.names) command ≡ s

pub named_ok : (o : Option ℕ) (b c : Body) (name : ScriptId) → named_next o b name ≡ Ok c
    → (o ≡ None) × (record b { names = b.names ++ name ∷ [] } ≡ c)
named_ok None b c name e = (refl, cc)
named_ok (Some request) b c name e = absurd (cc)

pub unlisted : (name : ScriptId) (names : List ScriptId) → request_of name names ≡ None
    → list_any (same_name name) names ≡ false
unlisted name names e = grind (arith, true, cond-true, listed, false, cases_Bool)

submit_grows : (bytes sectors : ℕ) (b : Body) (name : ScriptId) (submission : Submission)
    → request_of name b.names ≡ None → IsName name
    → CanFollow bytes sectors b.body (commands.Submit submission) → IsSoundBody bytes sectors b
    → (c : Body)
    → record { names = b.names ++ name ∷ []; body = b.body ++ commands.Submit submission ∷ [] } ≡ c
    → IsSoundBody bytes sectors c × Grows b c (body_lines.Submit name submission)
submit_grows bytes sectors b name submission new is may sound c same =
    let more : length (b.names ++ name ∷ []) ≡ length b.names + 1 =
    length-append b.names (name ∷ []) in
    rw (← same) (
      record {
        ids = all_append IsName b.names (name ∷ []) sound.ids (is, tt);
        distinct = IsDistinct-push same_name_equiv b.names name sound.distinct (unlisted name
            b.names new);
        numbered = grind (arith, submissions-push);
        well_formed = grind (arith, well_formed_push);
      },
      record {
        names = name ∷ [];
        command
            = commands.Submit submission;
        grown_names = refl;
        grown_body = refl;
        says = grind (arith, get_or-append_seam);
      },
    )

other_grows : (bytes sectors : ℕ) (b : Body) (command : Command) (s : BodyLine)
    → CanFollow bytes sectors b.body command → submits command ≡ 0
    → line_at b.names (length b.names) command ≡ s → IsSoundBody bytes sectors b → (c : Body)
    → with_command b command ≡ c → IsSoundBody bytes sectors c × Grows b c s
other_grows bytes sectors b command s may none says sound c same =
    rw (← same) (
      record {
        ids = sound.ids;
        distinct = sound.distinct;
        numbered = grind (arith, submissions-push b.body command);
        well_formed =
            well_formed_push bytes sectors [] b.body command sound.well_formed may;
      },
      record {
        names
            = [];
        command = command;
        grown_names = sym (append-nil b.names);
        grown_body = refl;
        says =
            says;
      },
    )

pub told_ok : (r : Result (Unit {0}) BadBio) (x : Unit {0}) → as_refusal r ≡ Ok x → r ≡ Ok tt
told_ok (Ok u) x e = refl
told_ok (Err bad) x e = absurd (cc)

step_ok : (bytes sectors time : ℕ) (step : Step) (x : Unit {0})
    → step_test bytes sectors time step ≡ Ok x
    → (step_answer bytes sectors step ≡ Ok tt) × IsInTime time step
step_ok bytes sectors time (steps.At later) x e = grind (arith, ltb-false, barred_ok)
step_ok bytes sectors time step x e = (told_ok (step_answer bytes sectors step) x e, tt)

step_again : (bytes sectors time : ℕ) (step : Step) → step_answer bytes sectors step ≡ Ok tt
    → IsInTime time step → step_test bytes sectors time step ≡ Ok tt
step_again bytes sectors time (steps.At later) fine in_time =
    cond-false _ _ _ (le-ltb _ _ in_time)
step_again bytes sectors time step fine in_time = ap as_refusal fine

end_grows : (bytes sectors : ℕ) (b c : Body) (name : ScriptId) (o : Option ℕ)
    → request_of name b.names ≡ o → ended_next o b ≡ Ok c → IsSoundBody bytes sectors b
    → IsSoundBody bytes sectors c × Grows b c (body_lines.Complete name)
end_grows bytes sectors b c name None is e sound = absurd (cc)
end_grows bytes sectors b c name (Some request) is e sound =
    let p = name_of_request name b.names request (script_id []) is in
    let q =
    barred_ok (is_ended request b.body) BadId
    (Ok (with_command b (commands.Complete request))) c e in
    other_grows bytes sectors b (commands.Complete request) (body_lines.Complete name)
    (omega (arith, p.0, sound.numbered), q.0) refl
    (rw p.1) sound c (let last = q.1 in cc)

pub step_grows : (bytes sectors : ℕ) (b c : Body) (s : BodyLine)
    → body_step bytes sectors b s ≡ Ok c → IsFine s → IsSoundBody bytes sectors b
    → IsSoundBody bytes sectors c × Grows b c s
step_grows bytes sectors b c (body_lines.Submit name submission) e fine sound =
    let p = bind_ok (with_name b name) _ c e in
    let q = bind_ok (as_refusal (submission_answer bytes sectors submission)) _ c p.2 in
    let n = named_ok (request_of name b.names) b p.0 name p.1 in
    submit_grows bytes sectors b name submission n.0 fine.0
    (told_ok (submission_answer bytes sectors submission) q.0 q.1, fine.1) sound c
    (ap (λ (x : Body). with_command x (commands.Submit submission)) n.1 ∙ (let last = q.2 in cc))
step_grows bytes sectors b c (body_lines.Complete name) e fine sound =
    end_grows bytes sectors b c name (request_of name b.names) refl e sound
step_grows bytes sectors b c (body_lines.Step step) e fine sound =
    let q = bind_ok (step_test bytes sectors (time_after b.body) step) _ c e in
    let told = step_ok bytes sectors (time_after b.body) step q.0 q.1 in
    other_grows bytes sectors b (commands.Step step) (body_lines.Step step) (told.0, fine, told.1)
    refl refl sound c (let last = q.2 in cc)

abbrev pub lines_of_draft : Body → List LineMeaning
lines_of_draft b = lines_of_body b.names 0 b.body

lines_push : (names : List ScriptId) (n : ℕ) (body : List Command) (command : Command)
    → lines_of_body names n (body ++ command ∷ [])
    ≡ lines_of_body names n body
    ++ parsed_lines.Body (line_at names (n + submissions body) command) ∷ []
lines_push names n [] command =
    ap (λ (k : ℕ). parsed_lines.Body (line_at names k command) ∷ []) (omega arith)
lines_push names n (c ∷ body) command =
    let count : count_after_command n c + submissions body ≡ n + submissions (c ∷ body) =
    omega (arith, count_after_command-is n c, submissions-cons c body) in
    ap (λ (ls : List LineMeaning). parsed_lines.Body (line_at names n c) ∷ ls)
    (lines_push names (count_after_command n c) body command
    ∙ ap (λ (k : ℕ). lines_of_body names (count_after_command n c) body
    ++ parsed_lines.Body (line_at names k command) ∷ []) count)

-- Ids that are added later don't change the line of a command.
line_kept : (bytes sectors : ℕ) (names more : List ScriptId) (done : List Command)
    (command : Command) (rest : ℕ) → CanFollow bytes sectors done command
    → length names ≡ submissions done + (submits command + rest)
    → line_at (names ++ more) (submissions done) command ≡ line_at names (submissions done) command
line_kept bytes sectors names more done (commands.Submit submission) rest may numbered =
    rw (get_or_append_left names more (script_id []) (submissions done) (omega (arith, numbered)))
line_kept bytes sectors names more done (commands.Complete request) rest may numbered =
    rw (get_or_append_left names more (script_id []) request (omega (arith, numbered, may.0)))
line_kept bytes sectors names more done (commands.Step step) rest may numbered = refl

lines_kept : (bytes sectors : ℕ) (names more : List ScriptId) (n : ℕ) (done body : List Command)
    → n ≡ submissions done → IsWellFormed bytes sectors done body
    → length names ≡ n + submissions body
    → lines_of_body (names ++ more) n body ≡ lines_of_body names n body
lines_kept bytes sectors names more n done [] counted well_formed numbered = refl
lines_kept bytes sectors names more n done (c ∷ body) counted well_formed numbered =
    let sum = submissions-cons c body in
    let count = count_after_command-is n c in
    let first : line_at (names ++ more) n c ≡ line_at names n c =
    ap (λ (k : ℕ). line_at (names ++ more) k c) counted
    ∙ line_kept bytes sectors names more done c (submissions body) well_formed.0
    (omega (arith, numbered, counted, sum))
    ∙ ap (λ (k : ℕ). line_at names k c) (sym counted) in
    grind (arith, first)
    ∙ ap (λ (ls : List LineMeaning). parsed_lines.Body (line_at names n c) ∷ ls)
    (lines_kept bytes sectors names more (count_after_command n c) (done ++ c ∷ []) body
    (omega (arith, count, counted, submissions-push done c)) well_formed.1
    (omega (arith, numbered, sum, count)))

pub lines_grow : (bytes sectors : ℕ) (b c : Body) (s : BodyLine) → IsSoundBody bytes sectors b
    → Grows b c s → lines_of_draft c ≡ lines_of_draft b ++ parsed_lines.Body s ∷ []
lines_grow bytes sectors b c s sound g =
    let kept : lines_of_body c.names 0 b.body ≡ lines_of_draft b =
    ap (λ (ns : List ScriptId). lines_of_body ns 0 b.body) g.grown_names ∙ lines_kept bytes sectors
    b.names g.names 0 [] b.body refl sound.well_formed (sound.numbered ∙ omega arith) in
    let last : line_at c.names (0 + submissions b.body) g.command ≡ s =
    ap (λ (k : ℕ). line_at c.names k g.command) (omega (arith, sound.numbered)) ∙ g.says in
    grind (arith, g.grown_body)
    ∙ lines_push c.names 0 b.body g.command
    ∙ ap (λ (ls : List LineMeaning). ls
    ++ parsed_lines.Body (line_at c.names (0 + submissions b.body) g.command) ∷ []) kept
    ∙ ap (λ (x : BodyLine). lines_of_draft b ++ parsed_lines.Body x ∷ []) last

-- Reads lines with these meanings, from the state `p` on.
abbrev pub run : Progress → List LineMeaning → Result Progress Refusal
run p ss = fold parsed_step p ss

abbrev pub in_draft : Disk → Disk → SectorSize → Body → Progress
in_draft d l size b = record { head = heads.Whole d l size; body = b }

no_names : (rest : List ScriptId) → length rest ≡ 0 → rest ≡ []
no_names [] e = refl
no_names (name ∷ rest) e = absurd (omega arith)

first_of : (rest : List ScriptId) → 0 < length rest
    → (name : ScriptId) × (more : List ScriptId) × (rest ≡ name ∷ more)
first_of [] some = absurd (omega arith)
first_of (name ∷ rest) some = (name, rest, refl)

with_name_again : (front more names : List ScriptId) (name : ScriptId) (before : List Command)
    → names ≡ front ++ name ∷ more → IsDistinct same_name names →
    with_name (record { names = front; body = before }) name
    ≡ Ok (record { names = front ++ name ∷ []; body = before })
with_name_again front more names name before whole distinct =
    with_new_name (record { names = front; body = before }) name
    (new_name front more name
    (rw (← whole) distinct))

again_step : (d l : Disk) (size : SectorSize) (names front next : List ScriptId)
    (before body : List Command) (command : Command) →
    body_step (bytes_of size) (top_of d) (record { names = front; body = before })
    (line_at names (length front) command)
    ≡ Ok (record { names = next; body = before ++ command ∷ [] }) →
    count_after_command (length front) command ≡ length next →
    run (in_draft d l size (record { names = next; body = before ++ command ∷ [] }))
    (lines_of_body names (length next) body)
    ≡ Ok (in_draft d l size (record { names = names; body = (before ++ command ∷ []) ++ body })) →
    run (in_draft d l size (record { names = front; body = before }))
    (lines_of_body names (length front) (command ∷ body))
    ≡ Ok (in_draft d l size (record { names = names; body = before ++ command ∷ body }))
again_step d l size names front next before body command one counts others =
    grind (arith, bind_at, append_assoc)

-- The next submission has the id `name`, if `front` are the ids of the submissions before it.
record NextName (names front rest : List ScriptId) (before body : List Command)
    (command : Command) : Type 0 where
  name : ScriptId
  more : List ScriptId
  here : name_at names (length front) ≡ name
  split : names ≡ front ++ name ∷ more
  whole : names ≡ (front ++ name ∷ []) ++ more
  counts : length front + 1 ≡ length (front ++ name ∷ [])
  numbered : length (front ++ name ∷ []) ≡ submissions (before ++ command ∷ [])
  left : length more ≡ submissions body

next_name : (names front rest : List ScriptId) (before body : List Command)
    (command : Command) → submits command ≡ 1 → names ≡ front ++ rest →
    length front ≡ submissions before → length rest ≡ submissions (command ∷ body)
    → NextName names front rest before body command
next_name names front rest before body command one whole numbered left =
    grind (
      arith,
      submissions-cons,
      first_of,
      length-append,
      get_or-append_seam,
      append_assoc,
      submissions-push,
    )

front_distinct : (front rest : List ScriptId) → IsDistinct same_name (front ++ rest)
    → IsDistinct same_name front
front_distinct front rest distinct =
    IsDistinct-from_apart same_name front
    (λ i j d below inside.
    ap (λ x. same_name x (get_or front j d))
    (sym (get_or_append_left front rest d i (omega arith)))
    ∙ ap (λ x. same_name (get_or (front ++ rest) i d) x)
    (sym (get_or_append_left front rest d j inside))
    ∙ apart_from_distinct same_name (front ++ rest) i j d distinct below
    (omega (arith, length-append front rest)))

end_again : (names front rest : List ScriptId) (before : List Command) (request : ℕ)
    → names ≡ front ++ rest → IsDistinct same_name names →
    request < length front → is_ended request before ≡ false →
    ended_next (request_of (name_at names request) front)
    (record { names = front; body = before })
    ≡ Ok (record { names = front; body = before ++ commands.Complete request ∷ [] })
end_again names front rest before request whole distinct inside going =
    let b : Body = record { names = front; body = before } in
    let here : name_at names request ≡ get_or front request (script_id []) =
    grind (arith, whole)
    ∙ get_or_append_left front rest (script_id []) request inside in
    let place : request_of (name_at names request) front ≡ Some request =
    ap (λ x. request_of x front) here ∙ request_of_name front request (script_id [])
    (front_distinct front rest
    (rw (← whole) distinct)) inside in
    ap (λ o. ended_next o b) place ∙ cond-false _ _ _ going

-- After a prefix of a body was read, reading its other lines gives the whole body.
pub run_again : (d l : Disk) (size : SectorSize) (names front rest : List ScriptId)
    (before body : List Command) → names ≡ front ++ rest → IsDistinct same_name names →
    length front ≡ submissions before → length rest ≡ submissions body
    → IsWellFormed (bytes_of size) (top_of d) before body →
    run (in_draft d l size (record { names = front; body = before }))
    (lines_of_body names (length front) body)
    ≡ Ok (in_draft d l size (record { names = names; body = before ++ body }))
run_again d l size names front rest before [] whole distinct numbered left well_formed =
    grind (arith, no_names, append-nil)
run_again d l size names front rest before
    (commands.Submit submission ∷ body) whole distinct numbered left well_formed =
    let n =
    next_name names front rest before body
    (commands.Submit submission) refl whole numbered left in
    again_step d l size names front (front ++ n.name ∷ []) before body
    (commands.Submit submission)
    (bind_at _ _ _ _ (ap (with_name (record { names = front; body = before })) n.here
    ∙ with_name_again front n.more names n.name before n.split distinct)
    (bind_at _ _ _ _ (ap as_refusal well_formed.0.0) refl))
    n.counts
    (run_again d l size names (front ++ n.name ∷ []) n.more
    (before ++ commands.Submit submission ∷ []) body n.whole distinct n.numbered n.left
    well_formed.1)
run_again d l size names front rest before
    (commands.Complete request ∷ body) whole distinct numbered left well_formed =
    again_step d l size names front front before body (commands.Complete request)
    (end_again names front rest before request whole distinct
    (omega (arith, well_formed.0.0, numbered)) well_formed.0.1) refl
    (run_again d l size names front rest
    (before ++ commands.Complete request ∷ []) body whole distinct
    (numbered ∙ sym (submissions-push before (commands.Complete request) ∙ omega arith))
    (left ∙ submissions-cons (commands.Complete request) body ∙ omega arith) well_formed.1)
run_again d l size names front rest before
    (commands.Step step ∷ body) whole distinct numbered left well_formed =
    again_step d l size names front front before body (commands.Step step)
    (bind_at _ _ _ _ (step_again (bytes_of size) (top_of d)
    (time_after before) step well_formed.0.0 well_formed.0.2) refl) refl
    (run_again d l size names front rest
    (before ++ commands.Step step ∷ []) body whole distinct
    (numbered ∙ sym (submissions-push before (commands.Step step) ∙ omega arith))
    (left ∙ submissions-cons (commands.Step step) body ∙ omega arith) well_formed.1)
