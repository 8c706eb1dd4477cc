-- Proves how one more command, request or end changes the body that was read.
use Rattle.std.proofs.Common.{◌≡◌, ℕ, zero, suc, ◌+◌, ◌<◌, Bool, true, false, ◌||◌, cond, List, []}
use Rattle.std.proofs.Common.{◌∷◌, ◌++◌, length, Some, None, Ok, Err, refl, ap, ◌∙◌, sym, ⊎_elim}
use Rattle.std.proofs.Common.{arith, set, get_or, get_or-set_same, get_or-set_other}
use Rattle.std.specs.Prelude.{nat_lt, not, ◌==◌}
use Rattle.std.specs.List.{list_any, position_or_len}
use Rattle.std.proofs.lemmas.Bool.{cond-true, cond-false, cases_eq, eq-eqb, ne_eqb}
use Rattle.std.proofs.lemmas.Bool.Decides.{nat_tests}
use Rattle.std.proofs.lemmas.List.Folds.{list_any-append}
use Rattle.std.proofs.Math.Bool.{or-false, or-true}
use Rattle.std.proofs.lemmas.List.{length-append, length-set}
use Rattle.dmlw_script.specs.declared.command.Command.{Command}
use Rattle.dmlw_script.specs.declared.command.Command.TheVariants as commands
use Rattle.dmlw_script.specs.inside.Drafts.{with_name, Body, IsFlags}
use Rattle.dmlw_script.specs.Words.{same_name}
use Rattle.dmlw_script.specs.Plans.{ends_request, is_ended, time_at, time_from, request_of}
use Rattle.dmlw_script.specs.declared.script_id.ScriptId.{ScriptId}
use Rattle.refusals.specs.declared.refusal.Refusal.TheVariants.{BadId}

pub is_ended-push : (request : ℕ) (body : List Command) (command : Command)
    → is_ended request (body ++ command ∷ []) ≡ (is_ended request body || ends_request request command)
is_ended-push request body command = grind (arith, list_any-append, or-false)

-- A new flag that is false changes nothing, because a missing flag counts as false.
push_default : (flags : List Bool) (i : ℕ)
    → get_or (flags ++ false ∷ []) i false ≡ get_or flags i false
push_default [] zero = refl
push_default [] (suc i) = refl
push_default (flag ∷ flags) zero = refl
push_default (flag ∷ flags) (suc i) = push_default flags i

pub flags_submit : (n : ℕ) (flags : List Bool) (body : List Command) → IsFlags n flags body
    → IsFlags (n + 1) (flags ++ false ∷ []) body
flags_submit n flags body old = grind (arith, length-append, push_default)

pub flags_say : (n : ℕ) (flags : List Bool) (body : List Command) (command : Command)
    → ((request : ℕ) → ends_request request command ≡ false) → IsFlags n flags body
    → IsFlags n flags (body ++ command ∷ [])
flags_say n flags body command quiet old = record {
  in_step = old.in_step;
  each =
      λ request. grind (arith, is_ended-push request body command, or-false (is_ended request body));
}

pub flags_end : (n : ℕ) (flags : List Bool) (body : List Command) (request : ℕ) → request < n
    → IsFlags n flags body → IsFlags n (set flags request true)
    (body ++ commands.Complete request ∷ [])
flags_end n flags body request inside old = record {
  in_step = length-set flags request true ∙ old.in_step;
  each = λ other.
      ⊎_elim
      (λ (same : other ≡ request).
      let here : request < length flags = omega (arith, old.in_step) in
      let test : (request == other) ≡ true = eq-eqb request other (sym same) in
      rw same (get_or-set_same flags request true false here)
      ∙ sym (is_ended-push other body (commands.Complete request)
      ∙ ap (λ b. is_ended other body || b) test ∙ or-true (is_ended other body)))
      (λ (apart : other ≡ request → ⊥).
      let test : (request == other) ≡ false = ne_eqb request other (λ e. apart (sym e)) in
      get_or-set_other flags request other true false apart ∙ old.each other
      ∙ sym (is_ended-push other body (commands.Complete request)
      ∙ ap (λ b. is_ended other body || b) test ∙ or-false (is_ended other body)))
      (cases_eq other request);
}

listed_step : (t any : Bool) (n length : ℕ) → nat_lt n length ≡ any
    → nat_lt (cond (not t) (1 + n) 0) (suc length) ≡ (t || any)
listed_step other any n length same = grind (arith, nat_tests)

pub listed : {X : Type 0} (p : X → Bool) (xs : List X)
    → nat_lt (position_or_len p xs) (length xs) ≡ list_any p xs
listed p [] = refl
listed p (x ∷ xs) = listed_step (p x) _ _ _ (listed p xs)

pub with_new_name : (b : Body) (name : ScriptId) → list_any (same_name name) b.names ≡ false
    → with_name b name ≡ Ok (record b { names = b.names ++ name ∷ [] })
with_new_name b name new =
    let none : request_of name b.names ≡ None =
    cond-false _ _ _ (listed (same_name name) b.names ∙ new) in
    rw none

pub with_old_name : (b : Body) (name : ScriptId) → list_any (same_name name) b.names ≡ true
    → with_name b name ≡ Err BadId
with_old_name b name old =
    let some : request_of name b.names ≡ Some (position_or_len (same_name name) b.names) =
    cond-true _ _ _ (listed (same_name name) b.names ∙ old) in
    rw some

pub time_push : (time : ℕ) (body : List Command) (command : Command)
    → time_from time (body ++ command ∷ []) ≡ time_at (time_from time body) command
time_push time [] command = refl
time_push time (first ∷ body) command = time_push (time_at time first) body command
