-- What the reader does with each line of a body, step by step. `Grammar` and `FirstFault` say what
-- the results are, by the grammar.
use Rattle.std.specs.Prelude.{◌≡◌, ℕ, Bool, false, List, [], ◌∷◌, ◌++◌, Option, Some, None, Result}
use Rattle.std.specs.Prelude.{Ok, Err, length, nat_lt, slice_index_or, if◌then◌else◌}
use Rattle.refusals.specs.declared.refusal.Refusal.{Refusal}
use Rattle.refusals.specs.declared.refusal.Refusal.TheVariants.{BadId, BadLine}
use Rattle.bio.specs.declared.request.BadBio.{BadBio}
use Rattle.bio.specs.Refusals.{bad_bio_refusal}
use Rattle.dmlw_script.specs.declared.command.Command.{Command}
use Rattle.dmlw_script.specs.declared.command.Command.TheVariants as commands
use Rattle.dmlw_script.specs.declared.command.Step.{Step}
use Rattle.dmlw_script.specs.declared.command.Step.TheVariants as steps
use Rattle.dmlw_script.specs.declared.draft.BodyReader.{BodyReader}
use Rattle.dmlw_script.specs.declared.script_id.ScriptId.{ScriptId}
use Rattle.dmlw_script.specs.declared.line.BodyLine.{BodyLine}
use Rattle.dmlw_script.specs.declared.line.BodyLine.TheVariants as body_lines
use Rattle.dmlw_script.specs.declared.line_error.LineError.{LineError}
use Rattle.dmlw_script.specs.declared.line_error.LineError.TheVariants as line_errors
use Rattle.dmlw_script.specs.Plans.{is_ended, time_after, request_of, step_answer}
use Rattle.dmlw_script.specs.Plans.{submission_answer}

-- a script's body, as far as it was read: the submitted ids, in order, and the commands
pub record Body : Type 0 where
  pub names : List ScriptId
  pub body : List Command

-- the part of a body that the reader `d` has read
abbrev pub body_of : BodyReader → Body
body_of d = record { names = d.names.keys; body = d.commands.items }

-- There are `n` flags. The flag of a request says whether `body` ends the request; `body` ends no
-- request without a flag.
pub record IsFlags (n : ℕ) (flags : List Bool) (body : List Command) : Type 0 where
  pub in_step : length flags ≡ n
  pub each : (request : ℕ) → slice_index_or flags request false ≡ is_ended request body

-- The flags of `d` say which of its requests have ended. Its time is the time after its commands.
pub record IsDraft (d : BodyReader) : Type 0 where
  pub flags : IsFlags (length d.names.keys) d.has_ended.items d.commands.items
  pub in_time : d.time ≡ time_after d.commands.items

-- applies `f` to the value, unless there is a refusal
infixl 10 ◌>>=◌
abbrev pub ◌>>=◌ : {A B : Type 0} → Result A Refusal → (A → Result B Refusal) → Result B Refusal
(Ok x) >>= f = f x
(Err refusal) >>= f = Err refusal

-- the body with one more command
abbrev pub with_command : Body → Command → Body
with_command b command = record b { body = b.body ++ command ∷ [] }

-- The body with the id `name` for the next request. The first argument is the request that already
-- has this id; if there is one, `BadId`.
abbrev pub named_next : Option ℕ → Body → ScriptId → Result Body Refusal
named_next (Some request) b name = Err BadId
named_next None b name = Ok (record b { names = b.names ++ name ∷ [] })

-- the body with the id `name` for the next request, or `BadId` if a request already has this id
abbrev pub with_name : Body → ScriptId → Result Body Refusal
with_name b name = named_next (request_of name b.names) b name

-- the result of a test of sectors, with its refusal as the error
abbrev pub as_refusal : Result (Unit {0}) BadBio → Result (Unit {0}) Refusal
as_refusal (Ok fine) = Ok tt
as_refusal (Err bad) = Err (bad_bio_refusal bad)

-- The test of a step at the time `time`. An `at` must not decrease the time, and any other step
-- passes the test of its sectors.
abbrev pub step_test : (bytes sectors time : ℕ) → Step → Result (Unit {0}) Refusal
step_test bytes sectors time (steps.At later) = if nat_lt later time then Err BadLine else Ok tt
step_test bytes sectors time step = as_refusal (step_answer bytes sectors step)

-- The body with the end of a request. The first argument is the request, or None if the id was
-- never submitted. If it is None, or the request has ended, `BadId`.
abbrev pub ended_next : Option ℕ → Body → Result Body Refusal
ended_next None b = Err BadId
ended_next (Some request) b =
    if is_ended request b.body then Err BadId else Ok (with_command b (commands.Complete request))

-- The body after one more line, or the refusal. The log's sectors have `bytes` bytes, and the data
-- disk's top has `sectors` sectors.
abbrev pub body_step : (bytes sectors : ℕ) → Body → BodyLine → Result Body Refusal
body_step bytes sectors b (body_lines.Submit name submission) = do
  submitted ← with_name b name
  fine ← as_refusal (submission_answer bytes sectors submission)
  Ok (with_command submitted (commands.Submit submission))
body_step bytes sectors b (body_lines.Complete name) = ended_next (request_of name b.names) b
body_step bytes sectors b (body_lines.Step step) = do
  fine ← step_test bytes sectors (time_after b.body) step
  Ok (with_command b (commands.Step step))

-- The result of a call agrees with `step`. If the call succeeds, `step` is Ok with the value
-- `after`, which the call leaves. If it refuses, `step` is the same refusal. If memory ran out,
-- nothing is claimed.
abbrev pub AgreesWithStep : {A : Type 0} → Result (Unit {0}) LineError → A → Result A Refusal → Type 0
AgreesWithStep (Ok done) after step = step ≡ Ok after
AgreesWithStep (Err (line_errors.Refused refusal)) after step = step ≡ Err refusal
AgreesWithStep (Err line_errors.Memory) after step = Unit {0}
