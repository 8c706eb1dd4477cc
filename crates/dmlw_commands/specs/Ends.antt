-- How a command ends: its exit, and what it writes to the error stream.
-- The exit of a command with a given result, its exit status, and the line that reports its fault.
use Rattle.std.specs.Prelude.{codes, ◌⊎◌, ◌≡◌, ℕ, Bool, true, false, List, [], ◌++◌, None, Option}
use Rattle.std.specs.Prelude.{Result, Ok, Err, Some}
use Rattle.std.specs.Io.KnownBytes.{Appends}
use Rattle.refusals.specs.declared.run_error.End.{End}
use Rattle.refusals.specs.declared.run_error.RunError.{RunError}
use Rattle.refusals.specs.declared.run_error.RunError.TheVariants as errors
use Rattle.refusals.specs.Errors.{error_text}
use Rattle.bio.specs.declared.outcome.Status.{Status}
use Rattle.dmlw_commands.specs.declared.ending.Ended.{Ended}
use Rattle.dmlw_commands.specs.declared.exit.Exit.{Exit}
use Rattle.dmlw_commands.specs.declared.exit.Exit.TheVariants.{RuledOut, Done, Refused, Usage}
use Rattle.dmlw_commands.specs.declared.exit.Exit.TheVariants.{LoggingEnded}
use Rattle.dmlw_commands.specs.Seen.{Effect, Seen}

-- The program's exit status.
abbrev pub exit_status_of : Exit → ℕ
exit_status_of Done = 0
exit_status_of Refused = 1
exit_status_of Usage = 2
exit_status_of LoggingEnded = 3
exit_status_of RuledOut = 1

-- The exit of a command that ends with this fault.
abbrev pub exit_of : RunError → Exit
exit_of (errors.Refused fault) = Refused
exit_of (errors.LoggingEnded end) = LoggingEnded
exit_of (errors.StoppedAfter applied refusal) = Refused

-- The exit of a command with this result: `Done`, or that of its fault.
abbrev pub exit_by : {T : Type 0} → Result T RunError → Exit
exit_by (Ok done) = Done
exit_by (Err fault) = exit_of fault

-- The exit of a recording: `LoggingEnded` if logging ended early, otherwise `Done`.
abbrev pub exit_at : Option End → Exit
exit_at None = Done
exit_at (Some cause) = LoggingEnded

-- The exit of a recording with this result. If the result is Ok, it is `LoggingEnded` or `Done`;
-- otherwise the exit of the fault.
abbrev pub exit_after : Result Status RunError → Exit
exit_after (Ok status) = exit_at status.end
exit_after (Err fault) = exit_of fault

-- The exit is `Refused`, `Usage` or `RuledOut`. After such an exit each file holds what it held
-- (`EndsCommand` in `dmlw`).
abbrev pub IsRefusal : Exit → Type 0
IsRefusal exit = (exit ≡ Refused) ⊎ (exit ≡ Usage) ⊎ (exit ≡ RuledOut)

-- The line that reports a fault to the user.
abbrev pub fault_line : RunError → List ℕ
fault_line fault = codes "dmlw: " ++ error_text fault ++ codes "\n"

-- The line that reports the fault of this result; empty if the result is Ok.
abbrev pub reported_line : {T : Type 0} → Result T RunError → List ℕ
reported_line (Ok done) = []
reported_line (Err fault) = fault_line fault

-- Whether a command explains itself, and the content of the error stream before and after the
-- command.
pub record ErrStream : Type 0 where
  pub explains : Bool
  pub before : Option (List ℕ)
  pub after : Option (List ℕ)

abbrev pub err_stream : Bool → Option (List ℕ) → Option (List ℕ) → ErrStream
err_stream explains before after = record { explains = explains; before = before; after = after }

-- The command ends with `exit`. If the error stream took all, it got `line`, and perhaps more after
-- it if the command explains itself. If the command doesn't explain itself and `line` is empty, the
-- stream is unchanged.
pub record ReportsLine (t : ErrStream) (exit : Exit) (line : List ℕ) (ended : Ended) : Type 0 where
  pub exits : ended.exit ≡ exit
  pub told : ended.err_taken ≡ true
      → (more : List ℕ) × (t.explains ≡ false → more ≡ []) × Appends t.before t.after (line ++ more)
  pub quiet : t.explains ≡ false → line ≡ [] → t.after ≡ t.before

-- A command with the result `done` ends with the exit of `done`. It reports the line of its fault,
-- or no line if `done` is Ok.
abbrev pub ReportsFault : {T : Type 0} → ErrStream → Result T RunError → Ended → Type 0
ReportsFault t done ended = ReportsLine t (exit_by done) (reported_line done) ended

-- The command did what `does` says, with the result `done`. It ends with the exit `exits done`. It
-- reports the line of its fault, or no line if `done` is Ok.
pub record EndsAsCommand {T : Type 0} (does : Effect T) (exits : Result T RunError → Exit) (explains : Bool)
    (old new : Seen) (ended : Ended) : Type 0 where
  pub done : Result T RunError
  pub did : does old new done
  pub tells : ReportsLine (err_stream explains old.err new.err) (exits done) (reported_line done)
      ended
