-- Proves how every task ends: its exit, its file writes, and its lines on the error stream.
use Rattle.std.proofs.Common.{◌≡◌, ◌≤◌, ◌⊎◌, ◌++◌, ℕ, [], append-nil, Bool, false, List}
use Rattle.std.proofs.Common.{Option, Some, None, Result, Ok, Err, arith, inl, inr, refl, subst}
use Rattle.std.proofs.Common.{sym}
use Rattle.refusals.specs.declared.run_error.End.{End}
use Rattle.bio.specs.declared.outcome.Status.{Status}
use Rattle.refusals.specs.declared.run_error.RunError.{RunError}
use Rattle.refusals.specs.declared.run_error.RunError.TheVariants as faults
use Rattle.refusals.specs.Errors.{memory_error}
use Rattle.dmlw_commands.specs.declared.exit.Exit.{Exit}
use Rattle.dmlw_commands.specs.declared.exit.Exit.TheVariants.{Done, LoggingEnded, Refused}
use Rattle.dmlw_commands.specs.declared.exit.Exit.TheVariants.{RuledOut, Usage}
use Rattle.dmlw_commands.specs.Ends.{EndsAsCommand, ErrStream, ReportsFault, ReportsLine, err_stream, IsRefusal}
use Rattle.dmlw_commands.specs.Ends.{exit_after, exit_at, exit_by, exit_of, fault_line}
use Rattle.dmlw_commands.specs.Ends.{reported_line, exit_status_of}
use Rattle.dmlw_commands.specs.declared.ending.Ended.{Ended}
use Rattle.dmlw_files.specs.Files.{KeepsFiles}
use Rattle.dmlw_commands.specs.Makings.{AsksToWrite, FailsMaking, MakesImage, Making, taken, unmade}
use Rattle.dmlw_commands.specs.Makings.{unprinted, unwritten}
use Rattle.dmlw_commands.specs.Seen.{Effect, OnlyReads, Printing, Seen}
use Rattle.world.specs.declared.reaching.Finding.{Finding}
use Rattle.world.specs.declared.reaching.Finding.TheVariants as findings
use Rattle.dmlw_commands.specs.Judgements.{Meaning, exit_answered, finding_meaning, verdict_meaning}
use Rattle.judge.specs.declared.verdict.Verdict.{Verdict}
use Rattle.judge.specs.declared.verdict.Verdict.TheVariants as verdicts
use Rattle.dmlw.specs.Commands.{EndsTask}
use Rattle.dmlw.specs.Endings.{AsksForOneWrite, EndsCommand, EndsUntasked, IsFaultLine, ReportsBy}
use Rattle.dmlw.specs.Endings.{ReportsOneLine, ReportsUntasked}
use Rattle.clap.specs.Words.{kind_of}
use Rattle.clap.specs.declared.error.kind.ErrorKind.{ErrorKind}
use Rattle.clap.specs.declared.error.kind.ErrorKind.TheVariants.{DisplayHelp, DisplayVersion}
use Rattle.clap.specs.declared.error.kind.ErrorKind.TheVariants.{OutOfMemory}
use Rattle.std.specs.Io.KnownBytes.{Appends}
use Rattle.dmlw.specs.declared.task.Task.{Task}
use Rattle.dmlw.specs.declared.task.Task.TheVariants as tasks

at_most : (exit : Exit) → exit_status_of exit ≤ 3
at_most Done = omega arith
at_most Refused = omega arith
at_most Usage = omega arith
at_most LoggingEnded = omega arith
at_most RuledOut = omega arith

ends_keeping : (old new : Seen) (exit : Exit) → new.writes ≡ old.writes
    → KeepsFiles old.files new.files → EndsCommand old new exit
ends_keeping old new exit same kept = record {
  known = at_most exit;
  once = inl same;
  unwritten = λ usage. same;
  kept = λ refused. kept;
  unmade = λ ended. inl kept;
}

abbrev PrintsLogged : Exit → Type 0
PrintsLogged exit = (exit ≡ Done) ⊎ (exit ≡ LoggingEnded)

not_usage : (exit : Exit) → PrintsLogged exit → exit ≡ Usage → ⊥
not_usage exit (inl is) usage = cc
not_usage exit (inr is) usage = cc

not_refused : (exit : Exit) → PrintsLogged exit → IsRefusal exit → ⊥
not_refused exit (inl is) (inl refused) = cc
not_refused exit (inl is) (inr (inl refused)) = cc
not_refused exit (inl is) (inr (inr refused)) = cc
not_refused exit (inr is) (inl refused) = cc
not_refused exit (inr is) (inr (inl refused)) = cc
not_refused exit (inr is) (inr (inr refused)) = cc

fault_usage : (fault : RunError) → exit_of fault ≡ Usage → ⊥
fault_usage (faults.Refused fault) usage = let no : Refused ≡ Usage = usage in cc
fault_usage (faults.LoggingEnded end) usage = let no : LoggingEnded ≡ Usage = usage in cc
fault_usage (faults.StoppedAfter applied refusal) usage = let no : Refused ≡ Usage = usage in cc

asked_one : {T : Type 0} (making : Making T) (name : List ℕ) (old new : Seen) (result : T)
    → AsksToWrite making name old new result → AsksForOneWrite old.writes new.writes
asked_one making name old new result asks = (name, (asks.image, asks.asked))

failed_once : {T : Type 0} (making : Making T) (read name : List ℕ) (old new : Seen)
    (fault : RunError) → FailsMaking making read name old new fault
    → (new.writes ≡ old.writes) ⊎ AsksForOneWrite old.writes new.writes
failed_once making read name old new fault (unmade fails same) = inl same
failed_once making read name old new fault (taken is one none same) = inl same
failed_once making read name old new fault (unprinted is result lines image made same) = inl same
failed_once making read name old new fault (unwritten is result asks) =
    inr (asked_one making name old new result asks)

ends_making : {T : Type 0} (making : (List ℕ → Option (List ℕ)) → Making T) (read name : List ℕ)
    (exits : Result T RunError → Exit) → ((result : T) → PrintsLogged (exits (Ok result)))
    → ((fault : RunError) → exits (Err fault) ≡ exit_of fault)
    → (old new : Seen) (done : Result T RunError) (exit : Exit)
    → MakesImage making read name old new done → exit ≡ exits done → EndsCommand old new exit
ends_making making read name exits logged by_fault old new (Ok result) exit makes is =
    grind (arith, asked_one, at_most, unwritten, not_usage, not_refused, unmade)
ends_making making read name exits logged by_fault old new (Err fault) exit makes is =
    grind (arith, failed_once, by_fault, at_most, unwritten, fault_usage, unmade)

after_logged : (status : Status) → PrintsLogged (exit_after (Ok status))
after_logged status = at_end status.end
  where
    at_end : (end : Option End) → PrintsLogged (exit_at end)
    at_end None = inl refl
    at_end (Some cause) = inr refl

makes_end : {T : Type 0} (making : (List ℕ → Option (List ℕ)) → Making T) (read name : List ℕ)
    (explains : Bool) (old new : Seen) (ended : Ended)
    → EndsAsCommand (MakesImage making read name) exit_by explains old new ended
    → EndsCommand old new ended.exit
makes_end making read name explains old new ended ends = grind (arith, ends_making)

records_end : (making : (List ℕ → Option (List ℕ)) → Making Status) (read name : List ℕ)
    (explains : Bool) (old new : Seen) (ended : Ended)
    → EndsAsCommand (MakesImage making read name) exit_after explains old new ended
    → EndsCommand old new ended.exit
records_end making read name explains old new ended ends = grind (arith, ends_making, after_logged)

reads_end : {T : Type 0} (prints : (List ℕ → Option (List ℕ)) → Printing T)
    (exits : Result T RunError → Exit) (explains : Bool) (old new : Seen) (ended : Ended)
    → EndsAsCommand (OnlyReads prints) exits explains old new ended → EndsCommand old new ended.exit
reads_end prints exits explains old new ended ends =
    ends_keeping old new ended.exit ends.did.unwritten ends.did.kept

-- How each command ends: one that makes a file, records a log, or only reads.
ruleset any_end = (makes_end, records_end, reads_end)

pub ends_task : (task : Task) (explains : Bool) (old new : Seen) (ended : Ended)
    → EndsTask task explains old new ended → EndsCommand old new ended.exit
ends_task (tasks.Show error) explains old new ended ends =
    ends_keeping old new ended.exit ends.unwritten ends.kept
ends_task (tasks.HasBadWord flaw word) explains old new ended ends =
    ends_keeping old new ended.exit ends.unwritten ends.kept
ends_task task explains old new ended ends =
    search any_end

nothing_behind : (old new : Option (List ℕ)) (line more : List ℕ) → more ≡ []
    → Appends old new (line ++ more) → Appends old new line
nothing_behind old new line more none grew = grind (arith, append-nil)

told_one_line : (t : ErrStream) (exit : Exit) (line : List ℕ) (ended : Ended) → t.explains ≡ false
    → IsFaultLine exit line → ReportsLine t exit line ended
    → ReportsOneLine ended t.before t.after
told_one_line t exit line ended off is tells = record {
  line = line;
  is = rw tells.exits is;
  told = λ yes.
      grind (arith, nothing_behind);
}

told_fault : (t : ErrStream) (cause : RunError) (ended : Ended) → t.explains ≡ false
    → ReportsLine t (exit_of cause) (fault_line cause) ended
    → ReportsBy ended.exit ended t.before t.after
told_fault t cause ended off tells =
    subst (λ (e : Exit). ReportsBy e ended t.before t.after) (sym tells.exits)
    (by_fault cause (told_one_line t (exit_of cause) (fault_line cause) ended off
    (record { cause = cause; ends = refl; is = refl }) tells))
  where
    by_fault : (cause : RunError) → ReportsOneLine ended t.before t.after
        → ReportsBy (exit_of cause) ended t.before t.after
    by_fault (faults.Refused refused) line = line
    by_fault (faults.LoggingEnded end) line = inr line
    by_fault (faults.StoppedAfter applied refusal) line = line

-- The exit of a command whose result is Ok.
abbrev EndsOk : Exit → Type 0
EndsOk exit = PrintsLogged exit ⊎ (exit ≡ RuledOut)

told_nothing : (exit : Exit) (ended : Ended) (old new : Option (List ℕ)) → EndsOk exit
    → new ≡ old → ReportsBy exit ended old new
told_nothing exit ended old new (inl (inl is)) same = rw is same
told_nothing exit ended old new (inl (inr is)) same = rw is (inl same)
told_nothing exit ended old new (inr is) same = rw is same

told : {T : Type 0} (exits : Result T RunError → Exit)
    → ((result : T) → EndsOk (exits (Ok result)))
    → ((fault : RunError) → exits (Err fault) ≡ exit_of fault) → (t : ErrStream)
    (done : Result T RunError) (ended : Ended) → t.explains ≡ false
    → ReportsLine t (exits done) (reported_line done) ended
    → ReportsBy ended.exit ended t.before t.after
told exits answered by_fault t (Ok result) ended off tells = grind (arith, told_nothing)
told exits answered by_fault t (Err fault) ended off tells =
    told_fault t fault ended off (rw by_fault at tells)

told_by : {T : Type 0} (t : ErrStream) (done : Result T RunError) (ended : Ended)
    → t.explains ≡ false → ReportsFault t done ended → ReportsBy ended.exit ended t.before t.after
told_by = told exit_by (λ result. inl (inl refl)) (λ fault. refl)

verdict_answered : (verdict : Verdict) → EndsOk (verdict_meaning.ends verdict)
verdict_answered verdicts.Yes = inl (inl refl)
verdict_answered (verdicts.No sector by) = inr refl

finding_answered : (finding : Finding) → EndsOk (finding_meaning.ends finding)
finding_answered (findings.Run run) = inl (inl refl)
finding_answered (findings.RuledOut sector by) = inr refl

text_tells : (kind : ErrorKind) (t : ErrStream) (ended : Ended) → EndsUntasked kind ended.exit
    → ReportsUntasked kind t ended → t.explains ≡ false
    → ReportsBy ended.exit ended t.before t.after
text_tells OutOfMemory t ended ends tells off =
    told_by {T = Unit {0}} t (Err memory_error) ended off tells
text_tells DisplayHelp t ended ends (done, fault, tells) off = told_by t done ended off tells
text_tells DisplayVersion t ended ends (done, fault, tells) off = told_by t done ended off tells
text_tells _ t ended ends tells off =
    rw ends tt

tells_by : {T : Type 0} (does : Effect T) (explains : Bool) (old new : Seen) (ended : Ended)
    → EndsAsCommand does exit_by explains old new ended → explains ≡ false
    → ReportsBy ended.exit ended old.err new.err
tells_by does explains old new ended ends off =
    told_by (err_stream explains old.err new.err) ends.done ended off ends.tells

records_tell : (does : Effect Status) (explains : Bool) (old new : Seen) (ended : Ended)
    → EndsAsCommand does exit_after explains old new ended → explains ≡ false
    → ReportsBy ended.exit ended old.err new.err
records_tell does explains old new ended ends off =
    told exit_after (λ status. inl (after_logged status)) (λ fault. refl)
    (err_stream explains old.err new.err) ends.done ended off ends.tells

answers_tell : {A : Type 0} (meaning : Meaning A)
    → ((answer : A) → EndsOk (meaning.ends answer)) → (does : Effect A) (explains : Bool)
    (old new : Seen) (ended : Ended) → EndsAsCommand does (exit_answered meaning) explains old new ended
    → explains ≡ false → ReportsBy ended.exit ended old.err new.err
answers_tell meaning answered does explains old new ended ends off =
    told (exit_answered meaning) answered (λ fault. refl)
    (err_stream explains old.err new.err) ends.done ended off ends.tells

-- What each command reports, by the kind of its exit.
ruleset any_told = (tells_by, records_tell, answers_tell, verdict_answered, finding_answered)

pub task_tells : (task : Task) (explains : Bool) (old new : Seen) (ended : Ended)
    → EndsTask task explains old new ended → explains ≡ false
    → ReportsBy ended.exit ended old.err new.err
task_tells (tasks.Show error) explains old new ended ends off =
    text_tells (kind_of error) (err_stream explains old.err new.err) ended ends.ends ends.tells off
task_tells (tasks.HasBadWord flaw word) explains old new ended ends off =
    rw ends.usage tt
task_tells task explains old new ended ends off =
    search any_told
