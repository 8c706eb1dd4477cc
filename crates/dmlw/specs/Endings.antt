-- How command lines end: the exit, the file writes, and the lines on the error stream.
use Rattle.std.specs.Prelude.{Bool, Err, IfErr, List, MatchResult, Option, Result, false, true, ℕ}
use Rattle.std.specs.Prelude.{◌≡◌, ◌≤◌, ◌⊎◌}
use Rattle.clap.specs.declared.error.kind.ErrorKind.{ErrorKind}
use Rattle.clap.specs.declared.error.kind.ErrorKind.TheVariants.{DisplayHelp, DisplayVersion}
use Rattle.clap.specs.declared.error.kind.ErrorKind.TheVariants.{OutOfMemory}
use Rattle.std.specs.declared.io.ErrorKind.{ErrorKind as IoErrorKind}
use Rattle.std.specs.declared.io.ErrorKind.TheVariants.{InvalidData}
use Rattle.std.specs.Io.KnownBytes.{Appends, Keeps}
use Rattle.refusals.specs.declared.run_error.RunError.{RunError}
use Rattle.refusals.specs.Errors.{IsFileError, memory_error}
use Rattle.dmlw_files.specs.Files.{AddsWrite, KeepsFiles, Write}
use Rattle.dmlw_commands.specs.declared.ending.Ended.{Ended}
use Rattle.dmlw_commands.specs.declared.exit.Exit.{Exit}
use Rattle.dmlw_commands.specs.declared.exit.Exit.TheVariants.{Done, LoggingEnded, Refused}
use Rattle.dmlw_commands.specs.declared.exit.Exit.TheVariants.{RuledOut, Usage}
use Rattle.dmlw_commands.specs.Ends.{ErrStream, IsRefusal, ReportsFault, err_stream, exit_of, fault_line}
use Rattle.dmlw_commands.specs.Ends.{exit_status_of}
use Rattle.dmlw_commands.specs.Seen.{Printing, Seen}

-- The exit if clap finds no task, given the kind of clap's error. If memory ran out, it is
-- `Refused`. For help and the version it is `Done` or `Refused`, and for any other kind `Usage`.
abbrev pub EndsUntasked : ErrorKind → Exit → Type 0
EndsUntasked OutOfMemory exit = exit ≡ Refused
EndsUntasked DisplayHelp exit = (exit ≡ Done) ⊎ (exit ≡ Refused)
EndsUntasked DisplayVersion exit = (exit ≡ Done) ⊎ (exit ≡ Refused)
EndsUntasked _ exit = exit ≡ Usage

-- The user asked for help or the version.
abbrev pub is_asked_for : ErrorKind → Bool
is_asked_for DisplayHelp = true
is_asked_for DisplayVersion = true
is_asked_for _ = false

-- How a command ends that prints help or the version. If printing fails, the output can't be
-- written or memory ran out, and the error stream gets this fault's line. About the output nothing
-- is claimed.
abbrev pub ReportsPrinting : ErrStream → Ended → Type 0
ReportsPrinting t ended =
    (done : Result (Unit {0}) RunError) × IfErr done IsFileError × ReportsFault t done ended

-- The exit if the words of the command line can't be read: `Usage` if a word isn't UTF-8 text,
-- otherwise `Refused`.
abbrev pub unread_exit : IoErrorKind → Exit
unread_exit InvalidData = Usage
unread_exit _ = Refused

-- If the writes are known, `new` are the writes in `old` and one more, of any file.
abbrev pub AsksForOneWrite : Option (List Write) → Option (List Write) → Type 0
AsksForOneWrite old new = (name : List ℕ) × AddsWrite name old new

-- How every command line ends. The exit status is from 0 to 3. At most one file write was asked
-- for, and none if the exit is `Usage`.
--
-- If the exit is a refusal (`IsRefusal`), each file holds what it held. If logging ended, each file
-- holds what it held, or one write was asked for.
pub record EndsCommand (old new : Seen) (exit : Exit) : Type 0 where
  pub known : exit_status_of exit ≤ 3
  pub once : (new.writes ≡ old.writes) ⊎ AsksForOneWrite old.writes new.writes
  pub unwritten : exit ≡ Usage → new.writes ≡ old.writes
  pub kept : IsRefusal exit → KeepsFiles old.files new.files
  pub unmade : exit ≡ LoggingEnded
      → KeepsFiles old.files new.files ⊎ AsksForOneWrite old.writes new.writes

-- What the error stream gets if the command only shows clap's text. If memory ran out, it gets the
-- line of this fault. For help and the version, see `ReportsPrinting`. For other kinds nothing is
-- claimed.
abbrev pub ReportsUntasked : ErrorKind → ErrStream → Ended → Type 0
ReportsUntasked OutOfMemory t ended = ReportsFault {T = Unit {0}} t (Err memory_error) ended
ReportsUntasked DisplayHelp t ended = ReportsPrinting t ended
ReportsUntasked DisplayVersion t ended = ReportsPrinting t ended
ReportsUntasked _ t ended = Unit {0}

-- How a command ends that only shows clap's text of the kind `kind`. It asks for no file write, and
-- each file holds what it held.
--
-- Its exit is as `EndsUntasked` says, and the error stream as `ReportsUntasked` says. Nothing goes
-- to the output, unless the user asked for help or the version.
pub record EndsText (kind : ErrorKind) (explains : Bool) (old new : Seen)
    (ended : Ended) : Type 0 where
  pub unwritten : new.writes ≡ old.writes
  pub kept : KeepsFiles old.files new.files
  pub ends : EndsUntasked kind ended.exit
  pub silent : is_asked_for kind ≡ false → Keeps old.out new.out
  pub tells : ReportsUntasked kind (err_stream explains old.err new.err) ended

-- If printing `page` succeeds, `page` is appended to the output. If printing fails, the output
-- can't be written or memory ran out.
abbrev pub PrintsPage : List ℕ → Printing (Unit {0})
PrintsPage page old new done = MatchResult done (λ _. Appends old new page) IsFileError

-- How a command ends that prints `page`. If printing fails, the output can't be written or memory
-- ran out, and the error stream gets this fault's line.
pub record ReportsPage (page : List ℕ) (old new : Option (List ℕ)) (t : ErrStream)
    (ended : Ended) : Type 0 where
  pub done : Result (Unit {0}) RunError
  pub printed : PrintsPage page old new done
  pub tells : ReportsFault t done ended

-- `line` is the line of a fault whose exit is `exit`.
pub record IsFaultLine (exit : Exit) (line : List ℕ) : Type 0 where
  pub cause : RunError
  pub ends : exit ≡ exit_of cause
  pub is : line ≡ fault_line cause

-- The command's exit is that of a fault. If the error stream took all that was written, it got
-- exactly this fault's line.
pub record ReportsOneLine (ended : Ended) (old new : Option (List ℕ)) : Type 0 where
  pub line : List ℕ
  pub is : IsFaultLine ended.exit line
  pub told : ended.err_taken ≡ true → Appends old new line

-- What the error stream gets from a command without `--explain`, by the command's exit.
-- - `Done` and `RuledOut`: nothing.
-- - `Refused`: one line.
-- - `LoggingEnded`: one line or nothing.
-- - `Usage`: nothing is claimed.
abbrev pub ReportsBy : Exit → Ended → Option (List ℕ) → Option (List ℕ) → Type 0
ReportsBy Done ended old new = new ≡ old
ReportsBy Refused ended old new = ReportsOneLine ended old new
ReportsBy Usage ended old new = Unit {0}
ReportsBy LoggingEnded ended old new = (new ≡ old) ⊎ ReportsOneLine ended old new
ReportsBy RuledOut ended old new = new ≡ old
