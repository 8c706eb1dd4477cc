-- How refusals, faults and errors are reported and printed.
use Rattle.std.specs.Prelude.{◌≡◌, ◌⊎◌, ℕ, List, ◌++◌, Option, Some, None, codes}
use Rattle.std.specs.declared.io.ErrorKind.{ErrorKind}
use Rattle.std.specs.declared.io.ErrorKind.TheVariants as kinds
use Rattle.std.specs.Fmt.{decimal}
use Rattle.refusals.specs.declared.refusal.Refusal.{Refusal}
use Rattle.refusals.specs.declared.refusal.Refusal.TheVariants as refusals
use Rattle.refusals.specs.declared.run_error.End.{End}
use Rattle.refusals.specs.declared.run_error.End.TheVariants as ends
use Rattle.refusals.specs.declared.run_error.Fault.{Fault}
use Rattle.refusals.specs.declared.run_error.RunError.{RunError}
use Rattle.refusals.specs.declared.run_error.RunError.TheVariants.{LoggingEnded, StoppedAfter}
use Rattle.refusals.specs.declared.run_error.RunError.TheVariants.{Refused}
use Rattle.refusals.specs.Table.{row_of}

-- How a refusal and a fault are printed.

-- the text of a refusal: its number and its name
abbrev pub refusal_text : Refusal → List ℕ
refusal_text refusal = decimal (row_of refusal).0 ++ codes " " ++ (row_of refusal).1

-- the text of a refusal after the line at fault, if there is one
abbrev pub refused_at : Option ℕ → Refusal → List ℕ
refused_at (Some line) refusal = codes "line " ++ decimal line ++ codes ": " ++ refusal_text refusal
refused_at None refusal = refusal_text refusal

-- the text of a fault: its line, if it names one, and its refusal
abbrev pub fault_text : Fault → List ℕ
fault_text fault = refused_at fault.line fault.refusal

-- a fault that names no line
abbrev pub without_line : Refusal → Fault
without_line refusal = record { line = None; refusal = refusal }

-- The errors that end a command early, and how they are printed.
-- The refusals that report why logging ended.

-- the refusal that reports a cause that ended logging
abbrev pub end_refusal : End → Refusal
end_refusal ends.Full = refusals.Full
end_refusal ends.Device = refusals.Device
end_refusal ends.Memory = refusals.EndMemory

-- the error with this refusal, and no line
abbrev pub refused_by : Refusal → RunError
refused_by refusal = Refused (without_line refusal)

-- the error for lack of memory
abbrev pub memory_error : RunError
memory_error = refused_by refusals.Memory

-- the refusal that reports an error of this kind of a file or an output
abbrev pub io_refusal : ErrorKind → Refusal
io_refusal kinds.OutOfMemory = refusals.Memory
io_refusal _ = refusals.File

-- the error reports that a file or an output can't be read or written, or that memory ran out
abbrev pub IsFileError : RunError → Type 0
IsFileError error = (error ≡ refused_by refusals.File) ⊎ (error ≡ memory_error)

-- The error's refusal, with its line if it has one. If logging ended, the refusal reports the
-- cause. If a replay or a copy stopped, the refusal is the one that stopped it.
abbrev pub fault_of : RunError → Fault
fault_of (Refused fault) = fault
fault_of (LoggingEnded end) = without_line (end_refusal end)
fault_of (StoppedAfter applied refusal) = without_line refusal

-- the number of the log's entries that were taken before the error; 0 for other errors
abbrev pub taken_before : RunError → ℕ
taken_before (StoppedAfter applied refusal) = applied
taken_before other = 0

-- The text of an error: its fault, or the refusal that reports why logging ended. If a replay or a
-- copy stopped, the number of entries that it had taken follows the refusal.
abbrev pub error_text : RunError → List ℕ
error_text (Refused fault) = fault_text fault
error_text (LoggingEnded end) = refusal_text (end_refusal end)
error_text (StoppedAfter applied refusal) =
    refusal_text refusal ++ codes " after " ++ decimal applied ++ codes " entries"
