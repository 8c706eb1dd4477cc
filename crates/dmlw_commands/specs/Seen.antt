-- What is known of a command's files and streams before and after it.
use Rattle.std.specs.Prelude.{◌≡◌, ℕ, List, Option, Result}
use Rattle.refusals.specs.declared.run_error.RunError.{RunError}
use Rattle.dmlw_files.specs.Files.{KeepsFiles, Write}

-- What is known at one time of the files and the streams that a command uses.
pub record Seen : Type 0 where
  -- The content of each file, by its name.
  pub files : List ℕ → Option (List ℕ)
  -- The file writes that were asked for, oldest first.
  pub writes : Option (List Write)
  -- The content of the output.
  pub out : Option (List ℕ)
  -- The content of the error stream.
  pub err : Option (List ℕ)

abbrev pub seen : (List ℕ → Option (List ℕ)) → Option (List Write) → Option (List ℕ)
    → Option (List ℕ) → Seen
seen files writes out err = record { files = files; writes = writes; out = out; err = err }

-- What a command does: a relation between what is seen before, what is seen after, and the result.
abbrev pub Effect : Type 0 → Type 1
Effect T = Seen → Seen → Result T RunError → Type 0

-- What a command prints: a relation between the output before, the output after, and the result.
abbrev pub Printing : Type 0 → Type 1
Printing T = Option (List ℕ) → Option (List ℕ) → Result T RunError → Type 0

-- A command only reads files. It prints as `prints` says, given the content of the files. It asks
-- for no file write, and each file holds what it held.
pub record OnlyReads {T : Type 0} (prints : (List ℕ → Option (List ℕ)) → Printing T)
    (old new : Seen) (done : Result T RunError) : Type 0 where
  pub printed : prints old.files old.out new.out done
  pub unwritten : new.writes ≡ old.writes
  pub kept : KeepsFiles old.files new.files
