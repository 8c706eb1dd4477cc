-- What a command does that makes an image for a file.
use Rattle.std.specs.Prelude.{◌≡◌, ℕ, List, MatchResult, Option, Result}
use Rattle.std.specs.Io.KnownBytes.{Appends, Keeps}
use Rattle.refusals.specs.declared.refusal.Refusal.TheVariants as refusals
use Rattle.refusals.specs.declared.run_error.RunError.{RunError}
use Rattle.refusals.specs.Errors.{IsFileError, refused_by}
use Rattle.dmlw_files.specs.Files.{KeepsFiles, MatchesContents, with_write}
use Rattle.dmlw_commands.specs.Seen.{Seen}

-- What a command makes.
-- - `makes`: the result, the printed lines and the image.
-- - `fails`: the output before and after, and the fault, if no image is made.
pub record Making (T : Type 0) : Type 1 where
  pub makes : T → List ℕ → List ℕ → Type 0
  pub fails : Option (List ℕ) → Option (List ℕ) → RunError → Type 0

-- The command made an image with the result `result`, and printed its lines. It asked for one more
-- write: the image to the file `name`.
pub record AsksToWrite {T : Type 0} (making : Making T) (name : List ℕ) (old new : Seen)
    (result : T) : Type 0 where
  pub lines : List ℕ
  pub image : List ℕ
  pub made : making.makes result lines image
  pub printed : Appends old.out new.out lines
  pub asked : new.writes ≡ with_write old.writes name image

-- The same as `AsksToWrite`, and the file `name` holds the image, if its content is known.
pub record IsMade {T : Type 0} (making : Making T) (name : List ℕ) (old new : Seen)
    (result : T) : Type 0 where
  pub asks : AsksToWrite making name old new result
  pub held : MatchesContents (new.files name) asks.image

-- Why a command that makes an image fails.
-- - `unmade`: no image was made, and no write was asked for.
-- - `taken`: the command is refused as a file and prints nothing. Before it, the files `read` and
--   `name` hold the same. No write was asked for.
-- - `unprinted`: an image was made, but the output can't be written or memory ran out. No write was
--   asked for.
-- - `unwritten`: an image was made, its lines were printed, and the write was asked for, but
--   failed.
pub data FailsMaking {T : Type 0} (making : Making T) (read name : List ℕ) (old new : Seen)
    (fault : RunError) : Type 0 where
  unmade : making.fails old.out new.out fault → new.writes ≡ old.writes
      → FailsMaking making read name old new fault
  taken : fault ≡ refused_by refusals.File → old.files read ≡ old.files name
      → Keeps old.out new.out → new.writes ≡ old.writes
      → FailsMaking making read name old new fault
  unprinted : IsFileError fault → (result : T) (lines image : List ℕ)
      → making.makes result lines image → new.writes ≡ old.writes
      → FailsMaking making read name old new fault
  unwritten : IsFileError fault → (result : T) → AsksToWrite making name old new result
      → FailsMaking making read name old new fault

-- The result of a command that reads the file `read` and makes an image for the file `name`. If it
-- succeeds, the file `name` holds the image. If it fails, each file holds what it held.
pub record MakesImage {T : Type 0} (making : (List ℕ → Option (List ℕ)) → Making T) (read name : List ℕ)
    (old new : Seen) (done : Result T RunError) : Type 0 where
  pub came : MatchResult done (IsMade (making old.files) name old new)
      (λ fault. FailsMaking (making old.files) read name old new fault
      × KeepsFiles old.files new.files)
  -- If both names are the same, no write is asked for.
  pub apart : read ≡ name → new.writes ≡ old.writes
