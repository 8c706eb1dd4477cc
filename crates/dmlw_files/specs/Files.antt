-- What is known of files: which writes were asked for, and what each file holds. The contracts of
-- `Files`, and those of commands that read or write files, use these definitions.
use Rattle.std.proofs.Common.{subst, sym}
use Rattle.std.specs.Prelude.{◌%◌, Some, None, option_map, ◌≡◌, ◌≤◌, ◌<◌, ℕ, length, List, [], ◌∷◌}
use Rattle.std.specs.Prelude.{◌++◌, Option}
use Rattle.std.specs.declared.io.ErrorKind.{ErrorKind}
use Rattle.std.specs.declared.io.ErrorKind.TheVariants as kinds
use Rattle.refusals.specs.declared.refusal.Refusal.{Refusal}
use Rattle.refusals.specs.declared.refusal.Refusal.TheVariants as refusals
use Rattle.bio.specs.Content.{gather}
use Rattle.sector_disk.specs.declared.disk.SectorDisk.{SectorDisk}
use Rattle.sector_disk.specs.DiskView.{shown_of}
use Rattle.dmlw_files.specs.declared.files.FileError.{FileError}
use Rattle.dmlw_files.specs.declared.files.FileError.TheVariants.{Unusable, Memory}

-- A write that was asked for: the name of the file, and the bytes to write.
pub record Write : Type 0 where
  pub name : List ℕ
  pub bytes : List ℕ

-- The writes and one more write after them, if the writes are known.
abbrev pub with_write : Option (List Write) → List ℕ → List ℕ → Option (List Write)
with_write writes name bytes =
    option_map (λ before. before ++ record { name = name; bytes = bytes } ∷ []) writes

-- `new` are the writes `old` and one more, of the file `name`, if the writes are known.
abbrev pub AddsWrite : List ℕ → Option (List Write) → Option (List Write) → Type 0
AddsWrite name old new = (bytes : List ℕ) × (new ≡ with_write old name bytes)

-- If it is known what a file holds, the file holds `bytes`.
abbrev pub MatchesContents : Option (List ℕ) → List ℕ → Type 0
MatchesContents None bytes = Unit {0}
MatchesContents (Some known) bytes = bytes ≡ known

-- It is known what a file holds, and that is at most `limit` bytes.
abbrev pub FileIsWithin : ℕ → Option (List ℕ) → Type 0
FileIsWithin limit None = ⊥
FileIsWithin limit (Some known) = length known ≤ limit

-- Each file holds the same as before, as far as that is known.
abbrev pub KeepsFiles : (List ℕ → Option (List ℕ)) → (List ℕ → Option (List ℕ)) → Type 0
KeepsFiles old new = (name : List ℕ) → new name ≡ old name

-- It is known what a file holds, and that is more than `limit` bytes.
abbrev pub IsTooLong : ℕ → Option (List ℕ) → Type 0
IsTooLong limit None = ⊥
IsTooLong limit (Some known) = limit < length known

-- Which error a failed call on a file gives, and which refusal reports it. The contracts of
-- `src/files` use both.

-- The error of a failed call on a file, given the kind of the operating system's error.
abbrev pub file_error : ErrorKind → FileError
file_error kinds.OutOfMemory = Memory
file_error _ = Unusable

-- The refusal that reports a file's error.
abbrev pub file_refusal : FileError → Refusal
file_refusal Unusable = refusals.File
file_refusal Memory = refusals.Memory

-- Which bytes are an image, and what the image of a disk is.

-- `bytes` are an image: whole sectors, at least one, and at most 2^29 bytes.
pub record IsImage (bytes : List ℕ) : Type 0 where
  pub whole : length bytes % 512 ≡ 0
  pub least : 512 ≤ length bytes
  pub most : length bytes ≤ 536870912

-- The image of a disk: the bytes of all its sectors, in order.
abbrev pub image_of : SectorDisk → List ℕ
image_of disk = gather (shown_of disk).content 0 (shown_of disk).size

-- It is known what a file holds, and that is an image.
abbrev pub FileHoldsImage : Option (List ℕ) → Type 0
FileHoldsImage None = ⊥
FileHoldsImage (Some known) = IsImage known

-- If a file is known to hold an image, it has at most 2^29 bytes.
pub image_within : (file : Option (List ℕ)) → FileHoldsImage file → FileIsWithin 536870912 file
image_within None is = is
image_within (Some known) is = is.most

-- If a file is known to hold an image, the bytes that are read from the file are an image.
pub image_read : (file : Option (List ℕ)) (bytes : List ℕ) → FileHoldsImage file
    → MatchesContents file bytes → IsImage bytes
image_read None bytes is same = absurd is
image_read (Some known) bytes is same = subst IsImage (sym same) is
