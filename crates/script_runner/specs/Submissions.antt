-- Which request a line of a script submits.
use Rattle.std.specs.Prelude.{◌≡◌, ◌<◌, ◌≤◌, ℕ, [], Some, List, get_or, length, ◌*◌, Bool, true}
use Rattle.std.specs.Prelude.{false, is_ok, replicate, slice_get}
use Rattle.bio.specs.declared.request.Bio.{Bio}
use Rattle.bio.specs.declared.request.Bio.TheVariants as bios
use Rattle.bio.specs.Requests.{check_answer}
use Rattle.dmlw_script.specs.declared.command.Submission.{Submission}
use Rattle.dmlw_script.specs.declared.command.Submission.TheVariants as submits
use Rattle.script_runner.specs.declared.request.Request.{Request}
use Rattle.script_runner.specs.declared.request.Request.TheVariants as requests

-- The request that a line submits. Each byte of a write is the line's byte.
abbrev pub bio_of : Submission → Bio
bio_of (submits.Write first count byte options) =
    bios.Write first (replicate (count * 512) byte) options.flush options.fua options.meta
bio_of submits.Flush = bios.Flush
bio_of (submits.Discard first count) = bios.Discard first count

-- If the request was submitted, it passes the check of a device of `sectors` sectors.
abbrev pub fits_device : ℕ → Request → Bool
fits_device sectors (requests.Asked bio id) = is_ok (check_answer bio sectors)
fits_device sectors requests.NotAsked = true

-- The request was submitted to the recorder, and memory sufficed for it.
abbrev pub is_asked : Request → Bool
is_asked (requests.Asked bio id) = true
is_asked requests.NotAsked = false

-- The data that the writes of a script share.

-- Each byte of row n is n.
abbrev pub AreFilled : List (List ℕ) → Type 0
AreFilled rows =
    (byte : ℕ) (bytes : List ℕ) → slice_get rows byte ≡ Some bytes
    → bytes ≡ replicate (length bytes) byte

-- The row of the byte `byte` has at least `least` bytes.
pub record HasRow (least byte : ℕ) (rows : List (List ℕ)) : Type 0 where
  pub within : byte < length rows
  pub long : least ≤ length (get_or rows byte [])
