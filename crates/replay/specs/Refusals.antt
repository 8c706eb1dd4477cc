-- The refusal that reports why a replay stopped. The conversion in `src/fault` cites it, and so
-- does the command `replay`.
use Rattle.refusals.specs.declared.refusal.Refusal.{Refusal}
use Rattle.refusals.specs.declared.refusal.Refusal.TheVariants as refusals
use Rattle.refusals.specs.Errors.{end_refusal}
use Rattle.bio.specs.Refusals.{device_refusal}
use Rattle.log_reader.specs.Refusals.{read_device_refusal}
use Rattle.replay.specs.declared.fault.CopyError.{CopyError}
use Rattle.replay.specs.declared.fault.CopyError.TheVariants as copies
use Rattle.replay.specs.declared.fault.ReplayError.{ReplayError}
use Rattle.replay.specs.declared.fault.ReplayError.TheVariants as replays

-- the refusal that reports why a replay stopped
abbrev pub replay_refusal : ReplayError → Refusal
replay_refusal replays.PastEntries = refusals.PastEntries
replay_refusal replays.NoSuchMark = refusals.NoSuchMark
replay_refusal replays.NoFlush = refusals.NoFlush
replay_refusal replays.PastTarget = refusals.PastTarget
replay_refusal (replays.Log error) = read_device_refusal error
replay_refusal (replays.Target error) = device_refusal error

-- The refusal that reports an error of a copy. `CopyError` in `src/fault` is converted to it,
-- and `dmlw copy` ends with it.

-- the refusal that reports an error of a copy
abbrev pub copy_refusal : CopyError → Refusal
copy_refusal (copies.Log error) = read_device_refusal error
copy_refusal copies.Unaligned = refusals.Unaligned
copy_refusal (copies.Store end) = end_refusal end
