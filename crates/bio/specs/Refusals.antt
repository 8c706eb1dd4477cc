-- How errors of devices and bad requests are reported: as refusals, as causes of an end, and as
-- texts.
use Rattle.std.specs.Prelude.{ℕ, List, [], ◌++◌, Option, Some, None, codes}
use Rattle.std.specs.Fmt.{decimal}
use Rattle.refusals.specs.declared.refusal.Refusal.{Refusal}
use Rattle.refusals.specs.declared.refusal.Refusal.TheVariants as refusals
use Rattle.refusals.specs.declared.run_error.End.{End}
use Rattle.refusals.specs.declared.run_error.End.TheVariants as ends
use Rattle.bio.specs.declared.outcome.DevError.{DevError}
use Rattle.bio.specs.declared.outcome.DevError.TheVariants as device_errors
use Rattle.bio.specs.declared.outcome.Status.{Status}
use Rattle.bio.specs.declared.request.BadBio.{BadBio}
use Rattle.bio.specs.declared.request.BadBio.TheVariants as bad_bios

-- The refusals that report device errors and bad requests. The conversions to `Refusal` in
-- `outcome` and `request` give these.

-- the refusal that reports a device's error
abbrev pub device_refusal : DevError → Refusal
device_refusal device_errors.Io = refusals.Io
device_refusal device_errors.Memory = refusals.Memory

-- the refusal that reports a bad request
abbrev pub bad_bio_refusal : BadBio → Refusal
bad_bio_refusal bad_bios.NotWhole = refusals.NotWhole
bad_bio_refusal bad_bios.TooLong = refusals.TooLong
bad_bio_refusal bad_bios.PastEnd = refusals.PastEnd
bad_bio_refusal bad_bios.Unaligned = refusals.Unaligned

-- How an error of the log's device ends logging: contracts of `log_store` and `script_runner` cite
-- `end_cause`.

-- the cause that ends logging after an error of the log's device
abbrev pub end_cause : DevError → End
end_cause device_errors.Io = ends.Device
end_cause device_errors.Memory = ends.Memory

-- The text of a status.

-- ` logging_disabled` if logging has ended, whatever the cause; nothing if it goes on
abbrev pub end_text : Option End → List ℕ
end_text None = []
end_text (Some end) = codes " logging_disabled"

-- the text of a status: the number of entries, the highest sector, and whether logging has ended
abbrev pub status_text : Status → List ℕ
status_text status =
    decimal status.entries ++ codes " " ++ decimal status.sector ++ end_text status.end
