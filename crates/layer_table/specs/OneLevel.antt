-- The lowest slot, over the disk.
use Rattle.std.specs.Prelude.{◌≡◌, ℕ, Err, List, Result}
use Rattle.bio.specs.declared.outcome.DevError.{DevError}
use Rattle.blockdev.specs.declared.message.MessageError.{MessageError}
use Rattle.blockdev.specs.declared.message.MessageError.TheVariants.{BadMessage}
use Rattle.blockdev.specs.View.{Call, IsLawful, View}
use Rattle.sector_disk.specs.declared.disk.SectorDisk.{SectorDisk}
use Rattle.sector_disk.specs.CandidateLaws.{disk_lawful}
use Rattle.layer_table.specs.declared.levels.one.One.{One}
use Rattle.layer_table.specs.SlotLaws.{slot_lawful}
use Rattle.layer_table.specs.Slots.{SlotAnswers, slot_does, slot_shown}

-- the view of the lowest slot
abbrev pub one_shown : One → View
one_shown level = slot_shown level.top

-- the effect of the slot's calls
abbrev pub one_does : One → Call → ℕ → Result ℕ DevError → One → Type 0
one_does old call now result new = slot_does old.top call now result new.top

-- the lowest slot keeps the law of a device
pub one_lawful : (level : One) → IsLawful (one_shown level)
one_lawful level = slot_lawful disk_lawful level.top

-- a disk takes no message
abbrev pub DiskAnswers : SectorDisk → ℕ → List ℕ → Result (Unit {0}) MessageError → SectorDisk
    → Type 0
DiskAnswers old layer text result new = (result ≡ Err BadMessage) × (new ≡ old)

-- the answer to a message to the slot
abbrev pub one_answers : One → ℕ → List ℕ → Result (Unit {0}) MessageError → One → Type 0
one_answers old layer text result new = SlotAnswers DiskAnswers old.top layer text result new.top
