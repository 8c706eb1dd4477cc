-- The second slot, over the lowest.
use Rattle.std.specs.Prelude.{ℕ, List, Result}
use Rattle.bio.specs.declared.outcome.DevError.{DevError}
use Rattle.blockdev.specs.declared.message.MessageError.{MessageError}
use Rattle.blockdev.specs.View.{Call, IsLawful, View}
use Rattle.layer_table.specs.declared.levels.two.Two.{Two}
use Rattle.layer_table.specs.OneLevel.{one_answers, one_lawful}
use Rattle.layer_table.specs.SlotLaws.{slot_lawful}
use Rattle.layer_table.specs.Slots.{SlotAnswers, slot_does, slot_shown}

-- the view of the second slot
abbrev pub two_shown : Two → View
two_shown level = slot_shown level.top

-- the effect of the slot's calls
abbrev pub two_does : Two → Call → ℕ → Result ℕ DevError → Two → Type 0
two_does old call now result new = slot_does old.top call now result new.top

-- the second slot keeps the law of a device
pub two_lawful : (level : Two) → IsLawful (two_shown level)
two_lawful level = slot_lawful one_lawful level.top

-- the answer to a message to the slot
abbrev pub two_answers : Two → ℕ → List ℕ → Result (Unit {0}) MessageError → Two → Type 0
two_answers old layer text result new = SlotAnswers one_answers old.top layer text result new.top
