-- The third slot, over the second.
use Rattle.std.specs.Prelude.{ℕ, List, Result}
use Rattle.bio.specs.declared.outcome.DevError.{DevError}
use Rattle.blockdev.specs.declared.message.MessageError.{MessageError}
use Rattle.blockdev.specs.View.{Call, IsLawful, View}
use Rattle.layer_table.specs.declared.levels.three.Three.{Three}
use Rattle.layer_table.specs.TwoLevel.{two_answers, two_lawful}
use Rattle.layer_table.specs.SlotLaws.{slot_lawful}
use Rattle.layer_table.specs.Slots.{SlotAnswers, slot_does, slot_shown}

-- the view of the third slot
abbrev pub three_shown : Three → View
three_shown level = slot_shown level.top

-- the effect of the slot's calls
abbrev pub three_does : Three → Call → ℕ → Result ℕ DevError → Three → Type 0
three_does old call now result new = slot_does old.top call now result new.top

-- the third slot keeps the law of a device
pub three_lawful : (level : Three) → IsLawful (three_shown level)
three_lawful level = slot_lawful two_lawful level.top

-- the answer to a message to the slot
abbrev pub three_answers : Three → ℕ → List ℕ → Result (Unit {0}) MessageError → Three → Type 0
three_answers old layer text result new = SlotAnswers two_answers old.top layer text result new.top
