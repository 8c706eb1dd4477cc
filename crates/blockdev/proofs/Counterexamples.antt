-- For each clause of the law, of a message's effect and of calls in turn: an example that breaks
-- the clause, and so is refused.
use Rattle.std.proofs.Common.{◌≡◌, ℕ, zero, suc, true, false, List, [], ◌∷◌, Some, None, Ok, Err}
use Rattle.std.proofs.Common.{replicate, refl, ap, ◌∙◌, inl, inr, arith}
use Rattle.std.specs.Prelude.{Result, slice_index_or}
use Rattle.bio.specs.declared.outcome.DevError.{DevError}
use Rattle.bio.specs.declared.outcome.DevError.TheVariants.{Io}
use Rattle.bio.specs.Content.{Content, Patch}
use Rattle.blockdev.specs.View.{Call, DoesInTurn, IsByteRange, IsLawful, IsRange, Origin, View}
use Rattle.blockdev.specs.Messages.{Unchanged}
use Rattle.blockdev.specs.Law.{DeviceFrame, HasCause, WriteDone, NoLie, CrashSetKept, FlushDone}

-- content of one value in each sector
all : ℕ → Content
all value sector = replicate 512 value

-- a crash leaves this content alone
Only : Content → Content → Type 0
Only content left = (sector : ℕ) → left sector ≡ content sector

-- a device of one sector, of zeroes, of which each crash left that
still : View
still = record {
  size = 1;
  origin = record { sector = 0; disk = 1 };
  content = all 0;
  crash = Only (all 0);
  clock = 0;
  since = λ reading. Only (all 0);
  faults = 0;
  lies = 0;
  can_lie = false;
}

-- a call that puts 1s in sector 0
one : Patch
one zero = Some (replicate 512 1)
one (suc sector) = None

-- sectors of one value tell it
one_value : (a b : ℕ) → replicate 512 a ≡ replicate 512 b → a ≡ b
one_value a b same = ap (λ (xs : List ℕ). slice_index_or xs 0 0) same

-- another size
size : DeviceFrame one still (record still { size = 2 }) → ⊥
unfolding still
size goes = let same = goes.size in omega arith

-- another place on the disk beneath it
origin : DeviceFrame one still (record still { origin = record { sector = 1; disk = 1 } }) → ⊥
unfolding still
origin goes = let same = ap (λ (p : Origin). p.sector) goes.origin in omega arith

-- a value that isn't the call's
content : DeviceFrame one still (record still { content = all 2 }) → ⊥
unfolding still one all
content goes = elim (goes.content 0) [
  | inl old ↦ let same = one_value 2 0 old in omega arith
  | inr new ↦ let same = one_value 2 1 new in omega arith
]

-- a value that a crash leaves and that isn't the call's, for any call
crash : DeviceFrame one still (record still { crash = Only (all 2) }) → ⊥
unfolding still one all Only
crash goes =
    let old = goes.crash (all 2) (λ sector. refl) in
    elim (old.2 0) [
      | inl same ↦ let two = one_value 2 0 (same ∙ old.1 0) in omega arith
      | inr new ↦ let two = one_value 2 1 new in omega arith
    ]

-- a clock that goes back
clock : DeviceFrame one (record still { clock = 1 }) still → ⊥
unfolding still
clock goes = let h = goes.clock in omega arith

-- counts that fall
faults : DeviceFrame one (record still { faults = 1 }) still → ⊥
unfolding still
faults goes = let h = goes.faults in omega arith

lies : DeviceFrame one (record still { lies = 1; can_lie = true })
    (record still { can_lie = true }) → ⊥
unfolding still
lies goes = let h = goes.lies in omega arith

-- a lie of a device that can't tell one, and one that learns to
honest : DeviceFrame one still (record still { lies = 1 }) → ⊥
unfolding still
honest goes = let h = goes.honest refl in omega arith

can_lie : DeviceFrame one still (record still { can_lie = true }) → ⊥
unfolding still
can_lie goes = let same = goes.can_lie in cc

-- a write that ended well and left the old value
landed : WriteDone one false still still → ⊥
unfolding still one all
landed lands = let same = one_value 0 1 (lands.content 0) in omega arith

-- a flush after which a crash leaves something else
synced : FlushDone (record still { content = all 1 }) → ⊥
unfolding still all Only
synced syncs = let same = one_value 0 1 (syncs.only (all 0) (λ sector. refl) 0) in omega arith

-- a read after which a crash leaves less
stayed : CrashSetKept still (record still { crash = λ left. ⊥ }) → ⊥
unfolding still all Only
stayed stays = stays.crash (all 0) (λ sector. refl)

-- one more lie, and a count of lies at its end
lied : NoLie still (record still { lies = 1 }) → ⊥
unfolding still
lied told = let same = told.same in omega arith

-- a call that tells none, of a device that told some before it, up to one below the end
told_before : NoLie (record still { lies = 3; can_lie = true })
    (record still { lies = 3; can_lie = true })
unfolding still
told_before = record { same = refl; counted = omega arith }

ends : HasCause 5 still still (Ok 4) → ⊥
unfolding still
ends cause = let h = cause.ends 4 refl in omega arith

-- devices of no sector, of too many, and of sectors that aren't 512 bytes
none : IsLawful (record still { size = 0 }) → ⊥
unfolding still
none lawful = let h = lawful.some_sectors in omega arith

many : IsLawful (record still { size = 1048577 }) → ⊥
unfolding still
many lawful = let h = lawful.few_sectors in omega arith

-- since now, another one
now : IsLawful (record still { since = λ reading left. Unit {0} }) → ⊥
unfolding still all Only
now lawful = let same = one_value 1 0 (lawful.only_now (all 1) tt 0) in omega arith

-- one that leaves an empty sector
whole : IsLawful (record still { crash = λ left. Unit {0}; since = λ reading left. Unit {0} }) → ⊥
unfolding still
whole lawful =
    let size = lawful.whole 0 (λ sector. []) (omega arith) tt 0 (omega arith) in omega arith

-- of 8 sectors the last one is a range, one more isn't, nor is none
last : IsRange 8 7 1
last = record { some = omega arith; within = omega arith }

empty : IsRange 8 7 0 → ⊥
empty range = let h = range.some in omega arith

last_bytes : IsByteRange 8 7 512
last_bytes = record { whole = refl; some = omega arith; within = omega arith }

no_bytes : IsByteRange 8 7 0 → ⊥
no_bytes range = let h = range.some in omega arith

-- a message that changes the size, the place or the content
message_size : Unchanged still (record still { size = 2 }) → ⊥
unfolding still
message_size same = let is = same.size in omega arith

-- a device whose calls begin at the moment 5, and that notes
-- each: the first one ends well, and each later one fails
answer : List Call → Result ℕ DevError
answer [] = Ok 5
answer (call ∷ calls) = Err Io

notes : List Call → Call → ℕ → Result ℕ DevError → List Call → Type 0
notes old call now result new = (now ≡ 5) × (new ≡ call ∷ old) × (result ≡ answer old)

-- no call, one, and two of three, of which the second one failed
turn_none : DoesInTurn notes 5 [] [] (Ok tt) []
turn_none = refl

turn_unasked : DoesInTurn notes 5 [] [] (Err Io) [] → ⊥
turn_unasked none = none
