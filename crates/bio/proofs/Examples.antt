-- Worked examples, by computation: of requests, event lists, contents, and of what a device could
-- hold.
use Rattle.std.proofs.Common.{get_or, slice_get, replicate, ap, inl, inr, arith, ◌≡◌, ℕ, zero, suc}
use Rattle.std.proofs.Common.{Bool, true, false, None, List, Some, [], ◌∷◌, ◌++◌, Ok, Err, refl}
use Rattle.std.specs.Prelude.{◌==◌, if◌then◌else◌}
use Rattle.bio.specs.Content.{Content, discards, gather, moved, over, put, sector_of, writes}
use Rattle.bio.specs.declared.event.CoreEvent.{CoreEvent}
use Rattle.bio.specs.declared.event.CoreEvent.TheVariants.{Submit, Complete, Mark, Close}
use Rattle.bio.specs.declared.request.BadBio.TheVariants.{PastEnd, Unaligned}
use Rattle.bio.specs.declared.request.Bio.TheVariants.{Write, Flush, Discard, Read}
use Rattle.bio.specs.Events.{flush_after, is_before, is_lawful, is_lawful_sized, is_text}
use Rattle.bio.specs.Events.{is_well_formed}
use Rattle.bio.specs.Possible.{Possible, PossibleAt, has_kept, is_durable, is_kept, is_replaced}
use Rattle.bio.specs.Possible.{values_at}
use Rattle.bio.specs.Requests.{check_answer, check_sized_answer, covers, is_aligned, is_change}
use Rattle.bio.specs.Requests.{overlaps}

-- Which sectors requests cover, which overlap, what `check` answers, and which event lists are well
-- formed or lawful.

-- two sectors from 5 on are the sectors 5 and 6
covered-last : covers (Discard 5 2) 6 ≡ true
covered-last = refl

covered-after : covers (Discard 5 2) 7 ≡ false
covered-after = refl

-- writes and discards put values in sectors, flushes and reads don't
change-write : is_change (Write 5 [] false false false) ≡ true
change-write = refl

change-flush : is_change Flush ≡ false
change-flush = refl

change-read : is_change (Read 5 2) ≡ false
change-read = refl

-- ranges that touch don't overlap, and ranges of one common sector do
overlap-touching : overlaps (Discard 5 2) (Discard 7 1) ≡ false
overlap-touching = refl

overlap-common : overlaps (Discard 5 2) (Discard 6 1) ≡ true
overlap-common = refl

-- a text has no zero byte
text-plain : is_text (0x61 ∷ 0x62 ∷ []) ≡ true
text-plain = refl

text-zero : is_text (0x61 ∷ 0 ∷ []) ≡ false
text-zero = refl

-- a flush, a mark, the flush's end and the Close are well formed; two ends of one request aren't
orderly : is_well_formed (Submit Flush ∷ Mark (0x61 ∷ []) ∷ Complete 0 true ∷ Close ∷ []) ≡ true
orderly = refl

orderly-second_end : is_well_formed (Submit Flush ∷ Complete 0 true ∷ Complete 0 true ∷ []) ≡ false
orderly-second_end = refl

-- a list is lawful for a device that has its requests' sectors
lawful-ended : is_lawful 7 (Submit (Discard 5 2) ∷ Complete 0 true ∷ []) ≡ true
lawful-ended = refl

lawful-past : is_lawful 6 (Submit (Discard 5 2) ∷ []) ≡ false
lawful-past = refl

-- a flush after a place isn't one before it, nor its own
after-later : flush_after (Submit Flush ∷ Complete 0 true ∷ Submit Flush ∷ []) 0 ≡ Some 2
after-later = refl

after-none : flush_after (Submit Flush ∷ Complete 0 true ∷ []) 0 ≡ None
after-none = refl

-- a request that ended just before another was submitted is before it; one that ended later isn't
before-just : is_before (Submit Flush ∷ Complete 0 true ∷ Submit Flush ∷ []) 0 2 ≡ true
before-just = refl

before-late : is_before (Submit Flush ∷ Submit Flush ∷ Complete 0 true ∷ []) 0 1 ≡ false
before-late = refl

-- what `check` answers
check-within : check_answer (Discard 5 2) 7 ≡ Ok tt
check-within = refl

check-past : check_answer (Discard 5 2) 6 ≡ Err PastEnd
check-past = refl

-- with log sectors of 4,096 bytes a request begins and ends at multiples of 8 sectors
aligned-whole : is_aligned 4096 (Discard 8 16) ≡ true
aligned-whole = refl

aligned-first : is_aligned 4096 (Discard 7 16) ≡ false
aligned-first = refl

sized-whole : check_sized_answer 4096 (Discard 56 8) 64 ≡ Ok tt
sized-whole = refl

sized-odd : check_sized_answer 4096 (Read 8 7) 64 ≡ Err Unaligned
sized-odd = refl

-- a list is lawful for a log with large sectors if each of its requests is aligned
lawful-whole : is_lawful_sized 4096 64 (Submit (Discard 8 16) ∷ Complete 0 true ∷ Close ∷ []) ≡ true
lawful-whole = refl

lawful-odd : is_lawful_sized 4096 64 (Submit (Discard 8 15) ∷ Complete 0 true ∷ Close ∷ []) ≡ false
lawful-odd = refl

-- What a write and a discard put, and what they leave.

-- a content of which each sector has its own number in each byte
abbrev numbers : Content
numbers sector = replicate 512 sector

-- two sectors of bytes and one byte more
abbrev bytes : List ℕ
bytes = replicate 512 0x41 ++ replicate 512 0x42 ++ 0x43 ∷ []

-- a write puts its whole sectors and nothing else
last-write : put (writes 5 bytes) numbers 6 ≡ replicate 512 0x42
unfolding over
last-write = refl

after-write : put (writes 5 bytes) numbers 7 ≡ replicate 512 7
unfolding over
after-write = refl

-- a discard puts zeroes in its sectors
within-discard : put (discards 5 1) numbers 5 ≡ replicate 512 0
unfolding over
within-discard = refl

after-discard : put (discards 5 1) numbers 6 ≡ replicate 512 6
unfolding over
after-discard = refl

-- a range of a content that is moved
moved-range : gather (moved 3 numbers) 2 2 ≡ replicate 512 5 ++ replicate 512 6
moved-range = refl

-- an image has no bytes past its end
image-last : sector_of bytes 2 ≡ 0x43 ∷ []
image-last = refl

image-past : sector_of bytes 3 ≡ []
image-past = refl

-- Which requests are durable and which are replaced.

-- a write of sector 5 that ends, and a flush after it that ends by this result
abbrev flushed : (ok : Bool) → List CoreEvent
flushed ok =
    Submit (Write 5 (replicate 512 65) false false false) ∷ Complete 0 true ∷ Submit
    Flush ∷ Complete 2 ok ∷ []

-- a write that a flush with success followed is durable, and covers only its own sector
durable-flushed : is_durable (flushed true) 0 ≡ true
durable-flushed = refl

kept-own : is_kept (flushed true) 5 0 ≡ true
kept-own = refl

kept-other : has_kept (flushed true) 6 ≡ false
kept-other = refl

-- a write that failed isn't, nor is one whose flush failed
durable-write-failed : is_durable
    (Submit (Discard 5 1) ∷ Complete 0 false ∷ Submit Flush ∷ Complete 2 true ∷ []) 0 ≡ false
durable-write-failed = refl

durable-failed : is_durable (flushed false) 0 ≡ false
durable-failed = refl

-- a FUA write is durable at its end with success
abbrev fua : List CoreEvent
fua =
    Submit (Discard 5 1) ∷ Complete 0 true ∷ Submit
    (Write 5 (replicate 512 66) false true false) ∷ Submit (Discard 5 1) ∷ Complete 2 true ∷ []

durable-fua : is_durable fua 2 ≡ true
durable-fua = refl

-- and it flushes nothing
durable-fua-earlier : is_durable fua 0 ≡ false
durable-fua-earlier = refl

-- one that hasn't ended isn't
durable-open : is_durable (Submit (Write 5 (replicate 512 66) false true false) ∷ []) 0 ≡ false
durable-open = refl

-- it replaces what ended before its submission, and not what is still open
replaced-before : is_replaced fua 5 0 ≡ true
replaced-before = refl

replaced-open : is_replaced fua 5 3 ≡ false
replaced-open = refl

-- a discard's value is zeroes; a flush and a read have none
value-discard : values_at (Some (Submit (Discard 5 1))) 5 ≡ Some (replicate 512 0)
unfolding over
value-discard = refl

value-flush : values_at (Some (Submit Flush)) 0 ≡ None
value-flush = refl

value-read : values_at (Some (Submit (Read 5 1))) 5 ≡ None
value-read = refl

-- a write of sector 5, and a FUA write of it after the first has ended
abbrev replaced : List CoreEvent
replaced =
    Submit (Write 5 (replicate 512 65) false false false) ∷ Complete 0 true ∷ Submit
    (Write 5 (replicate 512 66) false true false) ∷ Complete 2 true ∷ []

-- one sector has this byte, and the others have sevens
abbrev holding : ℕ → ℕ → Content
holding at byte sector = replicate 512 (if sector == at then byte else 7)

-- over sevens the second write's value is possible
possible-newer : PossibleAt replaced (holding 5 7) (holding 5 66) 5
unfolding over
possible-newer = inr (2, refl, refl)

-- a byte is that of its list
byte_is : (a b : ℕ) → Some (replicate 512 a) ≡ Some (replicate 512 b) → a ≡ b
byte_is a b same = grind (arith, get_or)

-- and no other one is
only_newer : (byte : ℕ) → PossibleAt replaced (holding 5 7) (holding 5 byte) 5 → byte ≡ 66
unfolding over
only_newer byte (inl same) = let contra : true ≡ false = same.1 in cc
only_newer byte (inr (zero, is, last)) = let contra : true ≡ false = last in cc
only_newer byte (inr (suc zero, is, last)) = cc
only_newer byte (inr (suc (suc zero), is, last)) = grind (arith, byte_is)
only_newer byte (inr (suc (suc (suc zero)), is, last)) = cc
only_newer byte (inr (suc (suc (suc (suc id))), is, last)) = cc

-- so what was there at first isn't, where a durable request covers the sector
impossible-first : PossibleAt replaced (holding 5 7) (holding 5 7) 5 → ⊥
impossible-first told = let is = only_newer 7 told in omega arith

-- nor is the value that a durable request replaced
impossible-older : PossibleAt replaced (holding 5 7) (holding 5 65) 5 → ⊥
impossible-older told = let is = only_newer 65 told in omega arith

-- nor is one that none put there, in any sector
impossible-strange : Possible replaced (holding 5 7) (holding 6 9) → ⊥
unfolding over
impossible-strange all = elim (all 6) [
  | inl same ↦ let contra = byte_is 9 7 (ap Some same.0) in omega arith
  | inr put ↦ none put.0 put.1
]
  where
    none : (id : ℕ) → values_at (slice_get replaced id) 6 ≡ Some (replicate 512 9) → ⊥
    none zero is = cc
    none (suc zero) is = cc
    none (suc (suc zero)) is = cc
    none (suc (suc (suc zero))) is = cc
    none (suc (suc (suc (suc id)))) is = cc
