-- The headline's plain definitions: for each one an example that holds and one that doesn't.
use Rattle.std.proofs.Common.{◌≡◌, ℕ, zero, suc, ◌+◌, ◌<◌, Bool, true, false, Some, List, [], ◌∷◌}
use Rattle.std.proofs.Common.{◌++◌, get_or, length, replicate, take, refl, ap, subst, ◌∙◌, inl, inr}
use Rattle.std.proofs.Common.{arith}
use Rattle.std.specs.Prelude.{◌⊎◌, slice_get}
use Rattle.byteorder.specs.Endian.{little_bytes}
use Rattle.bio.specs.declared.event.CoreEvent.{CoreEvent}
use Rattle.bio.specs.declared.event.CoreEvent.TheVariants.{Submit, Complete, Stop, Close}
use Rattle.refusals.specs.declared.run_error.End.TheVariants.{Full}
use Rattle.bio.specs.declared.request.Bio.{Bio}
use Rattle.bio.specs.declared.request.Bio.TheVariants.{Write, Flush}
use Rattle.bio.specs.Content.{Content, over, sector_of}
use Rattle.log_format.specs.Encode.{field_bytes, super_bytes}
use Rattle.log_format.specs.Replay.{replay}
use Rattle.pending.specs.CompletionList.{entries_at}
use Rattle.pending.specs.Plain.{AClose, AMark, AtClose, AtEnd, AtFlush, AtFua, Belongs, PlainChain}
use Rattle.pending.specs.Plain.{CouldHold, Covers, Direct, Durable, Ends, Flushed, GoesOn, HasPlainLog}
use Rattle.pending.specs.Plain.{IsCompletionList, KeepsValueOf, Later, LeavesPlainLog, Need, Overlap, Puts}
use Rattle.pending.specs.Plain.{Queued, Queues, ReplaysTo, Submits, Through, entry_bytes_of, entries_bytes}
use Rattle.pending.specs.Plain.{entry}
use Rattle.pending.proofs.PlainHeld.{plain-durable, plain-kept, plain-replay, replay-plain}
use Rattle.pending.proofs.PlainMoments.{belongs-plain, last-plain, list-is, plain-list}

-- a sector of one byte over and over, and a disk of zeroes
abbrev full : ℕ → List ℕ
full byte = replicate 512 byte

at-place : (n : ℕ) (xs ys : List ℕ) → xs ≡ ys → get_or xs n 0 ≡ get_or ys n 0
at-place n xs ys same = grind (arith, get_or)

same-byte : (a b : ℕ) → full a ≡ full b → a ≡ b
same-byte a b same = at-place 0 (full a) (full b) same

abbrev zeroes : Content
zeroes sector = full 0

-- a write to sector 5, one with FUA to the same sector, and one to the next sector
abbrev plain_write : Bio
plain_write = Write 5 (full 65) false false false

abbrev fua_write : Bio
fua_write = Write 5 (full 66) false true false

abbrev next_write : Bio
next_write = Write 6 (full 65) false false false

-- the write and its end, and a flush that hasn't ended, or has
abbrev unflushed : List CoreEvent
unflushed = Submit plain_write ∷ Complete 0 true ∷ Submit Flush ∷ []

abbrev flushed : List CoreEvent
flushed = Submit plain_write ∷ Complete 0 true ∷ Submit Flush ∷ Complete 2 true ∷ []

-- a flush that was submitted before the write ended
abbrev early : List CoreEvent
early = Submit plain_write ∷ Submit Flush ∷ Complete 0 true ∷ Complete 1 true ∷ []

-- the write and its end, and then the one with FUA over it; and one with FUA that failed
abbrev linked : List CoreEvent
linked = Submit plain_write ∷ Complete 0 true ∷ Submit fua_write ∷ Complete 2 true ∷ []

abbrev failed : List CoreEvent
failed = Submit fua_write ∷ Complete 0 false ∷ []

-- two writes that end in another order, and a Close
abbrev crossed : List CoreEvent
crossed = Submit plain_write ∷ Submit next_write ∷ Complete 1 true ∷ Complete 0 true ∷ Close ∷ []

-- a flush that ends after a Stop
abbrev stopped : List CoreEvent
stopped = Submit plain_write ∷ Complete 0 true ∷ Submit Flush ∷ Stop Full ∷ Complete 2 true ∷ []

-- Puts: a write puts its bytes in its own sector, and nothing in the next one
puts : Puts plain_write 5 (full 65)
puts = (omega arith, omega arith, refl)

puts-beyond : Puts plain_write 6 (full 65) → ⊥
puts-beyond it = let less : 6 < 6 = it.1 in omega arith

-- Covers: a flush covers no sector
covers : Covers plain_write 5
covers = (full 65, puts)

covers-none : Covers Flush 5 → ⊥
covers-none it = it.1

covers-fua : Covers fua_write 5
covers-fua = (full 66, (omega arith, omega arith, refl))

-- Overlap: requests of neighbouring sectors don't overlap
overlap : Overlap plain_write fua_write
overlap = (5, covers, covers-fua)

overlap-neighbour : Overlap next_write fua_write → ⊥
overlap-neighbour it = grind arith

-- Submits: an end submits nothing
submits-flush : Submits flushed 2 Flush
submits-flush = refl

submits-end : Submits flushed 3 Flush → ⊥
submits-end is = cc

-- Ends: the id is the place of the submission, and not the count of requests
ends : Ends flushed 2 3 true
ends = refl

ends-second : Ends flushed 1 3 true → ⊥
ends-second is = cc

-- Flushed: a flush was submitted after this place, and ended
flush-flushes : Flushed flushed 1
flush-flushes =
    record { id = 2; bio = Flush; end = 3; flush = (refl, refl); after = omega arith; ended = refl }

-- Durable: a write isn't if its flush hasn't ended, or was submitted before the write ended
durable : Durable flushed 0
durable =
    record { bio = plain_write; end = 1; submitted = refl; ended = refl; sure = inr flush-flushes }

durable-unflushed : Durable unflushed 0 → ⊥
durable-unflushed it = let is : false ≡ true = plain-durable unflushed 0 refl it in cc

durable-early : Durable early 0 → ⊥
durable-early it = let is : false ≡ true = plain-durable early 0 refl it in cc

flush-early : Flushed early 2 → ⊥
flush-early it = grind (arith, durable-early)

-- nor is one with FUA that failed
durable-fua : Durable linked 2
durable-fua = record { bio = fua_write; end = 3; submitted = refl; ended = refl; sure = inl refl }

durable-failed : Durable failed 0 → ⊥
durable-failed it = let is : false ≡ true = plain-durable failed 0 refl it in cc

-- Kept: a durable request puts nothing in sectors that it doesn't cover
kept : KeepsValueOf flushed 5 0
kept = (durable, plain_write, refl, covers)

kept-fua : KeepsValueOf linked 5 2
kept-fua = (durable-fua, fua_write, refl, covers-fua)

kept-beyond : KeepsValueOf flushed 6 0 → ⊥
kept-beyond it = let is : false ≡ true = plain-kept flushed 6 0 refl it in cc

-- CouldHold: a write that isn't durable can be lost
unflushed-ends : (id end : ℕ) (ok : Bool) → Ends unflushed id end ok → id ≡ 0
unflushed-ends id zero ok is = cc
unflushed-ends id (suc zero) ok is = cc
unflushed-ends id (suc (suc zero)) ok is = cc
unflushed-ends id (suc (suc (suc end))) ok is = cc

could-lose : CouldHold unflushed zeroes zeroes
could-lose sector = grind (arith, durable-unflushed, unflushed-ends)

-- the old value is ruled out after a flush
flushed-puts : (id : ℕ) (bio : Bio) (value : List ℕ) → Submits flushed id bio → Puts bio 5 value
    → value ≡ full 65
flushed-puts zero bio value is it = grind arith
flushed-puts (suc zero) bio value is it = cc
flushed-puts (suc (suc zero)) bio value is it = grind arith
flushed-puts (suc (suc (suc zero))) bio value is it = cc
flushed-puts (suc (suc (suc (suc id)))) bio value is it = cc

could-old : CouldHold flushed zeroes zeroes → ⊥
could-old it = elim (it 5) [
  | inl stays ↦ stays.1 0 kept
  | inr held ↦
      let same = same-byte 0 65 (flushed-puts held.0 held.1 (full 0) held.2 held.3) in omega arith
]

-- and so is that of a write that a durable one replaced
linked-puts : (id : ℕ) (bio : Bio) (value : List ℕ) → Submits linked id bio → Puts bio 5 value
    → (id ≡ 0) ⊎ (value ≡ full 66)
linked-puts zero bio value is it = inl refl
linked-puts (suc zero) bio value is it = cc
linked-puts (suc (suc zero)) bio value is it = grind arith
linked-puts (suc (suc (suc zero))) bio value is it = cc
linked-puts (suc (suc (suc (suc id)))) bio value is it = cc

could-replaced : CouldHold linked zeroes (λ sector. full 65) → ⊥
could-replaced it = elim (it 5) [
  | inl stays ↦ stays.1 2 kept-fua
  | inr held ↦ elim (linked-puts held.0 held.1 (full 65) held.2 held.3) [
    | inl first ↦
        let ended : Ends linked held.0 1 true = rw (← first) in
        held.4 2 1 true kept-fua ended (omega arith)
    | inr same ↦ let byte = same-byte 65 66 same in omega arith
  ]
]

-- Chain: requests of neighbouring sectors make no chain
chain : PlainChain linked fua_write 3 1 plain_write
chain = Direct 1 plain_write overlap

linked-between : (id later : ℕ) (ok : Bool) → Ends linked id later ok → 1 < later → later < 3 → ⊥
linked-between id later ok is from to = grind arith

chain-apart : PlainChain linked fua_write 3 1 next_write → ⊥
chain-apart (Direct _ _ meets) = overlap-neighbour meets
chain-apart (Through _ _ id later ok next is plain ended from to meets rest) =
    linked-between id later ok ended from to

-- Need: a flush that was submitted before the end needs nothing
need : Need flushed 1 plain_write 3
need = AtFlush 2 true Flush refl refl refl (omega arith)

need-early : Need early 2 plain_write 3 → ⊥
need-early (AtClose is) = cc
need-early (AtFlush id ok last ended is flush less) = let same : id ≡ 1 = cc in omega arith
need-early (AtFua id ok last ended is fua links) = grind arith

-- Queues: a write is queued by the flush's end, and not by its own
no-need : Need flushed 1 plain_write 2 → ⊥
no-need (AtClose is) = cc
no-need (AtFlush id ok last ended is flush less) = cc
no-need (AtFua id ok last ended is fua links) = cc

queues-write : Queues flushed 0 1 3
queues-write = Later 1 3 plain_write true refl refl refl (omega arith) need
    (λ k from to it. let two : k ≡ 2 = omega arith in
    no-need (subst (λ i. Need flushed 1 plain_write i) two it))

queues-own : (end place : ℕ) → end ≡ place → Queues flushed 0 end place → ⊥
queues-own end place same (AMark text is) = cc
queues-own end place same (AClose is) = cc
queues-own end place same (AtEnd _ bio ok is ended own) = grind arith
queues-own end place same (Later _ _ bio ok is ended plain less needs first) = omega arith

-- GoesOn, Queued: logging goes on up to a Stop, and no further
goes_on : GoesOn stopped 3
goes_on = (last-plain stopped 3 (omega arith)).1

goes_on-past : GoesOn stopped 4 → ⊥
goes_on-past goes = goes 3 Full (omega arith) refl

queued : Queued flushed 2 3 3
queued = (AtEnd 3 Flush true refl refl refl, (last-plain flushed 3 (omega arith)).1)

queued-past : Queued stopped 2 4 4 → ⊥
queued-past it = goes_on-past it.1

-- IsCompletionList: the ids are in the order of the ends, and not of the submissions
list : IsCompletionList crossed (1 ∷ 0 ∷ 4 ∷ [])
list = list-is 512 crossed (1 ∷ 0 ∷ 4 ∷ []) refl refl

list-submitted : IsCompletionList crossed (0 ∷ 1 ∷ 4 ∷ []) → ⊥
list-submitted it =
    let same = at-place 0 (0 ∷ 1 ∷ 4 ∷ []) (1 ∷ 0 ∷ 4 ∷ [])
    (plain-list 512 crossed (0 ∷ 1 ∷ 4 ∷ []) refl it) in omega arith

-- Belongs: these ids are neither fewer than were queued, nor more than the next event queues
belongs : Belongs flushed (0 ∷ 2 ∷ []) 4 2
belongs = grind (arith, belongs-plain)

belongs-few : Belongs flushed (0 ∷ 2 ∷ []) 4 1 → ⊥
belongs-few it = let less = it.all 1 2 3 3 refl queued (omega arith) in omega arith

belongs-many : Belongs flushed (0 ∷ 2 ∷ []) 2 1 → ⊥
belongs-many it =
    let most = it.none 0 0 1 3 refl (queues-write, queued.1) (omega arith) in omega arith

-- bytes_of: the sector is counted in log sectors, and not in sectors of 512 bytes
abbrev large : List ℕ
large = entry_bytes_of 1024 (Some (Submit (Write 6 (replicate 1024 65) false false false)))

bytes : take 8 large ≡ 3 ∷ replicate 7 0
bytes = refl

bytes-small : take 8 large ≡ 6 ∷ replicate 7 0 → ⊥
bytes-small same = let byte = at-place 0 (take 8 large) (6 ∷ replicate 7 0) same in omega arith

-- entry: a mark takes a whole log sector, and not only its fields and its text
own-sector : length (entry 1024 0 0 8 (65 ∷ []) []) ≡ 1024
own-sector = refl

own-sector-cut : length (entry 1024 0 0 8 (65 ∷ []) []) ≡ 33 → ⊥
own-sector-cut same = omega arith

-- entries_bytes: a write's data is after its own log sector
all-bytes : length (entries_bytes 512 flushed (0 ∷ 2 ∷ [])) ≡ 1536
all-bytes = refl

all-bytes-few : length (entries_bytes 512 flushed (0 ∷ 2 ∷ [])) ≡ 1024 → ⊥
all-bytes-few same = omega arith

-- HasLog: the super block counts the entries
log_disk : ℕ → Content
log_disk count zero =
    little_bytes 8 0x6a736677736872 ++ little_bytes 8 1 ++ little_bytes 8 count
    ++ little_bytes 4 512 ++ replicate 484 0
log_disk count (suc sector) = sector_of (entries_bytes 512 flushed (0 ∷ 2 ∷ [])) sector

has_log : HasPlainLog 512 flushed (0 ∷ 2 ∷ []) 4 (log_disk 2)
unfolding log_disk
has_log =
    record {
      super_block = refl;
      entries = λ sector less.
          let next : 1 + sector ≡ suc sector = omega arith in ap (log_disk 2) next;
      within = omega arith;
    }

has_log-more : HasPlainLog 512 flushed (0 ∷ 2 ∷ []) 4 (log_disk 3) → ⊥
unfolding log_disk
has_log-more log = grind (arith, at-place, log_disk)

-- Replays: the last of two overlapping writes wins, and not the first
abbrev replayed : Content
replayed = replay 512 (entries_at 512 linked (0 ∷ 2 ∷ [])) zeroes

replays : ReplaysTo linked (0 ∷ 2 ∷ []) zeroes replayed
replays = replay-plain 512 linked (0 ∷ 2 ∷ []) zeroes replayed refl refl (λ sector. refl)

replays-last : replayed 5 ≡ full 66
unfolding over
replays-last = refl

replays-first : ReplaysTo linked (0 ∷ 2 ∷ []) zeroes (λ sector. full 65) → ⊥
replays-first it =
    let now = plain-replay 512 linked (0 ∷ 2 ∷ []) zeroes (λ sector. full 65) refl refl it 5 in
    let byte = same-byte 65 66 (now ∙ replays-last) in omega arith

-- LeavesPlainLog: a super block that counts no entries is a log of no events, but not if an entry
-- was settled
abbrev empty_log : Content
empty_log sector = super_bytes 0 512

none_queued : (id end place : ℕ) → Queues [] id end place → ⊥
none_queued id end place (AMark text is) = cc
none_queued id end place (AClose is) = cc
none_queued id end place (AtEnd _ bio ok is ends kind) = cc
none_queued id end place (Later _ _ bio ok is ends kind after need first) = cc

none_listed : IsCompletionList [] []
none_listed = grind (arith, none_queued)

nothing_held : (first after : Content) → ReplaysTo [] [] first after → CouldHold [] first after
nothing_held first after replays sector = grind arith

empty_left : (size : ℕ) → 0 < size → LeavesPlainLog 512 size 0 [] empty_log
unfolding super_bytes field_bytes
empty_left size some = grind (arith, none_listed, nothing_held)

settled_lost : (size : ℕ) → LeavesPlainLog 512 size 1 [] empty_log → ⊥
settled_lost size left =
    let none = none_of left.ids left.list.only in omega (arith, left.least, left.most)
  where
    none_of : (ids : List ℕ) → ((n id : ℕ) → slice_get ids n ≡ Some id
        → (end place : ℕ) × Queued [] id end place) → length ids ≡ 0
    none_of [] only = refl
    none_of (id ∷ ids) only =
        absurd (let found = only 0 id refl in none_queued id found.0 found.1 found.2.0)
