-- Examples that hold, and examples that don't, for the queue rule, completion lists, moments and
-- the core's state.
use Rattle.std.proofs.Common.{zero, suc, ◌<◌, refl, sym, ◌∙◌, arith, ap}
use Rattle.std.specs.Prelude.{slice_get, ◌≡◌, ℕ, true, false, List, [], ◌∷◌, map, replicate, Some}
use Rattle.refusals.specs.declared.run_error.End.TheVariants.{Full}
use Rattle.bio.specs.declared.event.CoreEvent.{CoreEvent}
use Rattle.bio.specs.declared.event.CoreEvent.TheVariants.{Submit, Complete, Mark, Stop, Close}
use Rattle.bio.specs.declared.request.Bio.{Bio}
use Rattle.bio.specs.declared.request.Bio.TheVariants.{Write, Flush, Discard}
use Rattle.bio.specs.Events.{is_lawful}
use Rattle.log_format.specs.Entries.{entry_of, mark_entry, end_mark, no_flags}
use Rattle.pending.proofs.Words.{chain-linked, need-recorded}
use Rattle.pending.specs.CompletionList.{BelongsTo, last_moment, queued_by, as_success}
use Rattle.pending.specs.CompletionList.{dm_log_writes, completion_list}
use Rattle.pending.specs.CoreState.{CoreState, IsSound, LinksBound, new_state, queued_between}
use Rattle.pending.specs.QueueEvent.{AtFua, Chain, Direct, EndsPlain, IsFirstNeed, IsNeed, Through}
use Rattle.pending.specs.QueueEvent.{ends_plain, is_linked, log_writes_order, queue_event}

-- The event lists of some known logs, and their completion lists by computation: each entry with
-- the index of its submission.

-- a write of one sector of a byte
abbrev write : ℕ → ℕ → Bio
write first byte = Write first (replicate 512 byte) false false false

abbrev fua_write : ℕ → ℕ → Bio
fua_write first byte = Write first (replicate 512 byte) false true false

abbrev plain_flush : List CoreEvent
plain_flush = Submit (write 5 65) ∷ Complete 0 true ∷ Submit Flush ∷ Complete 2 true ∷ Close ∷ []

-- a write that ended before a flush was submitted is queued at the flush's end
pub plain_flush-list : completion_list (dm_log_writes 512) plain_flush
    ≡ (0, entry_of 512 (write 5 65)) ∷ (2, entry_of 512 Flush) ∷ (4, end_mark) ∷ []
plain_flush-list = refl

pub plain_flush-lawful : is_lawful 16 plain_flush ≡ true
plain_flush-lawful = refl

-- a close alone queues the end mark
pub close_alone-list : completion_list (dm_log_writes 512) (Close ∷ []) ≡ (0, end_mark) ∷ []
close_alone-list = refl

abbrev splice_order : List CoreEvent
splice_order =
    Submit (write 10 17) ∷ Submit (write 20 34) ∷ Submit
    (write 30 51) ∷ Complete 2 true ∷ Complete 1 true ∷ Submit Flush
    ∷ Complete 0 true ∷ Complete 5 true ∷ Close ∷ []

-- what ended before the flush's submission goes with it, in the
-- order of the ends; what ended after it waits for the Close
pub splice_order-list : completion_list (dm_log_writes 512) splice_order
    ≡ (2, entry_of 512 (write 30 51)) ∷ (1, entry_of 512 (write 20 34)) ∷ (5, entry_of 512 Flush) ∷
    (0, entry_of 512 (write 10 17)) ∷ (8, end_mark) ∷ []
splice_order-list = refl

pub splice_order-lawful : is_lawful 64 splice_order ≡ true
splice_order-lawful = refl

abbrev fua_overtakes : List CoreEvent
fua_overtakes =
    Submit (write 5 97) ∷ Complete 0 true ∷ Submit
    (fua_write 5 98) ∷ Complete 2 true ∷ Submit Flush ∷ Complete 4 true ∷ Close ∷ []

-- a FUA write is queued at its own end, after an earlier plain write of its sector
pub fua_overtakes-list : completion_list (dm_log_writes 512) fua_overtakes
    ≡ (0, entry_of 512 (write 5 97)) ∷ (2, entry_of 512 (fua_write 5 98)) ∷
    (4, entry_of 512 Flush) ∷ (6, end_mark) ∷ []
fua_overtakes-list = refl

abbrev flush_overtakes : List CoreEvent
flush_overtakes =
    Submit (write 5 97) ∷ Complete 0 true ∷ Submit Flush ∷ Submit Flush ∷ Complete 3 true ∷ Submit
    (fua_write 9 99) ∷ Complete 5 true
    ∷ Complete 2 true ∷ Close ∷ []

-- the write goes with the flush that ends first, though another was submitted before it
pub flush_overtakes-list : completion_list (dm_log_writes 512) flush_overtakes
    ≡ (0, entry_of 512 (write 5 97)) ∷ (3, entry_of 512 Flush) ∷
    (5, entry_of 512 (fua_write 9 99)) ∷ (2, entry_of 512 Flush) ∷ (8, end_mark) ∷ []
flush_overtakes-list = refl

pub flush_overtakes-event : queue_event log_writes_order flush_overtakes 0 ≡ Some 4
flush_overtakes-event = refl

abbrev linked_writes : List CoreEvent
linked_writes =
    Submit (write 9 68) ∷ Complete 0 true ∷ Submit
    (Write 5 (replicate 1024 17) false false false) ∷ Complete 2 true
    ∷ Submit (Write 6 (replicate 1024 34) false false false) ∷ Complete 4 true ∷ Submit
    (fua_write 7 51) ∷ Complete 6 true ∷ Close ∷ []

-- a FUA write takes what it overlaps, and what that overlaps; what it isn't linked to waits
pub linked_writes-places : map (λ item. item.0) (completion_list (dm_log_writes 512) linked_writes)
    ≡ 2 ∷ 4 ∷ 6 ∷ 0 ∷ 8 ∷ []
linked_writes-places = refl

pub linked-by-another : is_linked linked_writes (fua_write 7 51) 7 7 3
    (Write 5 (replicate 1024 17) false false false) ≡ true
linked-by-another = refl

-- not with no other between them, nor by one that ended before it
pub linked-directly : is_linked linked_writes (fua_write 7 51) 7 0 3
    (Write 5 (replicate 1024 17) false false false) ≡ false
linked-directly = refl

pub linked-backwards : is_linked linked_writes (fua_write 7 51) 7 7 6
    (Write 5 (replicate 1024 17) false false false) ≡ false
linked-backwards = refl

-- a write with flush and FUA takes what ended before its submission, and what it overlaps
abbrev both_kinds : List CoreEvent
both_kinds =
    Submit (write 1 65) ∷ Complete 0 true ∷ Submit
    (Write 5 (replicate 512 66) true true false) ∷ Submit (write 5 67) ∷ Submit (write 9 68)
    ∷ Complete 3 true ∷ Complete 4 true ∷ Complete 2 true ∷ Close ∷ []

pub both_kinds-places : map (λ item. item.0) (completion_list (dm_log_writes 512) both_kinds)
    ≡ 0 ∷ 3 ∷ 2 ∷ 4 ∷ 8 ∷ []
both_kinds-places = refl

abbrev discard_zeroes : List CoreEvent
discard_zeroes =
    Submit (write 1 127) ∷ Complete 0 true ∷ Submit
    (Discard 1 1) ∷ Complete 2 true ∷ Submit Flush ∷ Complete 4 true ∷ Close ∷ []

-- a discard waits like a plain write
pub discard_zeroes-list : completion_list (dm_log_writes 512) discard_zeroes
    ≡ (0, entry_of 512 (write 1 127)) ∷ (2, entry_of 512 (Discard 1 1)) ∷ (4, entry_of 512 Flush) ∷
    (6, end_mark) ∷ []
discard_zeroes-list = refl

abbrev marked : List CoreEvent
marked = Submit (write 5 65) ∷ Complete 0 true ∷ Mark (104 ∷ 101 ∷ 114 ∷ 101 ∷ []) ∷ Close ∷ []

-- a mark waits for nothing
pub marked-list : completion_list (dm_log_writes 512) marked
    ≡ (2, mark_entry 512 (104 ∷ 101 ∷ 114 ∷ 101 ∷ [])) ∷ (0, entry_of 512 (write 5 65)) ∷
    (3, end_mark) ∷ []
marked-list = refl

-- nothing is queued from a Stop on
pub stopped-list : completion_list (dm_log_writes 512)
    (Submit (fua_write 5 65) ∷ Submit Flush ∷ Complete 0 false ∷ Stop Full ∷ Complete 1
    true ∷ Close ∷ [])
    ≡ (0, entry_of 512 (fua_write 5 65)) ∷ []
stopped-list = refl

abbrev large_sectors : List CoreEvent
large_sectors =
    Submit (Write 8 (replicate 4096 65) false true false) ∷ Complete 0 true ∷ Submit
    (Discard 16 24) ∷ Complete 2 true ∷ Close ∷ []

-- in a log with sectors of 4096 bytes eight sectors of 512 bytes are one
pub large_sectors-list : completion_list (dm_log_writes 4096) large_sectors
    ≡ (
      0,
      record {
        sector = 1;
        nr_sectors = 1;
        flags = record no_flags { fua = true };
        body = replicate 4096 65;
      },
    )
    ∷ (
      2,
      record {
        sector = 2;
        nr_sectors = 3;
        flags = record no_flags { discard = true };
        body = [];
      },
    )
    ∷ (4, end_mark)
    ∷ []
large_sectors-list = refl

-- and this isn't its list in a log with sectors of 512 bytes
pub large_sectors-differ : completion_list (dm_log_writes 512) large_sectors
    ≡ completion_list (dm_log_writes 4096) large_sectors → ⊥
large_sectors-differ same = let sectors = ap (λ items. map (λ item. item.1.sector) items) same in cc

-- two writes that end before one flush
abbrev ends_in_order : List CoreEvent
ends_in_order =
    Submit (write 1 65) ∷ Submit
    (write 2 66) ∷ Complete 0 true ∷ Complete 1 true ∷ Submit Flush ∷ Complete 4
    true ∷ Close ∷ []

abbrev ends_crossed : List CoreEvent
ends_crossed =
    Submit (write 1 65) ∷ Submit
    (write 2 66) ∷ Complete 1 true ∷ Complete 0 true ∷ Submit Flush ∷ Complete 4
    true ∷ Close ∷ []

-- the places of a completion list's items
abbrev places : List CoreEvent → List ℕ
places events = map (λ item. item.0) (completion_list (dm_log_writes 512) events)

-- which of them ended first makes a difference
pub crossed-differ : completion_list (dm_log_writes 512) ends_in_order
    ≡ completion_list (dm_log_writes 512) ends_crossed → ⊥
crossed-differ same =
    let order : places ends_in_order ≡ places ends_crossed = ap (map (λ item. item.0)) same in cc

-- a FUA write overtakes a plain one of another sector that
-- ended before it, unless a flush ended between them
abbrev no_flush : List CoreEvent
no_flush =
    Submit (write 1 65) ∷ Complete 0 true ∷ Submit (fua_write 2 66) ∷ Complete 2 true ∷ Close ∷ []

abbrev with_flush : List CoreEvent
with_flush =
    Submit (write 1 65) ∷ Complete 0 true ∷ Submit Flush ∷ Complete 2 true ∷ Submit
    (fua_write 2 66) ∷ Complete 4 true ∷ Close ∷ []

pub no_flush-places : places no_flush ≡ 2 ∷ 0 ∷ 4 ∷ []
no_flush-places = refl

pub with_flush-places : places with_flush ≡ 0 ∷ 2 ∷ 4 ∷ 6 ∷ []
with_flush-places = refl

-- Examples that hold, and examples that don't, for the definitions of the queue rule.

-- a write of so many sectors
abbrev wide : ℕ → ℕ → Bio
wide first count = Write first (replicate count 17) false false false

abbrev last : Bio
last = Write 7 (replicate 512 51) false true false

-- a write elsewhere, two that overlap, and a FUA write that overlaps the second
abbrev linked : List CoreEvent
linked =
    Submit (wide 9 512) ∷ Complete 0 true ∷ Submit (wide 5 1024) ∷ Complete 2 true ∷ Submit
    (wide 6 1024) ∷ Complete 4 true
    ∷ Submit last ∷ Complete 6 true ∷ Close ∷ []

-- the second of them ended; the FUA write isn't plain
ends : EndsPlain linked 4 5 (wide 6 1024)
ends = record { ok = true; ends = refl; earlier = omega arith; submitted = refl; plain = refl }

not-plain : EndsPlain linked 6 7 last → ⊥
not-plain told = let plain : false ≡ true = told.plain in cc

-- from the first a chain leads through it
chain : Chain linked last 7 3 (wide 5 1024)
chain =
    Through 3 (wide 5 1024) 5 4 (wide 6 1024) ends (omega arith) (omega arith) refl
    (Direct 5 (wide 6 1024) refl)

-- not from the write elsewhere, and not from the first where it ended last
no-chain : Chain linked last 7 1 (wide 9 512) → ⊥
no-chain told = grind (arith, chain-linked)

too-late : Chain linked last 7 6 (wide 5 1024) → ⊥
too-late told = grind (arith, chain-linked)

-- so the end of the FUA write needs it, and no other event before that
need : IsNeed linked 3 (wide 5 1024) 7
need = AtFua 6 true last refl (omega arith) refl refl chain

no-need : (place : ℕ) → log_writes_order linked 3 (Some (Submit (wide 5 1024))) place
    (slice_get linked place) ≡ false → IsNeed linked 3 (wide 5 1024) place → ⊥
no-need place none told =
    let is = need-recorded linked 3 (wide 5 1024) place told in
    let contra : true ≡ false = sym is ∙ none in
    cc

first-need : IsFirstNeed linked 3 (wide 5 1024) 7
first-need = record { within = omega arith; after = omega arith; needs = need; first = none }
  where
    none : (k : ℕ) → 3 < k → k < 7 → IsNeed linked 3 (wide 5 1024) k → ⊥
    none zero after less told = omega arith
    none (suc zero) after less told = omega arith
    none (suc (suc zero)) after less told = omega arith
    none (suc (suc (suc zero))) after less told = omega arith
    none (suc (suc (suc (suc zero)))) after less told = no-need 4 refl told
    none (suc (suc (suc (suc (suc zero))))) after less told = no-need 5 refl told
    none (suc (suc (suc (suc (suc (suc zero)))))) after less told = no-need 6 refl told
    none (suc (suc (suc (suc (suc (suc (suc k))))))) after less told = omega arith

-- the Close needs it too, and isn't the first
not-first : IsFirstNeed linked 3 (wide 5 1024) 8 → ⊥
not-first told = told.first 7 (omega arith) (omega arith) need

-- the last moment is that after all events, or that before the Stop
last-of-all : last_moment (Submit Flush ∷ Complete 0 true ∷ []) ≡ 2
last-of-all = refl

last-before-stop : last_moment (Submit Flush ∷ Stop Full ∷ Complete 0 true ∷ []) ≡ 1
last-before-stop = refl

plain-end : ends_plain linked (λ bio. true) 5 (Some (Complete 4 true)) ≡ true
plain-end = refl

no-plain-end : ends_plain linked (λ bio. true) 7 (Some (Complete 6 true)) ≡ false
no-plain-end = refl

-- Examples that hold, and examples that don't, for: sound cores, the links that a call may change,
-- the moments to which numbers of entries belong, and events that differ only in their results.

-- a core of no events is sound
sound : IsSound new_state
sound =
    record {
      sector_size = refl;
      well_formed = refl;
      within = omega arith;
      unstopped = λ going. refl;
      going = λ recording. refl;
    }

-- one of a log whose sectors have 100 bytes isn't, nor one that gave an entry
sector_size : IsSound (record new_state { sector_bytes = 100 }) → ⊥
sector_size told = let size : false ≡ true = told.sector_size in cc

within : IsSound (record new_state { taken = 1 }) → ⊥
within told = grind arith

-- nor one that was closed twice, one that goes on after a Stop, or one that was stopped by none
well_formed : IsSound (record new_state { events = Close ∷ Close ∷ [] }) → ⊥
well_formed told = let formed : false ≡ true = told.well_formed in cc

unstopped : IsSound (record new_state { events = Stop Full ∷ [] }) → ⊥
unstopped told = let none : false ≡ true = told.unstopped refl in cc

going : IsSound (record new_state { stopped = true }) → ⊥
going told = let on : true ≡ false = told.going refl in cc

-- a write that goes into the log with the flush after it: none
-- is queued by the first three events, and both by the fourth
abbrev flushed : List CoreEvent
flushed =
    Submit (Write 5 (replicate 512 65) false false false) ∷ Complete 0 true ∷ Submit
    Flush ∷ Complete 2 true ∷ []

by-third : queued_by (dm_log_writes 512) flushed 3 ≡ 0
by-third = refl

by-fourth : queued_by (dm_log_writes 512) flushed 4 ≡ 2
by-fourth = refl

-- so none, one and two entries belong to the moment before the fourth
belongs-none : BelongsTo (dm_log_writes 512) flushed 3 0
belongs-none = let before = by-third in record { from = omega arith; to = omega arith }

-- and not three, nor one to the moment after it or to one long before it
belongs-three : BelongsTo (dm_log_writes 512) flushed 3 3 → ⊥
belongs-three told = let most = told.to in let after = by-fourth in omega arith

-- events that are equal but for the results of their ends
alike : map as_success (Submit Flush ∷ Complete 0 false ∷ Mark (65 ∷ []) ∷ Stop Full ∷ Close ∷ [])
    ≡ map as_success (Submit Flush ∷ Complete 0 true ∷ Mark (65 ∷ []) ∷ Stop Full ∷ Close ∷ [])
alike = refl

other-event : as_success (Stop Full) ≡ as_success Close → ⊥
other-event same = cc

-- a core of a mark alone
abbrev marked_state : CoreState
marked_state = record new_state { events = Mark [] ∷ [] }

-- the mark is queued
one_queued : queued_between new_state marked_state ≡ 1
one_queued = refl

-- with one entry queued 16 links may be changed
links_kept : LinksBound (record { state = new_state; links = 3 })
    (record { state = marked_state; links = 19 })
links_kept = let one = one_queued in record { few = omega arith; rises = omega arith }

-- with none queued 8 may be
links_idle : LinksBound (record { state = marked_state; links = 3 })
    (record { state = marked_state; links = 12 }) → ⊥
links_idle bound = let few = bound.few in absurd (omega arith)
