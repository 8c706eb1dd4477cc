-- For each clause about a replay, its reads or a copy: an example that the clause refuses.
use Rattle.std.proofs.Common.{false, None, Some, Result, slice_index_or, refl, ap, ◌≡◌, ℕ, ◌+◌}
use Rattle.std.proofs.Common.{true, sym, ◌∙◌, ◌≤◌, inl, inr, arith, Ok, Err, List}
use Rattle.std.proofs.Common.{[], ◌∷◌, ◌++◌, length, replicate}
use Rattle.refusals.specs.declared.run_error.End.TheVariants as ends
use Rattle.bio.specs.Content.{Content}
use Rattle.bio.specs.Content as contents
use Rattle.bio.specs.declared.outcome.DevError.{DevError}
use Rattle.bio.specs.declared.outcome.DevError.TheVariants.{Io}
use Rattle.bio.specs.declared.outcome.DevError.TheVariants as devices
use Rattle.blockdev.specs.View.{Call, DoesInTurn, Reads, View, Writes}
use Rattle.log_format.specs.declared.entry.Entry.{Entry}
use Rattle.log_format.specs.Entries.{end_mark, no_flags}
use Rattle.log_format.specs.Replay.{replay}
use Rattle.log_store.specs.Calls.{append_calls, settle_calls}
use Rattle.log_store.specs.Store.{Store, store_entries}
use Rattle.log_reader.specs.declared.fault.LogFault.TheVariants.{CutShort}
use Rattle.log_reader.specs.declared.fault.ReadDeviceError.TheVariants as reads
use Rattle.log_reader.specs.Reader.{Reader}
use Rattle.replay.specs.Calls.{CopyReads, IsCalled, ReadsToStop, entry_calls}
use Rattle.replay.specs.Copies.{EndsSince, EntriesAreCopied, IsUnaligned}
use Rattle.replay.specs.Copies.{RefusesNoMore as CopyRefusesNoMore, ReplaysAlike, SettledBy, SettlesOnly}
use Rattle.replay.specs.Copies.{CopyStopsBy}
use Rattle.replay.specs.Copies.{StopsCalls, copy_calls, is_aligned_to, resized}
use Rattle.replay.specs.declared.fault.CopyError.TheVariants as copies
use Rattle.replay.specs.declared.fault.ReplayError.TheVariants as replays
use Rattle.replay.specs.declared.replaying.Upto.{Upto}
use Rattle.replay.specs.declared.replaying.Upto.TheVariants.{Count, Flush, Mark}
use Rattle.replay.specs.Replays.{AsksTooMany, IsApplied, IsUpto, LacksFlush, LacksMark, ReachesPast}
use Rattle.replay.specs.Replays.{HasReplayCause, LeavesBy}

-- For each clause about the content after a replay, its calls, or the cause of a refusal: an
-- example that the clause refuses.

-- content of one value in each sector
all : ℕ → Content
all value sector = replicate 512 value

-- a write of 1s to sector 5, and a flush
abbrev write : Entry
write = record { sector = 5; nr_sectors = 1; flags = no_flags; body = replicate 512 1 }

abbrev flush : Entry
flush = record { sector = 0; nr_sectors = 0; flags = record no_flags { flush = true }; body = [] }

-- a mark of no text
abbrev mark : Entry
mark = record { sector = 0; nr_sectors = 0; flags = record no_flags { mark = true }; body = [] }

-- the end of a replay that is named is a mark of this text
abbrev asks_mark : Upto → List ℕ → Type 0
asks_mark (Mark text) bytes = text.now ≡ bytes
asks_mark other bytes = ⊥

-- the write is applied where it is replayed, and not where its sector stays
applied : IsApplied 512 (write ∷ []) 0 1 (all 0) (replay 512 (write ∷ []) (all 0))
applied = record { some = λ more. omega arith; content = refl }

-- no more entries are applied than there are
applied_past : IsApplied 512 [] 0 1 (all 0) (all 0) → ⊥
applied_past told = let there = told.some (omega arith) in omega arith

-- two entries end at the second one, not at the first
upto_two : (es : List Entry) → IsUpto (Count 2) es 0 2
upto_two es = refl

upto_count : (es : List Entry) → IsUpto (Count 2) es 0 1 → ⊥
upto_count es same = omega arith

-- more entries are asked for than there are; just as many aren't
asks_more : AsksTooMany (Count 3) 2 0
asks_more = omega arith

asks_flush : AsksTooMany Flush 2 0 → ⊥
asks_flush told = told

-- a flush is there
lacks : LacksFlush Flush (write ∷ flush ∷ []) 0 → ⊥
lacks none = none 1 flush (omega arith) refl (record { flush = refl; no_mark = refl })

-- so is a mark
lacks_mark : (upto : Upto) → asks_mark upto [] → LacksMark upto (write ∷ mark ∷ []) 0 → ⊥
lacks_mark (Count n) asks none = absurd asks
lacks_mark (Mark text) asks none =
    none 1 mark (omega arith) refl (record { mark = refl; body = sym asks })
lacks_mark Flush asks none = absurd asks

-- no entry is applied in part where there is none
leaves_target : LeavesBy 512 [] 0 (all 0) (all 0) 0 (replays.Target Io) → ⊥
leaves_target told = let there = told.there in cc

-- no mark is told as missing in a log with a fault
cause_fault : (upto : Upto) (log : Reader) (v : View)
    → HasReplayCause [] (Some CutShort) upto log log v v 0 replays.NoSuchMark → ⊥
cause_fault upto log v told = let none = told.2 in cc

-- the write reaches past a target of 5 sectors, and not past one of 6
reaches : ReachesPast 512 (write ∷ []) 0 5
reaches = record { next = write; there = refl; past = omega arith }

reaches_end : ReachesPast 512 (write ∷ []) 0 6 → ⊥
reaches_end told = grind arith

-- a write of one byte to sector 5
abbrev small : Entry
small = record { sector = 5; nr_sectors = 1; flags = no_flags; body = 7 ∷ [] }

-- its call; an entry of no sectors has none
calls_write : entry_calls 512 small ≡ Writes 5 (7 ∷ []) false ∷ []
calls_write = refl

calls_none : entry_calls 512 flush ≡ []
calls_none = refl

-- a target whose calls begin at the moment 0, and that notes
-- each: the first one ends well, and each later one fails
abbrev answer : List Call → Result ℕ DevError
answer [] = Ok 5
answer (call ∷ calls) = Err Io

abbrev notes : List Call → Call → ℕ → Result ℕ DevError → List Call → Type 0
notes old call now result new = (now ≡ 0) × (new ≡ call ∷ old) × (result ≡ answer old)

abbrev put_small : Call
put_small = Writes 5 (7 ∷ []) false

-- it is called once for the write, and for nothing else
called : IsCalled notes 512 (mark ∷ small ∷ flush ∷ []) 0 3 [] (put_small ∷ [])
called = (put_small ∷ [], (5, (refl, refl, refl)), refl)

called_not : IsCalled notes 512 (small ∷ []) 0 1 [] [] → ⊥
called_not (mid, (end, (at, noted, told)), same) = cc

-- A clause about the reads of a replay, and an example that it refuses.

-- a device that counts its calls, and never fails
abbrev counts : ℕ → Call → ℕ → Result ℕ DevError → ℕ → Type 0
counts old call now (Ok end) new = new ≡ old + 1
counts old call now (Err error) new = ⊥

-- there was memory for an entry that has a fault, and for one that has none there may be none
refused_memory : ReadsToStop counts 1 ⊥ 0 1 (replays.Log reads.Memory) → ⊥
refused_memory (inl done) = by_calls 0 done.calls done.turn
  where
    by_calls : (old : ℕ) (calls : List Call) → DoesInTurn counts 0 calls old (Err devices.Memory) 1
        → ⊥
    by_calls old [] turn = turn
    by_calls old (call ∷ calls) (inl refused) = refused
    by_calls old (call ∷ calls) (inr (mid, ends, turn)) = by_calls mid calls turn
refused_memory (inr lacks) = lacks.0

-- For each clause about a copy: stores that break only this clause, and that the clause refuses.

-- content of zeroes
zeroes : Content
zeroes sector = replicate 512 0

-- a device of 64 sectors of zeroes
abbrev still_device : View
still_device =
    record {
      size = 64;
      origin = record { sector = 0; disk = 64 };
      content = zeroes;
      crash = λ left. (sector : ℕ)
          → left sector ≡ zeroes sector;
      clock = 0;
      since = λ reading left. (sector : ℕ)
          → left sector ≡ zeroes sector;
      faults = 0;
      lies = 0;
      can_lie = false;
    }

-- a store on it with log sectors of 4,096 bytes, in which nothing is placed
abbrev none : Store
none = record {
  device = still_device;
  sector_bytes = 4096;
  next = 1;
  placed = 0;
  settled = 0;
  end = None;
  settle_failed = false;
}

-- the same with one mark
abbrev one : Store
one = record none { next = 2; placed = 1 }

-- a write of sectors 8 to 15 in a log with sectors of 512 bytes, whose data aren't looked at here
abbrev eight : Entry
eight = record { sector = 8; nr_sectors = 8; flags = record no_flags { fua = true }; body = 7 ∷ [] }

-- it is sector 1 in log sectors of 4,096 bytes; half of it isn't whole ones
eight_resized : resized 512 4096 eight
    ≡ record { sector = 1; nr_sectors = 1; flags = record no_flags { fua = true }; body = 7 ∷ [] }
eight_resized = refl

eight_aligned : is_aligned_to 512 4096 eight ≡ true
eight_aligned = refl

short_unaligned : is_aligned_to 512 4096 (record eight { nr_sectors = 4 }) ≡ false
short_unaligned = refl

-- more entries than there are
some : EntriesAreCopied 512 [] 0 1 none one → ⊥
some copied = let few = copied.some (omega arith) in omega arith

-- two that are swapped
swapped : (new : Store) → new.device.lies ≡ 0 → store_entries none ≡ []
    → EntriesAreCopied 512 (end_mark ∷ eight ∷ []) 0 2 none new
    → store_entries new ≡ resized 512 4096 eight ∷ resized 512 4096 end_mark ∷ [] → ⊥
swapped new honest empty copied have =
    let other : resized 512 4096 eight ∷ resized 512 4096 end_mark ∷ [] ≡ resized 512 4096 end_mark
    ∷ resized 512 4096 eight ∷ [] =
    sym have ∙ copied.entries honest
    ∙ ap (λ (xs : List Entry). xs ++ resized 512 4096 end_mark ∷ resized 512 4096 eight ∷ [])
    empty in
    let first = ap (λ (xs : List Entry). length (bodies xs)) other in
    omega arith
  where
    bodies : List Entry → List ℕ
    bodies [] = []
    bodies (e ∷ es) = e.body

-- two marks that aren't settled, where the store ended
unsettled_store : SettledBy (end_mark ∷ end_mark ∷ []) 0 2 none none (copies.Store ends.Full) → ⊥
unsettled_store (inl all) = let less = all 0 end_mark (omega arith) refl refl in omega arith
unsettled_store (inr last) =
    let two = last.is_last in
    let less = last.settled 0 end_mark (omega arith) refl refl in
    omega arith

-- a settle behind the entries that are told of
settled_beyond : SettlesOnly (end_mark ∷ end_mark ∷ []) 0 1 none (record one { settled = 2 }) → ⊥
settled_beyond (inl same) = omega arith
settled_beyond (inr (n, e, less, there, due, settled)) = omega arith

-- an entry that is aligned is told as none
told_unaligned : IsUnaligned 512 4096 (eight ∷ []) 0 → ⊥
told_unaligned fails = let first = fails.there in let unaligned = fails.unaligned in cc

-- the new log's device, or that of the log, that is told as failed, though it counts no fault
told_device : EndsSince 512 [] 0 none one ends.Device → ⊥
told_device (inl had) = cc
told_device (inr (inl grew)) = omega arith
told_device (inr (inr last)) = omega arith

-- a reader of a log of no entries, which hasn't refused
abbrev reader : Reader
reader =
    record {
      device = still_device;
      head = record { count = 0; sectorsize = 512 };
      next = 0;
      at = 0;
      failed = false;
    }

-- a fault that the log hasn't, want of memory of a reader
-- that didn't refuse, and a refusal before that wasn't there
told_fault : CopyStopsBy [] None 0 reader reader none none (copies.Log (reads.Log CutShort)) → ⊥
told_fault told = let fault = told.0 in cc

-- a reader that refused first in the copy
refuses_more : CopyRefusesNoMore reader (record reader { failed = true }) → ⊥
refuses_more told = let refused : false ≡ true = told refl in cc

-- a discard of sector 0, and a disk of sevens
abbrev clears : Entry
clears =
    record { sector = 0; nr_sectors = 1; flags = record no_flags { discard = true }; body = [] }

abbrev sevens : Content
sevens sector = replicate 512 7

-- a new log of no entries doesn't replay to what the discard leaves
replays_nothing : (new : Store) → new.device.lies ≡ 0 → store_entries new ≡ []
    → ReplaysAlike 512 (clears ∷ []) none new → ⊥
unfolding contents.over
replays_nothing new honest empty told =
    let same : sevens ≡ replay 512 (clears ∷ []) sevens =
    sym (rw empty)
    ∙ told honest 1 sevens in
    let byte : 7 ≡ 0 = ap (λ (c : Content). slice_index_or (c 0) 0 0) same in
    omega (arith, byte)

-- a mark is written and then settled
settled_mark : copy_calls 512 1 0 (end_mark ∷ [])
    ≡ append_calls 512 1 end_mark ++ settle_calls 512 1
settled_mark = refl

-- a device that isn't called didn't tell that there is no memory
no_calls : ℕ → Call → ℕ → Result ℕ DevError → ℕ → Type 0
no_calls old call now result new = ⊥

untold_memory : StopsCalls no_calls 0 [] [] None 5 5 (copies.Store ends.Memory) → ⊥
untold_memory (inl had) = let ended = had.0 in cc
untold_memory (inr (error, is, turn)) = turn

-- a copy of one entry that read its log once read it at most once; one that read it twice didn't
copy_read : CopyReads counts 1 reader 0 1 (Ok 1)
copy_read =
    record {
      calls = Reads 0 [] [] ∷ [];
      are = (tt, tt);
      few = omega arith;
      turn = (1, (0, refl), refl);
    }

copy_read_twice : CopyReads counts 1 reader 0 2 (Ok 1) → ⊥
copy_read_twice done = by_calls done.calls done.few done.turn
  where
    by_calls : (calls : List Call) → length calls ≤ 1 → DoesInTurn counts 0 calls 0 (Ok tt) 2 → ⊥
    by_calls [] few turn = omega (arith, turn)
    by_calls (call ∷ []) few (mid, (end, is), turn) = omega (arith, is, turn)
    by_calls (call ∷ next ∷ calls) few turn = omega (arith, few)
