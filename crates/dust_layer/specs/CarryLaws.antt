-- Let `f` map the lower device to another device. If `f` carries over each call of the lower device
-- (`IsCarried`), it carries over each call of a device with bad blocks.
use Rattle.std.proofs.Common.{ℕ, zero, suc, ◌+◌, Ok, Err, ap, subst, sym}
use Rattle.std.specs.Prelude.{Result}
use Rattle.bio.specs.declared.outcome.DevError.{DevError}
use Rattle.blockdev.specs.View.{Call, Discards, Flushes, Reads, Writes}
use Rattle.dust_layer.specs.declared.mode.Mode.{Mode}
use Rattle.dust_layer.specs.declared.mode.Mode.TheVariants.{Bypass, FailReadOnBadBlock}
use Rattle.dust_layer.specs.declared.parts.Stop.{Stop}
use Rattle.dust_layer.specs.declared.parts.Stop.TheVariants.{Below, Struck}
use Rattle.dust_layer.specs.Walk.{begin_of, blocks_of, call_part, ByBlock, DoesParts, Passes, Bad}
use Rattle.dust_layer.specs.DustRule.{DustState, IsChecked, IsDoneBy, IsForwarded}

-- whether a call can change a device so: device before, call, time, result, device after
abbrev pub Doing : Type 0 → Type 1
Doing D = D → Call → ℕ → Result ℕ DevError → D → Type 0

-- Each call from `old` to `new` is a call from `f old` to `f new`, if `fine` holds for `old`. In
-- that case `fine` holds for `new` too.
abbrev pub IsCarried : {D E : Type 0} → Doing D → Doing E → (D → Type 0) → (D → E) → Type 0
IsCarried {D} {E} does other fine f =
    (old : D) (call : Call) (now : ℕ) (result : Result ℕ DevError) (new : D) → fine old
    → does old call now result new → other (f old) call now result (f new) × fine new

-- `it` with the lower device `f it.lower`; the list and the count of faults stay
abbrev pub held_as : {D E : Type 0} → (D → E) → DustState D → DustState E
held_as f it = record { lower = f it.lower; bad = it.bad; faults = it.faults }

-- `f` carries over parts that are done one after another.
parts_carried : {D E : Type 0} (does : Doing D) (other : Doing E) (fine : D → Type 0) (f : D → E)
    → IsCarried does other fine f
    → (part : ℕ → Call) (begin count : ℕ) (old : D) (now : ℕ) (new : D) (end : ℕ) → fine old
    → DoesParts does part begin count old now new end
    → DoesParts other part begin count (f old) now (f new) end × fine new
parts_carried does other fine f each part begin zero old now new end holds is =
    ((ap f is.0, is.1), subst fine (sym is.0) holds)
parts_carried does other fine f each part begin (suc count) old now new end holds
    (mid, at, before, last) =
    let first = parts_carried does other fine f each part begin count old now mid at holds before in
    let next = each mid (part (begin + count)) at (Ok end) new first.1 last in
    ((f mid, at, first.0, next.0), next.1)

-- `f` carries over the first `count` blocks of a call (`Passes`).
passes_carried : {D E : Type 0} (does : Doing D) (other : Doing E) (fine : D → Type 0) (f : D → E)
    → IsCarried does other fine f
    → (block : ℕ) (call : Call) (bad : Bad) (count : ℕ) (old : D) (now : ℕ) (new : D) (end : ℕ)
    → fine old
    → Passes does block call bad count old now new end
    → Passes other block call bad count (f old) now (f new) end × fine new
passes_carried does other fine f each block call bad count old now new end holds is =
    let parts =
    parts_carried does other fine f each (call_part block call)
    (begin_of block call) count old now new end holds is.parts in
    (record { free = is.free; parts = parts.0 }, parts.1)

-- `f` carries over a call that goes block by block (`ByBlock`).
blocks_carried : {D E : Type 0} (does : Doing D) (other : Doing E) (fine : D → Type 0) (f : D → E)
    → IsCarried does other fine f
    → (block : ℕ) (call : Call) (bad after : Bad) (old : D) (now : ℕ) (new : D)
    (stop : Result ℕ Stop) → fine old
    → ByBlock does block call bad after old now new stop
    → ByBlock other block call bad after (f old) now (f new) stop × fine new
blocks_carried does other fine f each block call bad after old now new (Ok end) holds is =
    let passes =
    passes_carried does other fine f each block call bad
    (blocks_of block call) old now new end holds is.passes in
    (record { passes = passes.0; list = is.list }, passes.1)
blocks_carried does other fine f each block call bad after old now new (Err Struck) holds is =
    let passes =
    passes_carried does other fine f each block call bad is.count old now new is.end holds
    is.passes in (
      record {
        count = is.count;
        end = is.end;
        passes = passes.0;
        within = is.within;
        stopped = is.stopped;
        rest = is.rest;
        list = is.list;
      },
      passes.1,
    )
blocks_carried does other fine f each block call bad after old now new
    (Err (Below error)) holds is =
    let passes =
    passes_carried does other fine f each block call bad is.count old now is.mid is.end
    holds is.passes in
    let last =
    each is.mid (call_part block call (begin_of block call + is.count)) is.end
    (Err error) new passes.1 is.fails in (
      record {
        count = is.count;
        mid = f is.mid;
        end = is.end;
        passes = passes.0;
        within = is.within;
        free = is.free;
        fails = last.0;
        rest = is.rest;
        list = is.list;
      },
      last.1,
    )

-- `f` carries over a call that is passed (`IsForwarded`), and a call that is checked (`IsChecked`).
passed_carried : {D E : Type 0} (does : Doing D) (other : Doing E) (fine : D → Type 0) (f : D → E)
    → IsCarried does other fine f
    → (call : Call) (now : ℕ) (result : Result ℕ DevError) (old new : DustState D) → fine old.lower
    → IsForwarded does call now result old new
    → IsForwarded other call now result (held_as f old) (held_as f new) × fine new.lower
passed_carried does other fine f each call now result old new holds is =
    let below = each old.lower call now result new.lower holds is.below in
    (record { below = below.0; list = is.list; faults = is.faults }, below.1)

checked_carried : {D E : Type 0} (does : Doing D) (other : Doing E) (fine : D → Type 0) (f : D → E)
    → IsCarried does other fine f
    → (block : ℕ) (call : Call) (now : ℕ) (result : Result ℕ DevError) (old new : DustState D)
    → fine old.lower → IsChecked does block call now result old new
    → IsChecked other block call now result (held_as f old) (held_as f new) × fine new.lower
checked_carried does other fine f each block call now result old new holds is =
    let blocks =
    blocks_carried does other fine f each block call old.bad new.bad old.lower now new.lower
    is.stop holds is.blocks in
    (record { stop = is.stop; blocks = blocks.0; answer = is.answer; faults = is.faults }, blocks.1)

-- `f` carries over a call in each mode.
pub done_carried : {D E : Type 0} (does : Doing D) (other : Doing E) (fine : D → Type 0) (f : D → E)
    → IsCarried does other fine f
    → (mode : Mode) (block : ℕ) (call : Call) (now : ℕ) (result : Result ℕ DevError)
    (old new : DustState D) → fine old.lower
    → IsDoneBy does mode block call now result old new
    → IsDoneBy other mode block call now result (held_as f old) (held_as f new) × fine new.lower
done_carried does other fine f each Bypass block call now result old new holds is =
    passed_carried does other fine f each call now result old new holds is
done_carried does other fine f each FailReadOnBadBlock block
    (Reads first before after) now result old new holds is =
    checked_carried does other fine f each block
    (Reads first before after) now result old new holds is
done_carried does other fine f each FailReadOnBadBlock block
    (Writes first bytes fua) now result old new holds is =
    checked_carried does other fine f each block
    (Writes first bytes fua) now result old new holds is
done_carried does other fine f each FailReadOnBadBlock block
    (Discards first count) now result old new holds is =
    checked_carried does other fine f each block (Discards first count) now result old new holds is
done_carried does other fine f each FailReadOnBadBlock block Flushes now result old new holds is =
    passed_carried does other fine f each Flushes now result old new holds is
