-- What holds after some blocks of a call are done, and after the last block.
use Rattle.std.proofs.Common.{◌≡◌, ℕ, suc, ◌+◌, ◌-◌, ◌*◌, ◌/◌, ◌<◌, ◌≤◌, Bool, true, false, ◌&&◌}
use Rattle.std.proofs.Common.{Option, None, Ok, Err, length, take, drop, refl, ap, sym, subst, ◌∙◌}
use Rattle.std.proofs.Common.{arith}
use Rattle.std.proofs.lemmas.Bool.{cases_lt, lt-ltb, le-ltb, le-leb, leb-true}
use Rattle.std.proofs.lemmas.Bool.Decides.{nat_tests}
use Rattle.std.proofs.Math.Bool.{and-false}
use Rattle.std.proofs.lemmas.Nat.{le-div}
use Rattle.std.proofs.Math.Nat.{div-mul-le_self, lt-div-mul-add, mul-le-mul_right}
use Rattle.std.specs.Prelude.{Result, nat_le, nat_lt, if◌then◌else◌}
use Rattle.bio.specs.declared.outcome.DevError.{DevError}
use Rattle.blockdev.specs.View.{Call, Flushes, Reads, View}
use Rattle.blockdev.specs.JoinLaws.{goes_cut, goes_next, goes_none, lands_all, lands_first}
use Rattle.blockdev.specs.JoinLaws.{lands_next, no_lie_parts}
use Rattle.blockdev.specs.Law.{DeviceFrame, WriteDone, NoLie}
use Rattle.bio.specs.Content.{HasNoneBelow, HasNoneFrom, SameValues, below, between}
use Rattle.bio.specs.ContentLaws.{discards-between, over-after, over-below, writes-between}
use Rattle.bio.specs.PlaceLaws.{last_or_below}
use Rattle.dust_layer.specs.declared.parts.PartChange.{PartChange}
use Rattle.dust_layer.specs.declared.parts.PartChange.TheVariants as changes
use Rattle.dust_layer.specs.Walk.{change_call, listed_count, first_of, fua_of, part_within}
use Rattle.dust_layer.specs.Walk.{FailsBelow, Passes, begin_of, block_behind, patch_of, reach}
use Rattle.dust_layer.specs.Walk.{stops, list_passed, KeepsRest, call_part, Bad, IsList, count_left}
use Rattle.dust_layer.specs.Walk.{with_entry, list_without}

suc-times : (q b : ℕ) → suc q * b ≡ q * b + b
suc-times q b = omega arith

pub times-le : (p q b : ℕ) → p ≤ q → p * b ≤ q * b
times-le p q b h = mul-le-mul_right b h

reach_first : (block first count : ℕ) → 0 < count → reach block first count (first / block) ≡ first
reach_first block first count some = grind (arith, div-mul-le_self)

pub reach_last : (block first count : ℕ) → 0 < block → 0 < count
    → reach block first count (block_behind block first count) ≡ first + count
reach_last block first count positive some = grind (arith, lt-div-mul-add, suc-times)

pub reach_more : (block first count place : ℕ) → 0 < block → 0 < count → first / block ≤ place
    → place < block_behind block first count
    → reach block first count place < reach block first count (suc place)
reach_more block first count place positive some low high =
    grind (arith, div-mul-le_self, times-le, lt-div-mul-add, suc-times)

pub part-values : (first count from to : ℕ) (change : PartChange)
    → listed_count (change_call first count change) ≡ count → first ≤ from → from ≤ to → to ≤ first + count
    → SameValues (patch_of (part_within from to (change_call first count change)))
    (between from to (patch_of (change_call first count change)))
part-values first count from to (changes.Write bytes fua) size low order high =
    grind (
      arith,
      length bytes.now,
      take (512 * (to - from)) (drop (512 * (from - first))
          bytes.now),
      writes-between first (from - first) (to - from) bytes.now (omega arith),
    )
part-values first count from to changes.Discard size low order high =
    grind (arith, discards-between first count (from - first) (to - from) (omega arith))

pub without-in : (from to : ℕ) (bad : Bad) (block : ℕ) → from ≤ block → block < to
    → list_without from to bad block ≡ None
without-in from to bad block low high = grind (arith, le-leb, lt-ltb)

without-before : (from to : ℕ) (bad : Bad) (block : ℕ) → block < from
    → list_without from to bad block ≡ bad block
without-before from to bad block h =
    ap (λ b. if b && nat_lt block to then None else bad block) (above (nat_le from block) refl)
  where
    above : (b : _) → nat_le from block ≡ b → b ≡ false
    above true e = absurd (let within = leb-true from block e in omega arith)
    above false e = refl

pub without-after : (from to : ℕ) (bad : Bad) (block : ℕ) → to ≤ block
    → list_without from to bad block ≡ bad block
without-after from to bad block h = grind (arith, le-ltb, and-false)

pub without-none : (begin : ℕ) (bad : Bad) → IsList bad (list_without begin (begin + 0) bad)
without-none begin bad = grind (arith, cases_lt, without-before, without-after)

entry-here : (place : ℕ) (entry : Option ℕ) (bad : Bad) (block : ℕ) → block ≡ place
    → with_entry place entry bad block ≡ entry
entry-here place entry bad block is = grind (arith, nat_tests)

entry-apart : (place : ℕ) (entry : Option ℕ) (bad : Bad) (block : ℕ) → (block ≡ place → ⊥)
    → with_entry place entry bad block ≡ bad block
entry-apart place entry bad block apart = grind (arith, nat_tests)

pub without-next : (begin count : ℕ) (bad now : Bad)
    → IsList now (list_without begin (begin + count) bad)
    → IsList (with_entry (begin + count) None now) (list_without begin (begin + suc count) bad)
without-next begin count bad now same =
    grind (arith, cases_lt, entry-apart, without-before, without-in, entry-here, without-after)

-- The first `count` blocks of a call are done, and the next part begins at sector `from`.
pub record HasPassed {D : Type 0} (does : D → Call → ℕ → Result ℕ DevError → D → Type 0) (block : ℕ)
    (call : Call) (bad now_bad : Bad) (count from : ℕ)
    (old : D) (now : ℕ) (new : D) (end : ℕ) : Type 0 where
  pub reached : from ≡ reach block (first_of call) (listed_count call) (begin_of block call + count)
  pub passes : Passes does block call bad count old now new end
  pub list : IsList now_bad (list_passed call (begin_of block call) count bad)
  pub time : now ≤ end

none-passed : (begin : ℕ) (call : Call) (bad : Bad) → IsList bad (list_passed call begin 0 bad)
none-passed begin (Reads first before after) bad = λ place. refl
none-passed begin Flushes bad = λ place. refl
none-passed begin other bad = without-none begin bad

pub passed_next : {D : Type 0} (does : D → Call → ℕ → Result ℕ DevError → D → Type 0) (block : ℕ)
    (call : Call) (bad before after : Bad) (count from to : ℕ)
    (old : D) (now : ℕ) (mid : D) (at : ℕ) (new : D) (end : ℕ)
    → HasPassed does block call bad before count from old now mid at
    → stops call bad (begin_of block call + count) ≡ false
    → to ≡ reach block (first_of call) (listed_count call) (suc (begin_of block call + count))
    → does mid (part_within from to call) at (Ok end) new → at ≤ end
    → IsList after (list_passed call (begin_of block call) (suc count) bad)
    → HasPassed does block call bad after (suc count) to old now new end
passed_next does block call bad before after count from to old now mid at new end so_far free is_to
    done later list = grind (arith, last_or_below)

pub change-first : (first count : ℕ) (change : PartChange)
    → first_of (change_call first count change) ≡ first
change-first first count (changes.Write bytes fua) = refl
change-first first count changes.Discard = refl

rest-change : (block first count : ℕ) (change : PartChange) (n : ℕ)
    → KeepsRest block (change_call first count change) n
rest-change block first count (changes.Write bytes fua) n = tt
rest-change block first count changes.Discard n = tt

pub begin-change : (block first count : ℕ) (change : PartChange)
    → begin_of block (change_call first count change) ≡ first / block
begin-change block first count change = grind (arith, change-first)

pub none-before : (first count : ℕ) (change : PartChange)
    → HasNoneBelow first (patch_of (change_call first count change))
none-before first count (changes.Write bytes fua) = grind (arith, over-below)
none-before first count changes.Discard = grind (arith, over-below)

pub none-behind : (first count : ℕ) (change : PartChange)
    → listed_count (change_call first count change) ≡ count
    → HasNoneFrom (first + count) (patch_of (change_call first count change))
none-behind first count (changes.Write bytes fua) size = grind (arith, over-after)
none-behind first count changes.Discard size = grind (arith, over-after)

-- the current list `before` lacks only blocks before the next one, so it says whether that one
-- stops the call
pub stops-change : (first count : ℕ) (change : PartChange) (begin done : ℕ) (bad before : Bad)
    → IsList before (list_passed (change_call first count change) begin done bad)
    → stops (change_call first count change) bad (begin + done)
    ≡ nat_lt 0 (count_left before (begin + done))
stops-change first count other begin done bad before same = grind (arith, without-after)

pub list-next : (first count : ℕ) (change : PartChange) (begin done : ℕ) (bad before struck after : Bad)
    → IsList before (list_passed (change_call first count change) begin done bad) → IsList struck before
    → IsList after (with_entry (begin + done) None struck)
    → IsList after (list_passed (change_call first count change) begin (suc done) bad)
list-next first count other begin done bad before struck after same stays forgets =
    grind (arith, without-next)

-- The first `count` blocks of a write or a discard are done: its values below sector `from` are
-- put.
pub record ChangesBlocks {D : Type 0} (does : D → Call → ℕ → Result ℕ DevError → D → Type 0)
    (shown : D → View) (block : ℕ) (call : Call) (fua : Bool)
    (bad now_bad : Bad) (count from : ℕ) (old : D) (now : ℕ) (new : D) (end : ℕ) : Type 0 where
  pub passed : HasPassed does block call bad now_bad count from old now new end
  pub goes : DeviceFrame (below from (patch_of call)) (shown old) (shown new)
  pub lands : NoLie (shown old) (shown new)
      → WriteDone (below from (patch_of call)) fua (shown old) (shown new)

pub changes_first : {D : Type 0} (does : D → Call → ℕ → Result ℕ DevError → D → Type 0)
    (shown : D → View) (block first count : ℕ) (change : PartChange)
    (bad : Bad) (old : D) (now : ℕ) → 0 < count → listed_count (change_call first count change) ≡ count
    → ChangesBlocks does shown block (change_call first count change)
    (fua_of change) bad bad 0 first old now old now
changes_first does shown block first count change bad old now some size =
    grind (arith, change-first, reach_first, none-passed, goes_none, lands_first, none-before)

pub changes_next : {D : Type 0} (does : D → Call → ℕ → Result ℕ DevError → D → Type 0)
    (shown : D → View) (block first count : ℕ) (change : PartChange)
    (bad before after : Bad) (done from to : ℕ) (old : D) (now : ℕ) (mid : D) (at : ℕ) (new : D)
    (end : ℕ)
    → listed_count (change_call first count change) ≡ count → first ≤ from → from ≤ to → to ≤ first + count
    → ChangesBlocks does shown block (change_call first count change)
    (fua_of change) bad before done from old now mid at
    → HasPassed does block (change_call first count change) bad after (suc done) to old now new end
    → DeviceFrame (patch_of (part_within from to (change_call first count change))) (shown mid)
    (shown new)
    → (NoLie (shown mid) (shown new)
    → WriteDone (patch_of (part_within from to (change_call first count change))) (fua_of change)
    (shown mid) (shown new))
    → ChangesBlocks does shown block (change_call first count change) (fua_of change) bad after
    (suc done) to old now new end
changes_next does shown block first count change bad before after done from to old now mid at new
    end size low order high so_far passed goes lands =
    let call = change_call first count change in
    let piece = patch_of (part_within from to call) in
    let same : SameValues piece (between from to (patch_of call)) =
    part-values first count from to change size low order high in
    record {
      passed = passed;
      goes =
          grind (arith, goes_next);
      lands = λ told.
          grind (arith, no_lie_parts, lands_next);
    }

-- The next part has the sectors from `from` to before `to`.
pub record IsNextPart (block first count done from to : ℕ) : Type 0 where
  pub begins : from ≡ reach block first count (first / block + done)
  pub low : first ≤ from
  pub order : from < to
  pub high : to ≤ first + count

pub next_part_from : (block first count done from : ℕ) → 0 < block → 0 < count
    → done < (first + count - 1) / block + 1 - first / block
    → from ≡ reach block first count (first / block + done)
    → IsNextPart block first count done from (reach block first count (suc (first / block + done)))
next_part_from block first count done from positive some within begins = grind (arith, reach_more)

pub next_part : {D : Type 0} (does : D → Call → ℕ → Result ℕ DevError → D → Type 0)
    (block first count : ℕ) (change : PartChange) (bad list : Bad)
    (done from : ℕ) (old : D) (now : ℕ) (mid : D) (at : ℕ)
    → 0 < block → 0 < count → listed_count (change_call first count change) ≡ count
    → done < (first + count - 1) / block + 1 - first / block
    → HasPassed does block (change_call first count change) bad list done from old now mid at
    → IsNextPart block first count done from (reach block first count (suc (first / block + done)))
next_part does block first count change bad list done from old now mid at positive some size within
    so_far = grind (arith, next_part_from, change-first)

pub changes_step : {D : Type 0} (does : D → Call → ℕ → Result ℕ DevError → D → Type 0)
    (shown : D → View) (block first count : ℕ) (change : PartChange)
    (bad before struck after : Bad) (done from to : ℕ) (old : D) (now : ℕ) (mid : D) (at : ℕ)
    (new : D) (end : ℕ)
    → 0 < block → 0 < count → listed_count (change_call first count change) ≡ count
    → done < (first + count - 1) / block + 1 - first / block
    → to ≡ reach block first count (first / block + done + 1)
    → ChangesBlocks does shown block (change_call first count change)
    (fua_of change) bad before done from old now mid at
    → false ≡ nat_lt 0 (count_left before (first / block + done))
    → IsList struck before → IsList after (with_entry (first / block + done) None struck)
    → DeviceFrame (patch_of (part_within from to (change_call first count change))) (shown mid)
    (shown new)
    → (NoLie (shown mid) (shown new)
    → WriteDone (patch_of (part_within from to (change_call first count change))) (fua_of change)
    (shown mid) (shown new))
    → does mid (part_within from to (change_call first count change)) at (Ok end) new → at ≤ end
    → ChangesBlocks does shown block (change_call first count change) (fua_of change) bad after
    (done + 1) to old now new end
changes_step does shown block first count change bad before struck after done from to old now mid at
    new end positive some size within is_to so_far free stays forgets goes lands did later =
    let call = change_call first count change in
    let begin : begin_of block call ≡ first / block = begin-change block first count change in
    let part =
    next_part does block first count change bad before done from old now mid at positive
    some size within so_far.passed in
    let ends : to ≡ reach block first count (suc (first / block + done)) =
    is_to ∙ ap (reach block first count) (let b = first / block in omega arith) in
    let reached : to ≡ reach block (first_of call) (listed_count call)
    (suc (begin_of block call + done)) =
    ends
    ∙ ap (λ (f : ℕ). reach block f count (suc (f / block + done)))
    (sym (change-first first count change))
    ∙ ap (λ (n : ℕ). reach block (first_of call) n (suc (begin_of block call + done))) (sym size) in
    let list : IsList after (list_passed call (begin_of block call) (suc done) bad) =
    list-next first count change
    (begin_of block call) done bad before struck after so_far.passed.list stays
    (rw begin forgets) in
    let passes : stops call bad (begin_of block call + done) ≡ false =
    stops-change first count change (begin_of block call) done bad before so_far.passed.list
    ∙ ap (λ (b : ℕ). nat_lt 0 (count_left before (b + done))) begin ∙ sym free in
    let passed : HasPassed does block call bad after (suc done) to old now new end =
    passed_next does block call bad before after done from to old now mid at new end so_far.passed
    passes reached did later list in
    subst (λ (n : ℕ). ChangesBlocks does shown block call (fua_of change) bad after n to old now new end)
    (omega arith)
    (changes_next does shown block first count change bad before after done from to old now mid at
    new end size part.low
    (let h = part.order in omega arith) (let h = part.high in omega (arith, ends)) so_far
    passed goes lands)

part-change : (block first count : ℕ) (change : PartChange) (done from to : ℕ)
    → listed_count (change_call first count change) ≡ count
    → from ≡ reach block (first_of (change_call first count change))
    (listed_count (change_call first count change)) (begin_of block (change_call first count change) + done)
    → to ≡ reach block first count (first / block + done + 1)
    → part_within from to (change_call first count change)
    ≡ call_part block (change_call first count change)
    (begin_of block (change_call first count change) + done)
part-change block first count change done from to size begins ends = grind (arith, change-first)

pub changes_failed : {D : Type 0} (does : D → Call → ℕ → Result ℕ DevError → D → Type 0)
    (shown : D → View) (block first count : ℕ) (change : PartChange)
    (bad before struck : Bad) (done from to : ℕ) (old : D) (now : ℕ) (mid : D) (at : ℕ) (new : D)
    (error : DevError)
    → listed_count (change_call first count change) ≡ count
    → done < (first + count - 1) / block + 1 - first / block
    → to ≡ reach block first count (first / block + done + 1)
    → ChangesBlocks does shown block (change_call first count change)
    (fua_of change) bad before done from old now mid at
    → false ≡ nat_lt 0 (count_left before (first / block + done)) → IsList struck before
    → does mid (part_within from to (change_call first count change)) at (Err error) new
    → FailsBelow does block (change_call first count change) bad struck old now new error
changes_failed does shown block first count change bad before struck done from to old now mid at new
    error size within is_to so_far free stays did =
    grind (arith, change-first, stops-change, begin-change, part-change, rest-change)

pub changes_land : {D : Type 0} (does : D → Call → ℕ → Result ℕ DevError → D → Type 0)
    (shown : D → View) (block first count : ℕ) (change : PartChange)
    (bad list : Bad) (done from : ℕ) (old : D) (now : ℕ) (new : D) (end : ℕ)
    → 0 < block → 0 < count → listed_count (change_call first count change) ≡ count
    → done ≡ (first + count - 1) / block + 1 - first / block
    → ChangesBlocks does shown block (change_call first count change)
    (fua_of change) bad list done from old now new end
    → NoLie (shown old) (shown new)
    → WriteDone (patch_of (change_call first count change)) (fua_of change) (shown old) (shown new)
changes_land does shown block first count change bad list done from old now new end positive some
    size is so_far told =
    grind (arith, div-mul-le_self, le-div, change-first, reach_last, lands_all, none-behind)

pub changes_fails : {D : Type 0} (does : D → Call → ℕ → Result ℕ DevError → D → Type 0)
    (shown : D → View) (block first count : ℕ) (change : PartChange)
    (bad list : Bad) (done from to : ℕ) (old : D) (now : ℕ) (mid : D) (at : ℕ) (new : D)
    → 0 < block → 0 < count → listed_count (change_call first count change) ≡ count
    → done < (first + count - 1) / block + 1 - first / block
    → to ≡ reach block first count (first / block + done + 1)
    → ChangesBlocks does shown block (change_call first count change)
    (fua_of change) bad list done from old now mid at
    → DeviceFrame (patch_of (part_within from to (change_call first count change))) (shown mid)
    (shown new)
    → DeviceFrame (patch_of (change_call first count change)) (shown old) (shown new)
changes_fails does shown block first count change bad list done from to old now mid at new positive
    some size within is_to so_far goes =
    let call = change_call first count change in
    let part =
    next_part does block first count change bad list done from old now mid at positive some
    size within so_far.passed in
    let ends : to ≡ reach block first count (suc (first / block + done)) =
    is_to ∙ ap (reach block first count) (let b = first / block in omega arith) in
    let order : from ≤ to = let h = part.order in omega (arith, ends) in
    let high : to ≤ first + count = let h = part.high in omega (arith, ends) in
    goes_cut to (patch_of call) (shown old) (shown new)
    (goes_next from to (patch_of call) (patch_of (part_within from to call)) (shown old) (shown mid)
    (shown new) order
    (part-values first count from to change size part.low order high) so_far.goes goes)
