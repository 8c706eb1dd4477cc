-- Examples of verdicts, shifted calls and ranges, proved by computation.
use Rattle.std.proofs.Common.{arith, ◌≡◌, ◌||◌, ℕ, ◌+◌, List, true, false, [], ◌∷◌, Ok}
use Rattle.std.proofs.Common.{slice_index_or, refl, ap, ◌∙◌}
use Rattle.std.specs.Prelude.{◌-◌, ◌^◌}
use Rattle.bio.specs.Content.{Content, moved}
use Rattle.blockdev.specs.View.{Discards, Flushes}
use Rattle.fault_layers.specs.Decision.{IsDecided}
use Rattle.fault_layers.specs.declared.fault_rule.CallKind.TheVariants.{Discard, Flush, Read, Write}
use Rattle.fault_layers.specs.declared.fault_rule.CallVerdict.TheVariants.{Delay, Drop, Fail, Pass}
use Rattle.fault_layers.specs.declared.ruled.Ruled.{Ruled}
use Rattle.fault_layers.specs.declared.fault_rule.Feature.TheVariants as features
use Rattle.fault_layers.specs.declared.fault_rule.Target.{Target}
use Rattle.fault_layers.specs.declared.fault_rule.Target.TheVariants.{Linear}
use Rattle.fault_layers.specs.declared.fault_rule.Target.TheVariants as targets
use Rattle.fault_layers.specs.Verdicts.{delay_of, delay_verdict, Delays, is_up, loaded_after}
use Rattle.fault_layers.specs.Verdicts.{rule_verdict, Cycle, Loaded, drops_writes, flakey_verdict}
use Rattle.fault_layers.specs.Verdicts.{fuse_after, fuse_verdict}
use Rattle.fault_layers.specs.Window.{SeenFrom, call_from}

-- Up for 10 seconds and down for 5, from the time `load` on.
ten_and_five : ℕ → Cycle
ten_and_five load = record { up = 10; down = 5; feature = features.None; load = load }

-- never up
never : Cycle
never = record { up = 0; down = 5; feature = features.None; load = 0 }

-- never down
always : Cycle
always = record { up = 5; down = 0; feature = features.None; load = 0 }

last : ℕ
last = 2 ^ 64 - 1

up-last : is_up (ten_and_five 0) 9999 ≡ true
unfolding ten_and_five
up-last = refl

down-first : is_up (ten_and_five 0) 10000 ≡ false
unfolding ten_and_five
down-first = refl

down-last : is_up (ten_and_five 0) 14999 ≡ false
unfolding ten_and_five
down-last = refl

up-again : is_up (ten_and_five 0) 15000 ≡ true
unfolding ten_and_five
up-again = refl

-- A time before the load counts as the load.
up-before : is_up (ten_and_five 3000) 1000 ≡ true
unfolding ten_and_five
up-before = refl

loaded-up : is_up (ten_and_five 3000) 12999 ≡ true
unfolding ten_and_five
loaded-up = refl

loaded-down : is_up (ten_and_five 3000) 13000 ≡ false
unfolding ten_and_five
loaded-down = refl

never-up : is_up never 0 ≡ false
unfolding never
never-up = refl

always-up : is_up always 5000 ≡ true
unfolding always
always-up = refl

-- At the time 2^64 - 1, 6.615 seconds of a cycle have passed. If the target is loaded at that time,
-- no time has passed.
last-up : is_up (ten_and_five 0) last ≡ true
unfolding ten_and_five last
last-up = refl

last-loaded : is_up (ten_and_five last) last ≡ true
unfolding ten_and_five last
last-loaded = refl

last-never : is_up never last ≡ false
unfolding never last
last-never = refl

-- The verdict of each feature while the target is down.
down-none-read : flakey_verdict (record never { feature = features.None }) Read 7 ≡ Fail
unfolding never
down-none-read = refl

down-none-flush : flakey_verdict (record never { feature = features.None }) Flush 7 ≡ Fail
unfolding never
down-none-flush = refl

down-reads-read : flakey_verdict (record never { feature = features.ErrorReads }) Read 7 ≡ Fail
unfolding never
down-reads-read = refl

down-reads-write : flakey_verdict (record never { feature = features.ErrorReads }) Write 7 ≡ Pass
unfolding never
down-reads-write = refl

down-writes-read : flakey_verdict (record never { feature = features.ErrorWrites }) Read 7 ≡ Pass
unfolding never
down-writes-read = refl

down-drops-read : flakey_verdict (record never { feature = features.DropWrites }) Read 7 ≡ Pass
unfolding never
down-drops-read = refl

down-drops-flush : flakey_verdict (record never { feature = features.DropWrites }) Flush 7 ≡ Drop
unfolding never
down-drops-flush = refl

-- While the target is up, every call passes.
up-passes : flakey_verdict (record always { feature = features.DropWrites }) Write 7 ≡ Pass
unfolding always
up-passes = refl

-- A fuse with no call left: writes fail, reads pass.
fuse-none : fuse_verdict 0 Write 7 ≡ Fail
fuse-none = refl

fuse-reads : fuse_verdict 0 Read 7 ≡ Pass
fuse-reads = refl

-- A fuse with one call left: a read takes none, the first flush passes, and the discard after it
-- fails.
fuse-one : fuse_verdict (fuse_after 1 Read 7) Flush 7 ≡ Pass
fuse-one = refl

fuse-one-after : fuse_verdict (fuse_after 1 Flush 7) Discard 7 ≡ Fail
fuse-one-after = refl

-- A fuse with two calls left: the second write passes, and the third fails.
fuse-two : fuse_verdict (fuse_after 2 Write 7) Write 8 ≡ Pass
fuse-two = refl

fuse-two-after : fuse_verdict (fuse_after (fuse_after 2 Write 7) Discard 8) Write 9 ≡ Fail
fuse-two-after = refl

-- Calls shifted by four sectors. A flush has no sectors.
four-on : call_from 4 (Discards 3 2) ≡ Discards 7 2
four-on = refl

flush-on : call_from 4 Flushes ≡ Flushes
flush-on = refl

-- Sector 0 of a range is the lower device's sector at the range's offset.
numbered : Content
numbered sector = sector ∷ []

range-first : moved 4 numbered 0 ≡ 4 ∷ []
unfolding numbered
range-first = refl

-- ---- gates

abbrev fault_rule : Target → Loaded
fault_rule target = record { target = target; load = 3000 }

-- Up for 10 seconds from the time 3000 on, then down for 5; it drops writes while it is down.
abbrev dropping : Loaded
dropping = fault_rule (targets.Flakey 10 5 features.DropWrites)

last-up-write : rule_verdict dropping Write 12999 ≡ Pass
last-up-write = refl

first-down-write : rule_verdict dropping Write 13000 ≡ Drop
first-down-write = refl

-- After a write a fuse has one call fewer left; after a read it has as many as before. Other gates
-- stay.
written : loaded_after (fault_rule (targets.Fuse 2)) Write 7 ≡ fault_rule (targets.Fuse 1)
written = refl

was-read : loaded_after (fault_rule (targets.Fuse 2)) Read 7 ≡ fault_rule (targets.Fuse 2)
was-read = refl

stays : loaded_after dropping Write 7 ≡ dropping
stays = refl

delays-stay : loaded_after (fault_rule (targets.Delay 1 2 3)) Flush 7 ≡ fault_rule (targets.Delay 1 2 3)
delays-stay = refl

fails : rule_verdict (fault_rule targets.Error) Read 7 ≡ Fail
fails = refl

-- A discard is delayed like a write.
discarded-later : rule_verdict (fault_rule (targets.Delay 1 2 3)) Discard 7 ≡ Delay 2
discarded-later = refl

flushed-later : rule_verdict (fault_rule (targets.Delay 1 2 3)) Flush 7 ≡ Delay 3
flushed-later = refl

-- A fault rule with a linear or a dust target passes every call.
all-passes : rule_verdict (fault_rule targets.Linear) Write 7 ≡ Pass
all-passes = refl

dust-passes : rule_verdict (fault_rule (targets.Dust 512)) Write 7 ≡ Pass
dust-passes = refl

-- ---- which layers may drop writes: a flakey one with that feature, and no other

flakey-drops : drops_writes (targets.Flakey 0 1 features.DropWrites) ≡ true
flakey-drops = refl

flakey-errs : drops_writes (targets.Flakey 0 1 features.ErrorWrites)
    || (drops_writes (targets.Flakey 0 1 features.ErrorReads)
    || drops_writes (targets.Flakey 0 1 features.None)) ≡ false
flakey-errs = refl

others-pass : drops_writes targets.Linear
    || (drops_writes targets.Error
    || (drops_writes (targets.Fuse 0)
    || (drops_writes (targets.Dust 512) || drops_writes (targets.Delay 1 2 3)))) ≡ false
others-pass = refl

-- A device that breaks the clause `passes` of `IsDecided`, and a content that breaks `SeenFrom`.
-- The delay of each kind, by computation.

-- A `Ruled` over a lower device that is a number, with these counts of faults and lies.
ruled : ℕ → ℕ → ℕ → Ruled ℕ ℕ
ruled lower faults lies =
    record {
      lower = lower;
      fault_rule = record { target = Linear; load = 0 };
      faults = faults;
      lies = lies;
      kind = 0;
    }

-- If a call passes and the lower device doesn't do it, `IsDecided` refuses it.
pass_below : IsDecided Pass (λ begun. ⊥) Flushes 5 (Ok 5) (ruled 0 0 0) (ruled 1 0 0) → ⊥
pass_below told = (told.passes refl).0

-- Each kind of call has its own delay, but a discard has the delay of a write.
abbrev delaying : Delays
delaying = record { read = 1; write = 2; flush = 3 }

delays_of_kinds : (delay_of delaying Read ≡ 1) × (delay_of delaying Write ≡ 2)
    × (delay_of delaying Discard ≡ 2) × (delay_of delaying Flush ≡ 3)
delays_of_kinds = (refl, refl, refl, refl)

-- The delay doesn't depend on the time.
delayed_at_any : (now : ℕ) → delay_verdict delaying Flush now ≡ Delay 3
delayed_at_any now = refl

-- If a range has other sectors than those from its offset on, `SeenFrom` refuses it.
Numbered : Content → Type 0
Numbered below = (sector : ℕ) → below sector ≡ sector ∷ []

seen : SeenFrom 4 Numbered (λ sector. (4 + sector) ∷ [])
unfolding Numbered
seen = (λ sector. sector ∷ [], λ sector. refl, λ sector. refl)

seen_elsewhere : SeenFrom 4 Numbered (λ sector. sector ∷ []) → ⊥
unfolding Numbered
seen_elsewhere (below, is, same) =
    let at = ap (λ (xs : List ℕ). slice_index_or xs 0 9) (same 0 ∙ is 4) in omega arith
