-- The verdict about a call by a layer's target, the target after the call, and which calls a fault
-- rule never drops.
use Rattle.std.specs.Prelude.{ℕ, zero, suc, ◌+◌, ◌-◌, ◌*◌, ◌%◌, ◌≤◌, Bool, true, false, nat_lt}
use Rattle.std.proofs.Common.{◌≡◌, ◌∙◌, true≢false, refl, sym}
use Rattle.fault_layers.specs.declared.fault_rule.CallKind.{CallKind}
use Rattle.fault_layers.specs.declared.fault_rule.CallKind.TheVariants.{Discard, Flush, Read, Write}
use Rattle.fault_layers.specs.declared.fault_rule.CallVerdict.{CallVerdict}
use Rattle.fault_layers.specs.declared.fault_rule.CallVerdict.TheVariants.{Delay, Drop, Fail, Pass}
use Rattle.fault_layers.specs.declared.fault_rule.Feature.{Feature}
use Rattle.fault_layers.specs.declared.fault_rule.Feature.TheVariants as features
use Rattle.fault_layers.specs.declared.fault_rule.Target.{Target}
use Rattle.fault_layers.specs.declared.fault_rule.Target.TheVariants as targets

-- ---- flakey

-- A flakey target may be up for `up` seconds and down for `down` seconds: the sum is 1 to
-- 4294967295.
pub record IsCycle (up down : ℕ) : Type 0 where
  pub some : 1 ≤ up + down
  pub few : up + down ≤ 4294967295

-- The parameters of a flakey target: its seconds up and down, its feature, and the time of its load
-- in milliseconds.
pub record Cycle : Type 0 where
  pub up : ℕ
  pub down : ℕ
  pub feature : Feature
  pub load : ℕ

-- Whether a flakey target is up at a time: it is in the first `up` seconds of each cycle since its
-- load. A time before the load counts as the load.
abbrev pub is_up : Cycle → ℕ → Bool
is_up cycle now = nat_lt ((now - cycle.load) % (1000 * (cycle.up + cycle.down))) (1000 * cycle.up)

-- The verdict of a flakey target that is down.
abbrev pub down_verdict : Feature → CallKind → CallVerdict
down_verdict features.None kind = Fail
down_verdict features.ErrorReads Read = Fail
down_verdict features.ErrorReads Write = Pass
down_verdict features.ErrorReads Discard = Pass
down_verdict features.ErrorReads Flush = Pass
down_verdict features.ErrorWrites Read = Pass
down_verdict features.ErrorWrites Write = Fail
down_verdict features.ErrorWrites Discard = Fail
down_verdict features.ErrorWrites Flush = Fail
down_verdict features.DropWrites Read = Pass
down_verdict features.DropWrites Write = Drop
down_verdict features.DropWrites Discard = Drop
down_verdict features.DropWrites Flush = Drop

-- The verdict of a flakey target; the first argument says whether it is up.
abbrev pub verdict_if : Bool → Feature → CallKind → CallVerdict
verdict_if true feature kind = Pass
verdict_if false feature kind = down_verdict feature kind

abbrev pub flakey_verdict : Cycle → CallKind → ℕ → CallVerdict
flakey_verdict cycle kind now = verdict_if (is_up cycle now) cycle.feature kind

-- Whether a flakey target with this feature drops writes, discards and flushes while it is down.
abbrev pub is_drop_writes : Feature → Bool
is_drop_writes features.None = false
is_drop_writes features.ErrorReads = false
is_drop_writes features.ErrorWrites = false
is_drop_writes features.DropWrites = true

-- ---- fuse

-- A fuse's verdict about a write, a discard or a flush, given how many calls are left.
abbrev pub while_left : ℕ → CallVerdict
while_left zero = Fail
while_left (suc calls) = Pass

-- The verdict of a fuse that has `calls` calls left. Reads always pass.
abbrev pub fuse_verdict : ℕ → CallKind → ℕ → CallVerdict
fuse_verdict calls Read now = Pass
fuse_verdict calls Write now = while_left calls
fuse_verdict calls Discard now = while_left calls
fuse_verdict calls Flush now = while_left calls

-- The number of calls left after a call. A write, a discard or a flush uses one up, if one is left.
abbrev pub fuse_after : ℕ → CallKind → ℕ → ℕ
fuse_after calls Read now = calls
fuse_after calls Write now = calls - 1
fuse_after calls Discard now = calls - 1
fuse_after calls Flush now = calls - 1

-- ---- delay

-- The delays of a delay target, in milliseconds.
pub record Delays : Type 0 where
  pub read : ℕ
  pub write : ℕ
  pub flush : ℕ

-- The delay of a call of this kind. A discard is delayed like a write.
abbrev pub delay_of : Delays → CallKind → ℕ
delay_of delays Read = delays.read
delay_of delays Write = delays.write
delay_of delays Discard = delays.write
delay_of delays Flush = delays.flush

-- Every call is delayed by the delay of its kind.
abbrev pub delay_verdict : Delays → CallKind → ℕ → CallVerdict
delay_verdict delays kind now = Delay (delay_of delays kind)

-- ---- all targets

-- A target, and the time of its load in milliseconds: a fault rule, as contracts see it.
pub record Loaded : Type 0 where
  pub target : Target
  pub load : ℕ

-- The verdict of a target that was loaded at `load`. A dust target passes every call here: its
-- layer has no fault rule, and goes block by block.
abbrev pub target_verdict : Target → ℕ → CallKind → ℕ → CallVerdict
target_verdict targets.Linear load kind now = Pass
target_verdict targets.Error load kind now = Fail
target_verdict (targets.Flakey up down feature) load kind now =
    flakey_verdict (record { up = up; down = down; feature = feature; load = load }) kind now
target_verdict (targets.Fuse calls) load kind now = fuse_verdict calls kind now
target_verdict (targets.Dust bytes) load kind now = Pass
target_verdict (targets.Delay read write flush) load kind now =
    delay_verdict (record { read = read; write = write; flush = flush }) kind now

abbrev pub rule_verdict : Loaded → CallKind → ℕ → CallVerdict
rule_verdict fault_rule kind now = target_verdict fault_rule.target fault_rule.load kind now

-- The target after a call. Only a fuse changes.
abbrev pub target_after : Target → CallKind → ℕ → Target
target_after (targets.Fuse calls) kind now = targets.Fuse (fuse_after calls kind now)
target_after target kind now = target

abbrev pub loaded_after : Loaded → CallKind → ℕ → Loaded
loaded_after fault_rule kind now =
    record { target = target_after fault_rule.target kind now; load = fault_rule.load }

-- Whether the target may drop writes, discards and flushes, and report them as done.
abbrev pub drops_writes : Target → Bool
drops_writes (targets.Flakey up down feature) = is_drop_writes feature
drops_writes target = false

-- If the target is flakey, its seconds are in their range (`IsCycle`).
abbrev pub HasCycle : Target → Type 0
HasCycle (targets.Flakey up down feature) = IsCycle up down
HasCycle target = Unit {0}

-- ---- laws: which calls are never dropped

-- If a flakey target that is down drops a call, its feature is DropWrites, and the call isn't a
-- read.
down_drops : (feature : Feature) (kind : CallKind) → down_verdict feature kind ≡ Drop
    → (is_drop_writes feature ≡ true) × (kind ≡ Read → ⊥)
down_drops features.None kind is = absurd (cc)
down_drops features.ErrorReads Read is = absurd (cc)
down_drops features.ErrorReads Write is = absurd (cc)
down_drops features.ErrorReads Discard is = absurd (cc)
down_drops features.ErrorReads Flush is = absurd (cc)
down_drops features.ErrorWrites Read is = absurd (cc)
down_drops features.ErrorWrites Write is = absurd (cc)
down_drops features.ErrorWrites Discard is = absurd (cc)
down_drops features.ErrorWrites Flush is = absurd (cc)
down_drops features.DropWrites Read is = absurd (cc)
down_drops features.DropWrites Write is = (refl, λ read. cc)
down_drops features.DropWrites Discard is = (refl, λ read. cc)
down_drops features.DropWrites Flush is = (refl, λ read. cc)

flakey_drops : (up : Bool) (feature : Feature) (kind : CallKind) → verdict_if up feature kind ≡ Drop
    → (is_drop_writes feature ≡ true) × (kind ≡ Read → ⊥)
flakey_drops true feature kind is = absurd (cc)
flakey_drops false feature kind is = down_drops feature kind is

-- A fuse drops no call.
while_drops : (calls : ℕ) → while_left calls ≡ Drop → ⊥
while_drops zero is = cc
while_drops (suc calls) is = cc

fuse_drops : (calls : ℕ) (kind : CallKind) (now : ℕ) → fuse_verdict calls kind now ≡ Drop → ⊥
fuse_drops calls Read now is = cc
fuse_drops calls Write now is = while_drops calls is
fuse_drops calls Discard now is = while_drops calls is
fuse_drops calls Flush now is = while_drops calls is

-- If a target drops a call, it may drop writes (`drops_writes`), and the call isn't a read.
target_drops : (target : Target) (load : ℕ) (kind : CallKind) (now : ℕ)
    → target_verdict target load kind now ≡ Drop
    → (drops_writes target ≡ true) × (kind ≡ Read → ⊥)
target_drops targets.Linear load kind now is = absurd (cc)
target_drops targets.Error load kind now is = absurd (cc)
target_drops (targets.Flakey up down feature) load kind now is =
    flakey_drops (is_up (record { up = up; down = down; feature = feature; load = load }) now)
    feature kind is
target_drops (targets.Fuse calls) load kind now is = absurd (fuse_drops calls kind now is)
target_drops (targets.Dust bytes) load kind now is = absurd (cc)
target_drops (targets.Delay read write flush) load kind now is = absurd (cc)

-- If a fault rule's target may not drop writes, the fault rule drops no call.
pub rule_honest : (loaded : Loaded) (kind : CallKind) (now : ℕ) → drops_writes loaded.target ≡ false
    → rule_verdict loaded kind now ≡ Drop → ⊥
rule_honest loaded kind now none is =
    true≢false (sym (target_drops loaded.target loaded.load kind now is).0 ∙ none)

-- No fault rule drops a read.
pub rule_keeps_reads : (loaded : Loaded) (now : ℕ) → rule_verdict loaded Read now ≡ Drop → ⊥
rule_keeps_reads loaded now is = (target_drops loaded.target loaded.load Read now is).1 refl

-- A decision doesn't change whether a target may drop writes.
target_stays : (target : Target) (load : ℕ) (kind : CallKind) (now : ℕ)
    → drops_writes (loaded_after (record { target = target; load = load }) kind now).target
    ≡ drops_writes target
target_stays targets.Linear load kind now = refl
target_stays targets.Error load kind now = refl
target_stays (targets.Flakey up down feature) load kind now = refl
target_stays (targets.Fuse calls) load kind now = refl
target_stays (targets.Dust bytes) load kind now = refl
target_stays (targets.Delay read write flush) load kind now = refl

pub rule_stays : (loaded : Loaded) (kind : CallKind) (now : ℕ)
    → drops_writes (loaded_after loaded kind now).target ≡ drops_writes loaded.target
rule_stays loaded kind now = target_stays loaded.target loaded.load kind now
