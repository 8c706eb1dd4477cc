-- Laws of several calls: of those that together do one whole call, of calls in turn, and of durable
-- and torn writes.
use Rattle.std.proofs.Common.{sym, ◌∙◌, inl, inr, arith, ◌≡◌, ℕ, ◌+◌, true, List, [], ◌∷◌, ◌++◌, Ok}
use Rattle.std.proofs.Common.{Err, subst, ◌≤◌, Bool, None, refl}
use Rattle.std.specs.Prelude.{Result}
use Rattle.bio.specs.Content.{Content, HasBytes, HasNoneBelow, HasNoneFrom, HasWholeSectors, IsPart}
use Rattle.bio.specs.Content.{Joins, Patch, SameValues, below, between, nothing, writes}
use Rattle.bio.specs.ContentLaws.{HasBytes-put, below-joins, below-part, below_all, below_more}
use Rattle.bio.specs.ContentLaws.{below_none, between-part, patched-none, patched-part}
use Rattle.bio.specs.ContentLaws.{patched-same, patched_cases, patched_twice, put-joined, put-none}
use Rattle.bio.specs.ContentLaws.{put-same}
use Rattle.bio.specs.declared.outcome.DevError.{DevError}
use Rattle.blockdev.specs.View.{Call, DoesInTurn, IsLawful, View}
use Rattle.blockdev.specs.Law.{AfterPatch, DeviceFrame, IsTorn, WriteDone, FlushDone, NoLie}
use Rattle.blockdev.specs.Law.{CrashSetKept}

-- Laws of several calls that together do one whole call.

-- If each content of `mid` is a patched content of `set`, each patched content of `mid` is also one
-- of `set`.
after_twice : (patch : Patch) (set mid : Content → Type 0) (left : Content)
    → ((c : Content) → mid c → AfterPatch patch set c)
    → AfterPatch patch mid left → AfterPatch patch set left
after_twice patch set mid left first after =
    let before = first after.0 after.1 in
    (before.0, before.1, patched_twice patch before.0 after.0 left before.2 after.2)

-- If a device isn't called, it satisfies the frame of any call.
pub goes_none : (patch : Patch) (v : View) → DeviceFrame patch v v
goes_none patch v = record {
  size = refl;
  origin = refl;
  content = patched-same patch v.content;
  crash = λ left may. (left, may, patched-same patch left);
  clock = omega arith;
  gains = λ reading left h may. inl may;
  keeps = λ reading left h may. may;
  faults = omega arith;
  lies = omega arith;
  can_lie = refl;
  honest = λ none. refl;
}

-- If a device satisfies the frame of a part of a call, it satisfies the frame of the whole call. So
-- a call may fail after a part of its work.
pub goes_part : (part whole : Patch) (v w : View) → IsPart part whole → DeviceFrame part v w
    → DeviceFrame whole v w
goes_part part whole v w is goes = record {
  size = goes.size;
  origin = goes.origin;
  content = patched-part part whole v.content w.content is goes.content;
  crash = λ left may. wider left (goes.crash left may);
  clock = goes.clock;
  gains = λ reading left h may.
      elim (goes.gains reading left h may) [
        | inl before ↦ inl before
        | inr during ↦ inr (wider left during)
      ];
  keeps = goes.keeps;
  faults = goes.faults;
  lies = goes.lies;
  can_lie = goes.can_lie;
  honest = goes.honest;
}
  where
    wider : (left : Content) → AfterPatch part v.crash left → AfterPatch whole v.crash left
    wider left after = (after.0, after.1, patched-part part whole after.0 left is after.2)

-- If each of two calls in turn satisfies the frame of a patch, both together satisfy it.
pub goes_both : (patch : Patch) (u v w : View) → DeviceFrame patch u v → DeviceFrame patch v w
    → DeviceFrame patch u w
goes_both patch u v w first second = record {
  size = second.size ∙ first.size;
  origin = second.origin ∙ first.origin;
  content = patched_twice patch u.content v.content w.content first.content second.content;
  crash = λ left may. after_twice patch u.crash v.crash left first.crash (second.crash left may);
  clock = let a = first.clock in let b = second.clock in omega arith;
  gains = λ reading left h may.
      elim (second.gains reading left (let a = first.clock in omega arith) may) [
        | inl before ↦ first.gains reading left h before
        | inr during ↦ inr (after_twice patch u.crash v.crash left first.crash during)
      ];
  keeps = λ reading left h may. second.keeps reading left (let a = first.clock in omega arith)
      (first.keeps reading left h may);
  faults = let a = first.faults in let b = second.faults in omega arith;
  lies = let a = first.lies in let b = second.lies in omega arith;
  can_lie = second.can_lie ∙ first.can_lie;
  honest = λ none. second.honest (first.can_lie ∙ none) ∙ first.honest none;
}

-- If two calls in turn each do a part of a whole call, together they satisfy its frame.
pub goes_joined : (first second whole : Patch) (u v w : View) → IsPart first whole
    → IsPart second whole → DeviceFrame first u v → DeviceFrame second v w
    → DeviceFrame whole u w
goes_joined first second whole u v w is_first is_second before after =
    goes_both whole u v w (goes_part first whole u v is_first before)
    (goes_part second whole v w is_second after)

-- A call that changes nothing is a part of each call.
pub nothing-part : (patch : Patch) → IsPart nothing patch
nothing-part patch = λ sector. inl refl

-- If a device satisfies the frame of a call's part below a sector, it satisfies the call's frame.
pub goes_cut : (end : ℕ) (patch : Patch) (v w : View) → DeviceFrame (below end patch) v w
    → DeviceFrame patch v w
goes_cut end patch v w = goes_part (below end patch) patch v w (below-part end patch)

-- The frame for the values below `from`, and then the frame for those from there to `to`, give the
-- frame for the values below `to`.
pub goes_next : (from to : ℕ) (patch piece : Patch) (u v w : View) → from ≤ to
    → SameValues piece (between from to patch)
    → DeviceFrame (below from patch) u v → DeviceFrame piece v w → DeviceFrame (below to patch) u w
goes_next from to patch piece u v w h same before after =
    goes_joined (below from patch) piece (below to patch) u v w
    (below_more from to patch h) is_piece before after
  where
    is_piece : IsPart piece (below to patch)
    is_piece = λ sector. elim (between-part from to patch sector) [
      | inl none ↦ inl (same sector ∙ none)
      | inr value ↦ inr (same sector ∙ value)
    ]

-- If a call is done (`WriteDone`), each call with the same values is done.
pub lands_same : (patch other : Patch) (fua : Bool) (v w : View) → SameValues patch other
    → WriteDone patch fua v w → WriteDone other fua v w
lands_same patch other fua v w same lands = record {
  content = λ sector. lands.content sector ∙ put-same patch other v.content same sector;
  durable = λ is left may.
      let before = lands.durable is left may in
      (before.0, before.1, λ sector. before.2 sector ∙ put-same patch other before.0 same sector);
}

-- If a call has no values, it is done without a call of the device.
pub lands_none : (patch : Patch) (fua : Bool) (v : View) → ((sector : ℕ) → patch sector ≡ None)
    → WriteDone patch fua v v
lands_none patch fua v none = record {
  content = λ sector. sym (put-none patch v.content sector (none sector));
  durable = λ is left may. (left, may, λ sector. sym (put-none patch left sector (none sector)));
}

-- If two calls that join to a whole are done in turn, the whole call is done.
pub lands_joined : (first second whole : Patch) (fua : Bool) (u v w : View)
    → Joins first second whole
    → WriteDone first fua u v → WriteDone second fua v w → WriteDone whole fua u w
lands_joined first second whole fua u v w joins before after = record {
  content =
      λ sector. after.content sector
      ∙ put-joined first second whole u.content v.content sector joins (before.content sector);
  durable = λ is left may.
      let mid = after.durable is left may in
      let old = before.durable is mid.0 mid.1 in (
        old.0,
        old.1,
        λ sector. mid.2 sector
            ∙ put-joined first second whole old.0 mid.0 sector joins (old.2 sector),
      );
}

-- If a call is done below `from`, and then from `from` to `to`, it is done below `to`.
pub lands_next : (from to : ℕ) (patch piece : Patch) (fua : Bool) (u v w : View) → from ≤ to
    → SameValues piece (between from to patch)
    → WriteDone (below from patch) fua u v → WriteDone piece fua v w
    → WriteDone (below to patch) fua u w
lands_next from to patch piece fua u v w h same before after =
    lands_joined (below from patch) (between from to patch) (below to patch) fua u v w
    (below-joins from to patch h)
    before (lands_same piece (between from to patch) fua v w same after)

-- If a call has no values below `first`, it is done below `first` without a call of the device.
pub lands_first : (first : ℕ) (patch : Patch) (fua : Bool) (v : View) → HasNoneBelow first patch
    → WriteDone (below first patch) fua v v
lands_first first patch fua v none =
    lands_none (below first patch) fua v (below_none first patch none)

-- If a call has no values from `end` on, and is done below `end`, it is done.
pub lands_all : (end : ℕ) (patch : Patch) (fua : Bool) (v w : View) → HasNoneFrom end patch
    → WriteDone (below end patch) fua v w → WriteDone patch fua v w
lands_all end patch fua v w none =
    lands_same (below end patch) patch fua v w (below_all end patch none)

-- If two calls in turn together didn't lie, neither of them lied.
pub no_lie_parts : (first second : Patch) (u v w : View) → DeviceFrame first u v
    → DeviceFrame second v w → NoLie u w → NoLie u v × NoLie v w
no_lie_parts first second u v w before after told =
    let a = before.lies in
    let b = after.lies in
    let same = told.same in
    let counted = told.counted in
    let mid : v.lies ≡ u.lies = omega arith in
    (record { same = mid; counted = omega arith }, record { same = omega arith; counted = counted })

-- If each of two calls keeps the contents that a crash may leave, both together keep them.
pub stays_both : (u v w : View) → CrashSetKept u v → CrashSetKept v w → CrashSetKept u w
stays_both u v w first second =
    record { crash = λ left may. second.crash left (first.crash left may) }

-- If a device isn't called, it keeps the contents that a crash may leave.
pub stays_none : (v : View) → CrashSetKept v v
stays_none v = record { crash = λ left may. may }

-- Each content that a crash may leave has whole sectors.
pub crash-whole : (v : View) (left : Content) → IsLawful v → v.crash left
    → HasWholeSectors v.size left
crash-whole v left lawful may =
    lawful.whole v.clock left (omega arith) (lawful.nested v.clock left (omega arith) may)

-- The content of a device has whole sectors.
pub content-whole : (v : View) → IsLawful v → HasWholeSectors v.size v.content
content-whole v lawful = crash-whole v v.content lawful lawful.current

-- A law of calls in turn: two lists of calls that are done in turn join to one.

-- If all calls of `first` return Ok, and then `second` is done in turn, `first ++ second` is done
-- in turn.
pub in_turn_joined : {D : Type 0} (does : D → Call → ℕ → Result ℕ DevError → D → Type 0) (now : ℕ)
    (first second : List Call) (old mid new : D)
    (result : Result (Unit {0}) DevError) → DoesInTurn does now first old (Ok tt) mid
    → DoesInTurn does now second mid result new
    → DoesInTurn does now (first ++ second) old result new
in_turn_joined {D} does now [] second old mid new result before after =
    subst (λ (device : D). DoesInTurn does now second device result new) before after
in_turn_joined does now (call ∷ calls) second old mid new (Ok done) (next, ends, before) after =
    (next, ends, in_turn_joined does now calls second next mid new (Ok done) before after)
in_turn_joined does now (call ∷ calls) second old mid new (Err error) (next, ends, before) after =
    inr (next, ends, in_turn_joined does now calls second next mid new (Err error) before after)

-- Laws of durable writes and torn calls, which follow from the law of devices.

-- If a content is patched, it is torn (`IsTorn`).
pub after-torn : (patch : Patch) (before : Content → Type 0) (left : Content)
    → AfterPatch patch before left → IsTorn patch before left
after-torn patch before left after = (after.0, after.1, patched_cases patch after.0 left after.2)

-- If a write is done, and then a flush, whatever a crash leaves has the write's bytes.
pub landed-flushed : (u v w : View) (first : ℕ) (bytes : List ℕ) (fua : Bool) (left : Content)
    → WriteDone (writes first bytes) fua u v
    → DeviceFrame nothing v w → FlushDone w → w.crash left → HasBytes left first bytes
landed-flushed u v w first bytes fua left lands goes syncs may = λ sector h.
    syncs.only left may (first + sector)
    ∙ patched-none nothing v.content w.content goes.content (first + sector) refl
    ∙ lands.content (first + sector)
    ∙ HasBytes-put first bytes u.content sector h

-- If a write with FUA is done, whatever a crash leaves has the write's bytes.
pub landed-durable : (v w : View) (first : ℕ) (bytes : List ℕ) (left : Content)
    → WriteDone (writes first bytes) true v w
    → w.crash left → HasBytes left first bytes
landed-durable v w first bytes left lands may = λ sector h.
    let old = lands.durable refl left may in
    old.2 (first + sector) ∙ HasBytes-put first bytes old.0 sector h

-- If a crash since the start of a call may have left a content, the content is torn.
pub gained-torn : (v w : View) (patch : Patch) (left : Content) → IsLawful v → DeviceFrame patch v w
    → w.since v.clock left
    → IsTorn patch v.crash left
gained-torn v w patch left lawful goes may = elim (goes.gains v.clock left (omega arith) may) [
  | inl before ↦ (left, lawful.only_now left before, λ sector. inl refl)
  | inr during ↦ after-torn patch v.crash left during
]
