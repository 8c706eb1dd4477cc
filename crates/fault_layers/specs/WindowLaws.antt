-- A range of a lawful device is lawful, and the device law holds for the range's calls.
use Rattle.std.proofs.Common.{◌≡◌, ℕ, ◌+◌, Bool, List, length, refl, ap, ◌∙◌, inl, inr, arith}
use Rattle.std.specs.Prelude.{◌/◌, Option, replicate, unwrap_or}
use Rattle.blockdev.specs.View.{IsLawful, IsRange, Origin, View}
use Rattle.blockdev.specs.Law.{AfterPatch, DeviceFrame, WriteDone, NoLie}
use Rattle.blockdev.specs.Messages.{Unchanged}
use Rattle.bio.specs.Content.{Content, Patch, Patched, discards, moved, nothing, put}
use Rattle.bio.specs.Content.{sector_of, writes}
use Rattle.bio.specs.ContentLaws.{over-shift}
use Rattle.fault_layers.specs.Window.{SeenFrom, window}

-- `below` has at sector `offset + sector` what `patch` has at `sector`.
abbrev IsShifted : ℕ → Patch → Patch → Type 0
IsShifted offset below patch = (sector : ℕ) → below (offset + sector) ≡ patch sector

-- The patch of a call shifted by `offset` sectors is the patch of the call, shifted.
writes-shifted : (offset first : ℕ) (bytes : List ℕ)
    → IsShifted offset (writes (offset + first) bytes) (writes first bytes)
writes-shifted offset first bytes = over-shift offset first (length bytes / 512) (sector_of bytes)

discards-shifted : (offset first count : ℕ)
    → IsShifted offset (discards (offset + first) count) (discards first count)
discards-shifted offset first count = over-shift offset first count (λ _. replicate 512 0)

-- If `below` is put into a content, its sectors from `offset` on are as if `patch` were put into
-- them.
put-shifted : (offset : ℕ) (below patch : Patch) (content : Content) → IsShifted offset below patch
    → (sector : ℕ) → put below content (offset + sector) ≡ put patch (moved offset content) sector
put-shifted offset below patch content shifted sector =
    ap (λ (o : Option (List ℕ)). unwrap_or o (content (offset + sector))) (shifted sector)

-- If `new` is `old` patched by `below`, then from `offset` on `new` is `old` patched by `patch`.
patched-shifted : (offset : ℕ) (below patch : Patch) (old new : Content)
    → IsShifted offset below patch → Patched below old new
    → Patched patch (moved offset old) (moved offset new)
patched-shifted offset below patch old new shifted patched =
    λ sector. elim (patched (offset + sector)) [
      | inl same ↦ inl same
      | inr has ↦ inr (has ∙ put-shifted offset below patch old shifted sector)
    ]

-- If a crash may leave `low` after `below`, a crash of the range may leave `left` after `patch`.
-- `left` is `low` from `offset` on.
after-shifted : (offset : ℕ) (below patch : Patch) (set : Content → Type 0) (left low : Content)
    → IsShifted offset below patch
    → ((sector : ℕ) → left sector ≡ moved offset low sector) → AfterPatch below set low
    → AfterPatch patch (SeenFrom offset set) left
after-shifted offset below patch set left low shifted seen after = (
  moved offset after.0,
  (after.0, after.1, λ sector. refl),
  λ sector. elim (patched-shifted offset below patch after.0 low shifted after.2 sector) [
    | inl same ↦ inl (seen sector ∙ same)
    | inr has ↦ inr (seen sector ∙ has)
  ],
)

-- If a device is unchanged, a range of it is unchanged.
pub unchanged_window : (v w : View) (offset length : ℕ) → Unchanged v w
    → Unchanged (window v offset length) (window w offset length)
unchanged_window v w offset length same = record {
  size = refl;
  origin =
      ap (λ (p : Origin). record {
        sector = p.sector + offset;
        disk = p.disk;
      }) same.origin;
  content = ap (λ (content : Content). moved offset content) same.content;
  crash = λ left may. (may.0, same.crash may.0 may.1, may.2);
  crash_before = λ left may. (may.0, same.crash_before may.0 may.1, may.2);
  clock = same.clock;
  since = λ reading left may. (may.0, same.since reading may.0 may.1, may.2);
  since_before = λ reading left may. (may.0, same.since_before reading may.0 may.1, may.2);
  faults = same.faults;
  lies = same.lies;
  can_lie = same.can_lie;
}

-- a range of a lawful device is lawful
pub lawful_window : (v : View) (offset length : ℕ) → IsRange v.size offset length → IsLawful v
    → IsLawful (window v offset length)
lawful_window v offset length fits lawful = record {
  some_sectors = fits.some;
  few_sectors = let a = fits.within in let b = lawful.few_sectors in omega arith;
  current = (v.content, lawful.current, λ sector. refl);
  nested = λ reading left h may. (may.0, lawful.nested reading may.0 h may.1, may.2);
  only_now = λ left may. (may.0, lawful.only_now may.0 may.1, may.2);
  whole = λ reading left h may sector low.
      ap (λ (xs : List ℕ). Rattle.std.specs.Prelude.length xs) (may.2 sector)
      ∙ lawful.whole reading may.0 h may.1 (offset + sector) (let a = fits.within in omega arith);
  faults = lawful.faults;
  lies = lawful.lies;
}

-- If the lower device satisfies the frame of `below`, the range satisfies the frame of `patch`.
goes_window : (offset length : ℕ) (below patch : Patch) (v w : View) → IsShifted offset below patch
    → DeviceFrame below v w
    → DeviceFrame patch (window v offset length) (window w offset length)
goes_window offset length below patch v w shifted goes = record {
  size = refl;
  origin = ap (λ (p : Origin). record { sector = p.sector + offset; disk = p.disk }) goes.origin;
  content = patched-shifted offset below patch v.content w.content shifted goes.content;
  crash =
      λ left may. after-shifted offset below patch v.crash left may.0 shifted may.2
      (goes.crash may.0 may.1);
  clock = goes.clock;
  gains = λ reading left h may. elim (goes.gains reading may.0 h may.1) [
    | inl before ↦ inl (may.0, before, may.2)
    | inr during ↦ inr (after-shifted offset below patch v.crash left may.0 shifted may.2 during)
  ];
  keeps = λ reading left h may. (may.0, goes.keeps reading may.0 h may.1, may.2);
  faults = goes.faults;
  lies = goes.lies;
  can_lie = goes.can_lie;
  honest = goes.honest;
}

-- If the write of `below` is done in the lower device, the write of `patch` is done in the range.
lands_window : (offset length : ℕ) (below patch : Patch) (fua : Bool) (v w : View)
    → IsShifted offset below patch
    → (NoLie v w → WriteDone below fua v w)
    → NoLie (window v offset length) (window w offset length)
    → WriteDone patch fua (window v offset length) (window w offset length)
lands_window offset length below patch fua v w shifted lands told =
    let landed = lands (record { same = told.same; counted = told.counted }) in
    record {
      content =
          λ sector. landed.content (offset + sector)
          ∙ put-shifted offset below patch v.content shifted sector;
      durable = λ is left may.
          let old = landed.durable is may.0 may.1 in (
            moved offset old.0,
            (old.0, old.1, λ sector. refl),
            λ sector. may.2 sector ∙ old.2 (offset + sector)
                ∙ put-shifted offset below patch old.0 shifted sector,
          );
    }

-- `goes_window` and `lands_window` for each kind of call.
pub goes_window_nothing : (offset length : ℕ) (v w : View) → DeviceFrame nothing v w
    → DeviceFrame nothing (window v offset length) (window w offset length)
goes_window_nothing offset length v w =
    goes_window offset length nothing nothing v w (λ sector. refl)

pub goes_window_writes : (offset length first : ℕ) (bytes : List ℕ) (v w : View)
    → DeviceFrame (writes (offset + first) bytes) v w
    → DeviceFrame (writes first bytes) (window v offset length) (window w offset length)
goes_window_writes offset length first bytes v w =
    goes_window offset length (writes (offset + first) bytes) (writes first bytes) v w
    (writes-shifted offset first bytes)

pub goes_window_discards : (offset length first count : ℕ) (v w : View)
    → DeviceFrame (discards (offset + first) count) v w
    → DeviceFrame (discards first count) (window v offset length) (window w offset length)
goes_window_discards offset length first count v w =
    goes_window offset length (discards (offset + first) count) (discards first count) v w
    (discards-shifted offset first count)

pub lands_window_writes : (offset length first : ℕ) (bytes : List ℕ) (fua : Bool) (v w : View)
    → (NoLie v w → WriteDone (writes (offset + first) bytes) fua v w)
    → NoLie (window v offset length) (window w offset length)
    → WriteDone (writes first bytes) fua (window v offset length) (window w offset length)
lands_window_writes offset length first bytes fua v w =
    lands_window offset length (writes (offset + first) bytes) (writes first bytes) fua v w
    (writes-shifted offset first bytes)

pub lands_window_discards : (offset length first count : ℕ) (fua : Bool) (v w : View)
    → (NoLie v w → WriteDone (discards (offset + first) count) fua v w)
    → NoLie (window v offset length) (window w offset length)
    → WriteDone (discards first count) fua (window v offset length) (window w offset length)
lands_window_discards offset length first count fua v w =
    lands_window offset length (discards (offset + first) count) (discards first count) fua v w
    (discards-shifted offset first count)
