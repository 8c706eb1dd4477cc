-- Each call of a disk satisfies the law of devices.
use Rattle.std.proofs.Common.{List, [], ◌∷◌, length, refl, ap, subst, sym, ◌∙◌, arith, ◌≡◌, ℕ, suc}
use Rattle.std.proofs.Common.{zero, ◌+◌, ◌-◌, ◌<◌, ◌*◌, ◌≤◌, Bool, true, false, Some, None}
use Rattle.std.specs.Prelude.{Option, slice_get}
use Rattle.bio.specs.Content.{AgreeBelow, Content, Patch, Patched, gather, nothing, over, sector_of}
use Rattle.bio.specs.Content.{writes}
use Rattle.bio.specs.ContentLaws.{gather-ext, length-gather, over-in, sector_of-gather}
use Rattle.blockdev.specs.JoinLaws.{goes_none}
use Rattle.blockdev.specs.Law.{DeviceFrame, WriteDone}
use Rattle.blockdev.specs.View.{View}
use Rattle.sector_disk.specs.CandidateLaws.{content_whole, goes_flush, goes_puts, is_current}
use Rattle.sector_disk.specs.CandidateLaws.{lands_puts, left-kept, picks_leave_one, since-during}
use Rattle.sector_disk.specs.Candidates.{Cache, Flushes, LeftSince, MayLeave, Puts, PastStep}
use Rattle.sector_disk.specs.Candidates.{cache_after, candidates_after, left_by, view_of}
use Rattle.sector_disk.specs.declared.call.PastCall.{PastCall}
use Rattle.sector_disk.specs.declared.disk.SectorDisk.{SectorDisk}
use Rattle.sector_disk.specs.DiskView.{HasPast, cache_of, flushed_after, shown_of, start_of}
use Rattle.sector_disk.specs.DiskView as shown
use Rattle.sector_disk.specs.inside.Storage.{content_at, past_of, step_after, stored_steps}

moved : (P : View → Type 0) (old new : SectorDisk) (past : List PastStep) → HasPast old new past
    → P (view_of old.sectors (start_of old) past) → P (shown_of new)
moved P old new past has holds = grind arith

pub goes_past : (old new : SectorDisk) (patch : Patch) (fua : Bool)
    → HasPast old new (Puts patch fua ∷ shown.past_steps old)
    → DeviceFrame patch (shown_of old) (shown_of new)
goes_past old new patch fua has =
    moved (λ w. DeviceFrame patch (shown_of old) w) old new
    (Puts patch fua ∷ shown.past_steps old) has
    (goes_puts old.sectors (start_of old) (shown.past_steps old) patch fua)

pub lands_past : (old new : SectorDisk) (patch : Patch) (fua : Bool)
    → HasPast old new (Puts patch fua ∷ shown.past_steps old)
    → WriteDone patch fua (shown_of old) (shown_of new)
lands_past old new patch fua has =
    moved (λ w. WriteDone patch fua (shown_of old) w) old new
    (Puts patch fua ∷ shown.past_steps old) has
    (lands_puts old.sectors (start_of old) (shown.past_steps old) patch fua)

pub goes_unchanged : (old new : SectorDisk) (patch : Patch) → HasPast old new (shown.past_steps old)
    → DeviceFrame patch (shown_of old) (shown_of new)
goes_unchanged old new patch has =
    moved (λ w. DeviceFrame patch (shown_of old) w) old new (shown.past_steps old) has
    (goes_none patch (shown_of old))

pub written_past : (old new : SectorDisk) (first : ℕ) (kept bytes : List ℕ) (fua : Bool)
    → kept ≡ bytes
    → HasPast old new (Puts (writes first kept) fua ∷ shown.past_steps old)
    → HasPast old new (Puts (writes first bytes) fua ∷ shown.past_steps old)
written_past old new first kept bytes fua same has = grind arith

no_flush_last : (calls : List PastCall) (begun n : ℕ)
    → flushed_after (stored_steps calls begun n) ≡ Flushes ∷ stored_steps calls begun n
no_flush_last calls begun zero = refl
no_flush_last calls begun (suc n) = at (slice_get calls (begun + n)) (no_flush_last calls begun n)
  where
    at : (o : Option PastCall) → flushed_after (stored_steps calls begun n)
        ≡ Flushes ∷ stored_steps calls begun n
        → flushed_after (step_after o (stored_steps calls begun n))
        ≡ Flushes ∷ step_after o (stored_steps calls begun n)
    at None earlier = earlier
    at (Some call) earlier = refl

-- if the past already ends with a flush, another flush adds no step
pub past_flushed : (calls : List PastCall) (begun : ℕ) (flushed : Bool)
    → past_of calls begun true ≡ flushed_after (past_of calls begun flushed)
past_flushed calls begun true = refl
past_flushed calls begun false = sym (no_flush_last calls begun (length calls - begun))

pub goes_flushed : (size : ℕ) (calls : List PastCall) (base : List ℕ) (begun : ℕ) (flushed : Bool)
    → DeviceFrame nothing (view_of size (content_at calls base) (past_of calls begun flushed))
    (view_of size (content_at calls base) (past_of calls begun true))
goes_flushed size calls base begun true =
    goes_none nothing (view_of size (content_at calls base) (past_of calls begun true))
goes_flushed size calls base begun false =
    goes_flush size (content_at calls base) (past_of calls begun false)

pub read_of : (disk : SectorDisk) (calls : List PastCall) (newest buffer : List ℕ) (first n : ℕ)
    → calls ≡ disk.calls.items → newest ≡ disk.newest.items
    → first + n ≤ disk.sectors → buffer ≡ gather (content_at calls newest) first n
    → buffer ≡ gather (cache_of disk).now first n
read_of disk calls newest buffer first n same_calls same_newest within is = grind (arith, gather-ext)

-- `image` is the disk's whole content
pub record IsGiven (disk : SectorDisk) (image : List ℕ) : Type 0 where
  pub content : image ≡ gather (shown_of disk).content 0 (shown_of disk).size
  pub sectors : AgreeBelow (shown_of disk).size (shown_of disk).content (sector_of image)
  pub length : length image ≡ 512 * (shown_of disk).size

pub given_of : (disk : SectorDisk) (calls : List PastCall) (newest image : List ℕ) (n : ℕ)
    → calls ≡ disk.calls.items → newest ≡ disk.newest.items
    → n ≡ disk.sectors → image ≡ gather (content_at calls newest) 0 n → IsGiven disk image
given_of disk calls newest image n same_calls same_newest count is =
    let whole = content_whole disk in
    let read =
    read_of disk calls newest image 0 disk.sectors same_calls same_newest (omega arith)
    (is ∙ ap (gather (content_at calls newest) 0) count) in
    record {
      content = read;
      sectors =
          rw read (sector_of-gather disk.sectors (shown_of disk).content whole);
      length =
          ap length read ∙ length-gather disk.sectors (shown_of disk).content 0 disk.sectors whole
          (omega arith);
    }

cache_by : (old new : SectorDisk) (past : List PastStep) → HasPast old new past
    → cache_of new ≡ cache_after (start_of old) past
cache_by old new past has = grind arith

pub picks_leave : (disk : SectorDisk) (picks : List ℕ)
    → MayLeave (cache_of disk) (left_by (cache_of disk) picks)
picks_leave disk picks =
    picks_leave_one (cache_of disk) picks (is_current (start_of disk) (shown.past_steps disk))

pub old-left : (old new : SectorDisk) (patch : Patch) (left : Content)
    → HasPast old new (Puts patch false ∷ shown.past_steps old)
    → MayLeave (cache_of old) left → MayLeave (cache_of new) left
old-left old new patch left has may =
    let May : Cache → Type 0 = λ cache. MayLeave cache left in
    subst May (sym (cache_by old new (Puts patch false ∷ shown.past_steps old) has))
    (left-kept patch (cache_of old) left may)

-- a crash during the call may leave the call's new values in only some of its sectors
pub torn-left : (old new : SectorDisk) (patch : Patch) (fua : Bool) (before left : Content)
    → HasPast old new (Puts patch fua ∷ shown.past_steps old) → MayLeave (cache_of old) before
    → Patched patch before left
    → LeftSince (start_of new) (shown.past_steps new) (length (shown.past_steps old)) left
torn-left old new patch fua before left has may patched =
    let Since : Content → List PastStep → Type 0 =
    λ start past. LeftSince start past (length (shown.past_steps old)) left in
    let during_it =
    since-during (start_of old) (Puts patch fua) (shown.past_steps old) left
    (before, may, patched) in
    subst (λ (past : List PastStep). Since (start_of new) past) (sym has.past)
    (subst (λ (start : Content). Since start (Puts patch fua ∷ shown.past_steps old))
    (sym has.start) during_it)

pub may-put : (old new : SectorDisk) (patch : Patch) (fua : Bool) (sector : ℕ) (value : List ℕ)
    → HasPast old new (Puts patch fua ∷ shown.past_steps old)
    → patch sector ≡ Some value
    → (cache_of new).may sector ≡ candidates_after (Some value) fua ((cache_of old).may sector)
may-put old new patch fua sector value has is = grind (arith, cache_by)

pub may-flushed : (old new : SectorDisk) (sector : ℕ)
    → HasPast old new (flushed_after (shown.past_steps old))
    → (cache_of new).may sector ≡ (cache_of old).now sector ∷ []
may-flushed old new sector has =
    ap (λ (cache : Cache). cache.may sector)
    (cache_by old new (flushed_after (shown.past_steps old)) has) ∙ at (shown.past_steps old)
  where
    at : (past : List PastStep) → (cache_after (start_of old) (flushed_after past)).may sector
        ≡ (cache_after (start_of old) past).now sector ∷ []
    at [] = refl
    at (Flushes ∷ past) = refl
    at (Puts patch fua ∷ past) = refl

pub over-there : (first count : ℕ) (value : ℕ → List ℕ) (sector : ℕ) → first ≤ sector
    → sector < first + count
    → over first count value sector ≡ Some (value (sector - first))
over-there first count value sector low high =
    grind (arith, over-in first count value (sector - first) (omega arith))
