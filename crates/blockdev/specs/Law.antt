-- The law of a device, as records of its view before a call (v) and after it (w).
use Rattle.std.specs.Prelude.{◌≡◌, ◌⊎◌, ℕ, ◌<◌, ◌≤◌, Bool, false, IsTrue, Result, Ok, Err, Some}
use Rattle.bio.specs.declared.outcome.DevError.{DevError}
use Rattle.bio.specs.declared.outcome.DevError.TheVariants.{Io}
use Rattle.bio.specs.Content.{Content, Patch, Patched, put}
use Rattle.blockdev.specs.View.{View, last_count}

-- `left` is one of the contents `before`, with the patch's values in some of their sectors, in none
-- or in all
abbrev pub AfterPatch : Patch → (Content → Type 0) → Content → Type 0
AfterPatch patch before left = (old : Content) × before old × Patched patch old left

-- `left` is one of the contents `before`, with all of the patch's values
abbrev pub AfterWhole : Patch → (Content → Type 0) → Content → Type 0
AfterWhole patch before left =
    (old : Content) × before old × ((sector : ℕ) → left sector ≡ put patch old sector)

-- `left` is one of the contents `before`, except that some sectors have the patch's value instead
abbrev pub IsTorn : Patch → (Content → Type 0) → Content → Type 0
IsTorn patch before left = (old : Content) × before old
    × ((sector : ℕ) → (left sector ≡ old sector) ⊎ (patch sector ≡ Some (left sector)))

-- The frame of a call, whatever its result: at most, the call puts its values in some of their
-- sectors.
pub record DeviceFrame (patch : Patch) (v w : View) : Type 0 where
  -- the device keeps its size and its position on the disk
  pub size : w.size ≡ v.size
  pub origin : w.origin ≡ v.origin
  -- the content is the old one, patched
  pub content : Patched patch v.content w.content
  -- a content that a crash may leave after the call is one that a crash could leave before, patched
  pub crash : (left : Content) → w.crash left → AfterPatch patch v.crash left
  -- the clock doesn't go back
  pub clock : v.clock ≤ w.clock
  -- if a crash since an earlier reading may have left a content, there are two cases. Either a
  -- crash may have left it before the call, or it is one that a crash could leave then, patched.
  pub gains : (reading : ℕ) (left : Content) → reading ≤ v.clock → w.since reading left →
      v.since reading left ⊎ AfterPatch patch v.crash left
  -- each content that a crash may have left before the call is still one that a crash may have left
  pub keeps : (reading : ℕ) (left : Content) → reading ≤ v.clock → v.since reading left
      → w.since reading left
  -- the counts don't decrease
  pub faults : v.faults ≤ w.faults
  pub lies : v.lies ≤ w.lies
  -- `can_lie` stays; if it is false, the call adds no lie
  pub can_lie : w.can_lie ≡ v.can_lie
  pub honest : v.can_lie ≡ false → w.lies ≡ v.lies

-- The effect of a write or a discard that ends well, without a new lie: it puts all of its values.
pub record WriteDone (patch : Patch) (fua : Bool) (v w : View) : Type 0 where
  pub content : (sector : ℕ) → w.content sector ≡ put patch v.content sector
  -- with FUA, whatever a crash may leave has all these values too
  pub durable : IsTrue fua → (left : Content) → w.crash left → AfterWhole patch v.crash left

-- The effect of a flush that ends well, without a new lie: a crash then leaves the content.
pub record FlushDone (w : View) : Type 0 where
  pub only : (left : Content) → w.crash left → (sector : ℕ) → left sector ≡ w.content sector

-- A crash may still leave each content that it could leave before; a read ensures this.
pub record CrashSetKept (v w : View) : Type 0 where
  pub crash : (left : Content) → v.crash left → w.crash left

-- The call didn't lie: the count of lies is unchanged, and isn't at its maximum.
pub record NoLie (v w : View) : Type 0 where
  pub same : w.lies ≡ v.lies
  pub counted : w.lies < last_count

-- A result has its cause: an `Io` only if the count of faults grew or is at its maximum. An Ok
-- returns no time before `now`.
pub record HasCause (now : ℕ) (v w : View) (result : Result ℕ DevError) : Type 0 where
  pub failed : result ≡ Err Io → (v.faults < w.faults) ⊎ (w.faults ≡ last_count)
  pub ends : (end : ℕ) → result ≡ Ok end → now ≤ end
