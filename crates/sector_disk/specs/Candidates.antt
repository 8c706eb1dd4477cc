-- The candidates of each sector of a disk: the values that a crash may leave there, after a call or
-- during one. The picks of `crash` choose among them.
use Rattle.std.specs.Prelude.{ℕ, suc, zero, ◌+◌, ◌%◌, ◌⊎◌, nat_lt, Bool, true, false, Option, None}
use Rattle.std.specs.Prelude.{Some, unwrap_or, List, [], ◌∷◌, ◌++◌, length, slice_get, Contains}
use Rattle.std.specs.Prelude.{MatchBool, if◌then◌else◌}
use Rattle.bio.specs.Content.{Content, Patch, put}
use Rattle.blockdev.specs.Law.{AfterPatch}
use Rattle.blockdev.specs.View.{View}

-- The content of a disk, and what a crash may leave of it.
pub record Cache : Type 0 where
  -- the value of each sector, which a read returns
  pub now : Content
  -- the candidates of each sector, of which a crash may leave any: the durable value first, then
  -- the values written since, in order
  pub may : ℕ → List (List ℕ)

-- A step of a disk's past: a write or a discard puts values, or a flush makes all values durable.
pub data PastStep : Type 0 where
  Puts : (patch : Patch) (fua : Bool) → PastStep
  Flushes : PastStep

-- a disk on which each sector's value is durable
abbrev pub settled : Content → Cache
settled content = record { now = content; may = λ sector. content sector ∷ [] }

-- The candidates of a sector after a call. A value with FUA becomes the only candidate. A value
-- without FUA is added as the last candidate.
abbrev pub candidates_after : Option (List ℕ) → Bool → List (List ℕ) → List (List ℕ)
candidates_after None fua old = old
candidates_after (Some value) true old = value ∷ []
candidates_after (Some value) false old = old ++ value ∷ []

-- the cache after one more step
abbrev pub after_step : PastStep → Cache → Cache
after_step (Puts patch fua) cache =
    record {
      now = put patch cache.now;
      may = λ sector. candidates_after (patch sector) fua (cache.may sector);
    }
after_step Flushes cache = settled cache.now

-- the cache of a disk with the first content `start`, after the steps of its past, newest first
abbrev pub cache_after : Content → List PastStep → Cache
cache_after start [] = settled start
cache_after start (step ∷ past) = after_step step (cache_after start past)

-- A crash may leave the content `left`: each sector has one of its candidates.
abbrev pub MayLeave : Cache → Content → Type 0
MayLeave cache left = (sector : ℕ) → Contains (cache.may sector) (left sector)

-- A crash during the step may leave the content. During a write or discard, this is a content that
-- a crash could leave before, patched. During a flush, it is one that a crash could leave before.
abbrev pub LeftDuring : PastStep → Cache → Content → Type 0
LeftDuring (Puts patch fua) cache = AfterPatch patch (MayLeave cache)
LeftDuring Flushes cache = MayLeave cache

-- A crash may have left the content `left` since the clock had this reading, between two
-- steps or during one. The clock counts the steps.
abbrev pub LeftSince : Content → List PastStep → ℕ → Content → Type 0
LeftSince start [] reading left = MayLeave (settled start) left
LeftSince start (step ∷ past) reading left = MatchBool (nat_lt (length past) reading)
    (MayLeave (cache_after start (step ∷ past)) left)
    (LeftSince start past reading left ⊎ LeftDuring step (cache_after start past) left)

-- the view of a disk with this size, first content and past: it never fails and never lies
abbrev pub view_of : ℕ → Content → List PastStep → View
view_of size start past = record {
  size = size;
  origin = record { sector = 0; disk = size };
  content = (cache_after start past).now;
  crash = MayLeave (cache_after start past);
  clock = length past;
  since = LeftSince start past;
  faults = 0;
  lies = 0;
  can_lie = false;
}

-- 1 if the sector has a candidate other than its durable value, else 0
abbrev pub unsynced_at : Cache → ℕ → ℕ
unsynced_at cache sector = if nat_lt 1 (length (cache.may sector)) then 1 else 0

-- the number of unsynced sectors below the given sector
abbrev pub unsynced_below : Cache → ℕ → ℕ
unsynced_below cache zero = 0
unsynced_below cache (suc sector) = unsynced_below cache sector + unsynced_at cache sector

-- The index of the candidate that a sector takes. The n-th unsynced sector takes the n-th pick
-- modulo the number of its candidates. If there is no n-th pick, it takes 0, the durable value's
-- index. A synced sector has only one candidate.
abbrev pub choice_of : Cache → List ℕ → ℕ → ℕ
choice_of cache picks sector =
    unwrap_or (slice_get picks (unsynced_below cache sector)) 0 % length (cache.may sector)

-- the content that a crash with these picks leaves
abbrev pub left_by : Cache → List ℕ → Content
left_by cache picks sector =
    unwrap_or (slice_get (cache.may sector) (choice_of cache picks sector)) []
