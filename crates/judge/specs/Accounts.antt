-- An `Account` of a list of events and an image, from which the verdict follows.
use Rattle.std.specs.Prelude.{zero, suc, ◌<◌, Bool, false, not, ◌&&◌, Option, Some, None, List}
use Rattle.std.specs.Prelude.{length, replicate, get_or, slice_get, if◌then◌else◌, ◌≡◌, ℕ, ◌≤◌}
use Rattle.std.specs.Prelude.{true}
use Rattle.std.specs.Str.{bytes_eq}
use Rattle.bio.specs.Content.{Content, sector_of}
use Rattle.bio.specs.declared.event.CoreEvent.{CoreEvent}
use Rattle.bio.specs.Events.{end_of, is_flush_submit}
use Rattle.bio.specs.Possible.{ended_ok, is_kept, is_replaced, values_at}
use Rattle.judge.specs.declared.accounts.Account.{Account}
use Rattle.judge.specs.declared.accounts.First.{First}
use Rattle.judge.specs.declared.accounts.First.TheVariants.{Zeroes, Image}

-- the last index below `n` that passes `test`
abbrev pub last_below : (ℕ → Bool) → ℕ → Option ℕ
last_below test zero = None
last_below test (suc n) = if test n then Some n else last_below test n

-- the entry of `places` at `index`; none past the list's end
abbrev pub place_at : List (Option ℕ) → ℕ → Option ℕ
place_at places index = get_or places index None

-- there is a value, and the value is `bytes`
abbrev pub is_value : Option (List ℕ) → List ℕ → Bool
is_value None bytes = false
is_value (Some value) bytes = bytes_eq value bytes

-- `now` has the value of the request `id` in the sector, and the request isn't replaced there
-- (`is_replaced`)
abbrev pub is_held_from : List CoreEvent → Content → ℕ → ℕ → Bool
is_held_from events now sector id =
    not (is_replaced events sector id)
    && is_value (values_at (slice_get events id) sector) (now sector)

-- The account of a content `now` of `sectors` sectors after the events. `ends` has the index of
-- each request's end. `last` has, for each sector, the durable request over it that was submitted
-- last. `held` has, for each sector, the last submitted request that passes `is_held_from`.
pub record IsAccount (events : List CoreEvent) (now : Content) (sectors : ℕ)
    (account : Account) : Type 0 where
  pub last_size : length account.last.items ≡ sectors
  pub held_size : length account.held.items ≡ sectors
  pub ends : (id : ℕ) → place_at account.ends.items id ≡ end_of events id
  pub last : (sector : ℕ) → sector < sectors → place_at account.last.items sector
      ≡ last_below (is_kept events sector) (length events)
  pub held : (sector : ℕ) → sector < sectors → place_at account.held.items sector
      ≡ last_below (is_held_from events now sector) (length events)

-- The flush that decides which requests are durable.

-- `id` is the last submitted flush that ended with success
pub record IsLastFlush (events : List CoreEvent) (id : ℕ) : Type 0 where
  pub flush : is_flush_submit (slice_get events id) ≡ true
  pub ended : ended_ok events id ≡ true
  pub last : (later : ℕ) → is_flush_submit (slice_get events later) ≡ true → ended_ok events later
      ≡ true → later ≤ id

-- The content of a device before the first event.

-- the bytes of `first`: of the image, or `count` zeroes
abbrev pub first_bytes : First → ℕ → List ℕ
first_bytes Zeroes count = replicate count 0
first_bytes (Image bytes) count = bytes.now

-- the content with the bytes of `first`
abbrev pub first_on : First → ℕ → Content
first_on first count = sector_of (first_bytes first count)

-- `first` has `count` bytes, the size of the device
abbrev pub IsFirstOf : ℕ → First → Type 0
IsFirstOf count first = length (first_bytes first count) ≡ count
