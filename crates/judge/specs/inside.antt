-- The definitions of `judge` that only its proofs use: no other crate cites them.
use Rattle.std.specs.Prelude.{◌&&◌, ◌||◌, Option, Some, None, List, length, is_none, is_some, true}
use Rattle.std.specs.Prelude.{if◌then◌else◌, slice_get, nat_lt, nat_le, ◌≡◌, ℕ, ◌<◌, ◌≤◌, ◌⊎◌, Bool}
use Rattle.std.specs.Prelude.{false, not}
use Rattle.std.specs.Str.{bytes_eq}
use Rattle.bio.specs.Content.{Content}
use Rattle.bio.specs.declared.event.CoreEvent.{CoreEvent}
use Rattle.bio.specs.Events.{is_below, is_end_of, is_flush_submit}
use Rattle.bio.specs.Places.{first_below}
use Rattle.bio.specs.Possible.{covers_at, ended_ok, is_kept, values_at}
use Rattle.judge.specs.Accounts.{is_held_from, is_value, last_below, place_at}
use Rattle.judge.specs.declared.verdict.Verdict.{Verdict}
use Rattle.judge.specs.declared.verdict.Verdict.TheVariants.{Yes, No}

-- The lists `ends` and `last` after the judge has read the first `below` events.

-- the index of the end of the request `id`, if that index is below `below`
abbrev pub end_below : List CoreEvent → ℕ → ℕ → Option ℕ
end_below events id below =
    first_below (λ later. nat_lt id later && is_end_of id (slice_get events later)) below

-- `ends` has, for each request, the index of the request's end, if that index is below `below`
pub record AreEnds (events : List CoreEvent) (below : ℕ) (ends : List (Option ℕ)) : Type 0 where
  pub size : length ends ≡ length events
  pub each : (id : ℕ) → place_at ends id ≡ end_below events id below

-- `end` is an index below `last`; false if either is none
abbrev pub is_below_last : Option ℕ → Option ℕ → Bool
is_below_last end None = false
is_below_last end (Some last) = is_below end last

-- the event at index `flush` submits a flush that ended with success
abbrev pub is_sure_flush : List CoreEvent → ℕ → Bool
is_sure_flush events flush = is_flush_submit (slice_get events flush) && ended_ok events flush

-- `last` has, for each sector, the last durable request over it with an index below `below`
pub record AreLastKept (events : List CoreEvent) (sectors below : ℕ)
    (last : List (Option ℕ)) : Type 0 where
  pub size : length last ≡ sectors
  pub each : (sector : ℕ) → sector < sectors
      → place_at last sector ≡ last_below (is_kept events sector) below

-- among the first `sectors` sectors, the event puts values exactly in those from `from` to before
-- `to`
pub record AreCovered (event : Option CoreEvent) (sectors from to : ℕ) : Type 0 where
  pub order : from ≤ to
  pub within : to ≤ sectors
  pub each : (sector : ℕ) → sector < sectors
      → covers_at sector event ≡ (nat_le from sector && nat_lt sector to)

-- `new` is `old`, except that each sector from `from` to before `to` has `place`
pub record ArePut (from to place : ℕ) (old new : List (Option ℕ)) : Type 0 where
  pub size : length new ≡ length old
  pub within : (sector : ℕ) → sector < length old → from ≤ sector → sector < to
      → place_at new sector ≡ Some place
  pub outside : (sector : ℕ) → (sector < from) ⊎ (to ≤ sector)
      → place_at new sector ≡ place_at old sector

-- The list `held` while the judge makes it, and the search for the lowest sector that fails.

-- The sector has the value of the event's request, and that request didn't end before the index
-- that `last` has for the sector. `end` is the index of the end.
abbrev pub has_value_of : Option CoreEvent → Option ℕ → List (Option ℕ) → Content → ℕ → Bool
has_value_of event end last now sector =
    not (is_below_last end (place_at last sector)) && is_value (values_at event sector) (now sector)

-- `new` is `old`, but with `place` for the sectors from `from` to before `to` that pass `has_value_of`
pub record AreFit (event : Option CoreEvent) (end : Option ℕ) (last : List (Option ℕ))
    (now : Content) (place from to : ℕ) (old new : List (Option ℕ)) : Type 0 where
  pub size : length new ≡ length old
  pub within : (sector : ℕ) → sector < length old → from ≤ sector → sector < to
      → place_at new sector ≡ (if has_value_of event end last now sector then Some place else place_at old
      sector)
  pub outside : (sector : ℕ) → (sector < from) ⊎ (to ≤ sector)
      → place_at new sector ≡ place_at old sector

-- `held` has, for each sector, the last request before index `below` that passes `is_held_from`
pub record AreHeld (events : List CoreEvent) (now : Content) (sectors below : ℕ)
    (held : List (Option ℕ)) : Type 0 where
  pub size : length held ≡ sectors
  pub each : (sector : ℕ) → sector < sectors
      → place_at held sector ≡ last_below (is_held_from events now sector) below

-- `now` has the value of `first` in the sector, and `last` has no durable request over the sector
abbrev pub is_at_first : List (Option ℕ) → Content → Content → ℕ → Bool
is_at_first last first now sector =
    is_none (place_at last sector) && bytes_eq (now sector) (first sector)

-- `held` has a request for the sector, or the sector passes `is_at_first`
abbrev pub could_hold_value : List (Option ℕ) → List (Option ℕ) → Content → Content → ℕ → Bool
could_hold_value held last first now sector =
    is_some (place_at held sector) || is_at_first last first now sector

-- `sector` is the lowest that isn't fine, and `by` is the request that `last` has for it
pub record IsLowest (held last : List (Option ℕ)) (first now : Content) (sectors sector : ℕ)
    (by : Option ℕ) : Type 0 where
  pub within : sector < sectors
  pub fails : could_hold_value held last first now sector ≡ false
  pub lowest : (lower : ℕ) → lower < sector → could_hold_value held last first now lower ≡ true
  pub ruled_out : by ≡ place_at last sector

-- the verdict that follows from `held` and `last`: yes if each sector is fine, or else no with the
-- lowest sector that isn't
abbrev pub IsVerdictOf : List (Option ℕ) → List (Option ℕ) → Content → Content → ℕ → Verdict → Type 0
IsVerdictOf held last first now sectors Yes =
    (sector : ℕ) → sector < sectors → could_hold_value held last first now sector ≡ true
IsVerdictOf held last first now sectors (No sector by) = IsLowest held last first now sectors sector by
