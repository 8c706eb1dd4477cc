-- The contents that a device could hold, had power failed after the last of the events.
use Rattle.std.specs.Prelude.{◌≡◌, ◌⊎◌, ℕ, Bool, false, ◌&&◌, ◌||◌, Option, Some, None, List}
use Rattle.std.specs.Prelude.{length, slice_get}
use Rattle.bio.specs.Places.{any_below}
use Rattle.bio.specs.Content.{Content, Patch, discards, nothing, writes}
use Rattle.bio.specs.declared.request.Bio.{Bio}
use Rattle.bio.specs.declared.request.Bio.TheVariants.{Write, Flush, Discard, Read}
use Rattle.bio.specs.declared.event.CoreEvent.{CoreEvent}
use Rattle.bio.specs.declared.event.CoreEvent.TheVariants.{Submit, Complete}
use Rattle.bio.specs.Requests.{covers, has_fua}
use Rattle.bio.specs.Events.{end_of, is_before, is_flush_submit, submits}

-- the event ends a request with success
abbrev pub is_success : Option CoreEvent → Bool
is_success (Some (Complete id ok)) = ok
is_success _ = false

-- an index was found, and the event there is an end with success
abbrev pub is_success_at : List CoreEvent → Option ℕ → Bool
is_success_at events None = false
is_success_at events (Some end) = is_success (slice_get events end)

-- the request `id` ended with success
abbrev pub ended_ok : List CoreEvent → ℕ → Bool
ended_ok events id = is_success_at events (end_of events id)

-- the request `id` ended before the submission of a flush that ended with success
abbrev pub is_flushed : List CoreEvent → ℕ → Bool
is_flushed events id =
    any_below (λ flush. is_flush_submit (slice_get events flush)
    && (ended_ok events flush && is_before events id flush)) (length events)

-- the request `id` is durable: it ended with success, and it has FUA or is flushed
abbrev pub is_durable : List CoreEvent → ℕ → Bool
is_durable events id =
    ended_ok events id && (submits has_fua (slice_get events id) || is_flushed events id)

-- the event submits a request that puts a value in the sector
abbrev pub covers_at : ℕ → Option CoreEvent → Bool
covers_at sector = submits (λ bio. covers bio sector)

-- the request `id` is durable and puts a value in the sector
abbrev pub is_kept : List CoreEvent → ℕ → ℕ → Bool
is_kept events sector id = is_durable events id && covers_at sector (slice_get events id)

-- some durable request puts a value in the sector
abbrev pub has_kept : List CoreEvent → ℕ → Bool
has_kept events sector = any_below (is_kept events sector) (length events)

-- the request `id` ended before a durable request that covers the sector was submitted
abbrev pub is_replaced : List CoreEvent → ℕ → ℕ → Bool
is_replaced events sector id =
    any_below (λ later. is_kept events sector later && is_before events id later) (length events)

-- the values that a request puts in sectors
abbrev pub values_of : Bio → Patch
values_of (Write first bytes flush fua meta) = writes first bytes
values_of Flush = nothing
values_of (Discard first count) = discards first count
values_of (Read first count) = nothing

-- the values that the event's request puts in sectors; none if the event submits no request
abbrev pub values_at : Option CoreEvent → Patch
values_at (Some (Submit bio)) = values_of bio
values_at _ = nothing

-- Could the sector hold its value in `now`, if it had its value in `first` before the first event?
-- Either `now` has the first value, and no durable request covers the sector. Or `now` has the
-- value of a submitted request, and this request didn't end before a durable request over the
-- sector was submitted.
abbrev pub PossibleAt : List CoreEvent → Content → Content → ℕ → Type 0
PossibleAt events first now sector =
    ((now sector ≡ first sector) × (has_kept events sector ≡ false))
    ⊎ ((id : ℕ) × (values_at (slice_get events id) sector ≡ Some (now sector))
    × (is_replaced events sector id ≡ false))

-- the device could hold the content `now`: each sector could hold its value
abbrev pub Possible : List CoreEvent → Content → Content → Type 0
Possible events first now = (sector : ℕ) → PossibleAt events first now sector
