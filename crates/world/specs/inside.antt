-- The definitions of `world` that only its proofs use: no other crate cites them.
use Rattle.std.specs.Prelude.{if◌then◌else◌, true, false, not, ◌&&◌, ◌||◌, Option, Some, None}
use Rattle.std.specs.Prelude.{is_some, List, [], ◌∷◌, ◌++◌, length, nat_le, nat_lt, reverse}
use Rattle.std.specs.Prelude.{slice_get, take, ◌≡◌, ℕ, ◌+◌, ◌^◌, ◌==◌, ◌<◌, ◌≤◌, Bool}
use Rattle.std.specs.List.{list_all, list_any}
use Rattle.bio.specs.declared.event.CoreEvent.{CoreEvent}
use Rattle.bio.specs.declared.event.CoreEvent.TheVariants as core_events
use Rattle.bio.specs.declared.request.Bio.{Bio}
use Rattle.bio.specs.Events.{is_flush_submit, is_open_at, is_request, submits}
use Rattle.bio.specs.Places.{collect}
use Rattle.bio.specs.Possible.{covers_at, ended_ok, has_kept, is_kept, is_replaced}
use Rattle.bio.specs.Requests.{first_sector, has_fua, sector_count}
use Rattle.judge.specs.Accounts.{place_at}
use Rattle.world.specs.Cells.{CellState, landed_of, settled_of}
use Rattle.world.specs.declared.step.Step.{Step}
use Rattle.world.specs.declared.step.Step.TheVariants.{Submit, Land, Destage, End, Power}
use Rattle.world.specs.Machine.{before_submit, each_sector, is_among, is_end, is_submit, newest}

-- The machine's tests of a step, on the cells and calls of a `World`. `calls` are newest first,
-- except in `IsBefore`.

-- the request `id`, which the event submits, has landed on all its sectors
abbrev pub is_landed : List CellState → ℕ → Option CoreEvent → Bool
is_landed cells id event =
    each_sector (λ sector. is_among (landed_of (slice_get cells sector)) id) event

-- each sector of the request `id`, which the event submits, was destaged after the request had
-- landed there
abbrev pub is_settled : List CellState → ℕ → Option CoreEvent → Bool
is_settled cells id event =
    each_sector (λ sector. is_among (settled_of (slice_get cells sector)) id) event

-- if the call is an end with success, its request is settled
abbrev pub end_settled : List CoreEvent → List CellState → Step → Bool
end_settled events cells (End id ok) = not ok || is_settled cells id (slice_get events id)
end_settled events cells _ = true

-- `calls` are oldest first. Among the first `place` calls, the first `end` are those before the
-- last submission of `id`.
pub record IsBefore (calls : List Step) (id place end : ℕ) : Type 0 where
  pub within : end ≤ place
  pub same : reverse (take end calls) ≡ before_submit id (reverse (take place calls))

-- the request `id`, which the event submits, may end with success
abbrev pub succeeds : List CoreEvent → List CellState → List Step → ℕ → Option CoreEvent → Bool
succeeds events cells calls id event =
    is_landed cells id event
    && (not (submits has_fua event) || is_settled cells id event)
    && (not (is_flush_submit event) || list_all (end_settled events cells) (before_submit id calls))

-- the request `id` was submitted and hasn't ended
abbrev pub is_pending_in : List Step → ℕ → Bool
is_pending_in calls id = list_any (is_submit id) calls && not (list_any (is_end id) calls)

-- the sector is one of the `count` sectors from `first` on
abbrev pub is_in : ℕ → ℕ → ℕ → Bool
is_in first count sector = nat_le first sector && nat_lt sector (first + count)

-- the step may be taken, if power hasn't failed
abbrev pub is_allowed : List CoreEvent → List CellState → List Step → Step → Bool
is_allowed events cells calls (Submit id) =
    is_request (slice_get events id) && not (list_any (is_submit id) calls)
is_allowed events cells calls (Land id sector) =
    is_pending_in calls id && covers_at sector (slice_get events id)
    && not (is_among (landed_of (slice_get cells sector)) id)
is_allowed events cells calls (Destage sector) =
    is_some (newest (landed_of (slice_get cells sector)))
is_allowed events cells calls (End id ok) =
    is_pending_in calls id && (not ok || succeeds events cells calls id (slice_get events id))
is_allowed events cells calls Power = true

-- The plan: the steps of a run that leaves a given content, if the device could hold that content.
-- `wanted` gives, for a sector, the request whose value the sector is to have. `sure` says whether
-- a request that lands on a sector at its submission is destaged there at once.

-- there is a wanted request, and it is `id`
abbrev pub is_wanted : Option ℕ → ℕ → Bool
is_wanted None id = false
is_wanted (Some wanted) id = wanted == id

-- the steps of the request `id` for `sector`: if `lands`, it lands there; if also `settles`, a
-- destage of the sector follows
abbrev pub touch : Bool → Bool → ℕ → ℕ → List Step
touch lands settles id sector =
    if lands then Land id sector ∷ (if settles then Destage sector ∷ [] else []) else []

-- the steps of the request `id` for `sector` at the request's submission. If `has_to`, it lands
-- there, unless it is the wanted request. After that, the sector is destaged if `sure` holds.
abbrev pub lands_if : Bool → (ℕ → Option ℕ) → (ℕ → ℕ → Bool) → ℕ → ℕ → List Step
lands_if has_to wanted sure id sector =
    touch (not (is_wanted (wanted sector) id) && has_to) (sure id sector) id sector

-- the steps of the request `id` for `sector` at the request's submission; it has to land if it ends
-- with success
abbrev pub lands_early : List CoreEvent → (ℕ → Option ℕ) → (ℕ → ℕ → Bool) → ℕ → ℕ → List Step
lands_early events wanted sure id = lands_if (ended_ok events id) wanted sure id

-- the steps of the request `id` for `sector` at the request's end: the wanted request lands there,
-- and the sector is destaged
abbrev pub lands_late : (ℕ → Option ℕ) → ℕ → ℕ → List Step
lands_late wanted id sector = touch (is_wanted (wanted sector) id) true id sector

-- the steps that `steps` gives for each sector of the event's request, in order; no steps if the
-- event submits no request
abbrev pub by_sector : (ℕ → List Step) → Option CoreEvent → List Step
by_sector steps (Some (core_events.Submit bio)) =
    collect (λ place. steps (first_sector bio + place)) (sector_count bio)
by_sector steps _ = []

-- the plan's steps for the event at index `place`
abbrev pub steps_of : List CoreEvent → (ℕ → Option ℕ) → (ℕ → ℕ → Bool) → ℕ → Option CoreEvent
    → List Step
steps_of events wanted sure place (Some (core_events.Submit bio)) =
    Submit place ∷ by_sector (lands_early events wanted sure place) (Some (core_events.Submit bio))
steps_of events wanted sure place (Some (core_events.Complete id ok)) =
    by_sector (lands_late wanted id) (slice_get events id) ++ End id ok ∷ []
steps_of events wanted sure place _ = []

-- the plan's steps, after all events, for the request `id`: none if it has ended
abbrev pub steps_left : List CoreEvent → (ℕ → Option ℕ) → ℕ → List Step
steps_left events wanted id =
    if is_open_at events id then by_sector (lands_late wanted id) (slice_get events id) else []

-- the whole plan: the steps for each event, then the steps for each open request, and then Power
abbrev pub plan : List CoreEvent → (ℕ → Option ℕ) → (ℕ → ℕ → Bool) → List Step
plan events wanted sure =
    collect (λ place. steps_of events wanted sure place (slice_get events place)) (length events)
    ++ (collect (steps_left events wanted) (length events) ++ Power ∷ [])

-- `id` is at most `last`; false if `last` is none
abbrev pub is_upto : ℕ → Option ℕ → Bool
is_upto id None = false
is_upto id (Some last) = nat_le id last

-- the `sure` of the plan: `id` is at most the last durable request over the sector, which `last`
-- has
abbrev pub sure_by : List (Option ℕ) → ℕ → ℕ → Bool
sure_by last id sector = is_upto id (place_at last sector)

-- for each submitted request, the first sector plus the number of sectors is below 2^64
abbrev pub EndsFit : List CoreEvent → Type 0
EndsFit events =
    (id : ℕ) (bio : Bio) → slice_get events id ≡ Some (core_events.Submit bio)
    → first_sector bio + sector_count bio < 2 ^ 64

-- `wanted` and `sure` are a choice that a run can follow. A wanted request covers its sector and
-- isn't replaced there. If a sector has no wanted request, no durable request covers it. `sure`
-- holds for each durable request over the sector, and for no request past the last of these.
pub record IsChoice (events : List CoreEvent) (wanted : ℕ → Option ℕ)
    (sure : ℕ → ℕ → Bool) : Type 0 where
  pub covers : (sector id : ℕ) → wanted sector ≡ Some id
      → covers_at sector (slice_get events id) ≡ true
  pub stays : (sector id : ℕ) → wanted sector ≡ Some id → is_replaced events sector id ≡ false
  pub bare : (sector : ℕ) → wanted sector ≡ None → has_kept events sector ≡ false
  pub kept : (sector id : ℕ) → is_kept events sector id ≡ true → sure id sector ≡ true
  pub before : (sector id : ℕ) → sure id sector ≡ true
      → (later : ℕ) × (id ≤ later) × (is_kept events sector later ≡ true)
