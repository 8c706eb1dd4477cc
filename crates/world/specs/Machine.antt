-- A device with a volatile cache, as a machine that takes steps. A request is submitted, lands in a
-- sector, or ends; a sector is destaged; or power fails. A request's id is the index of the event
-- that submits it.
use Rattle.std.specs.Prelude.{is_some, List, [], ◌∷◌, ◌++◌, length, slice_get, ◌≡◌, if◌then◌else◌}
use Rattle.std.specs.Prelude.{ℕ, zero, suc, ◌+◌, ◌==◌, Bool, true, false, not, ◌&&◌, ◌||◌, Option}
use Rattle.std.specs.Prelude.{Some, None}
use Rattle.std.specs.List.{list_all, list_any}
use Rattle.bio.specs.Content.{Content, Patch, nothing, put}
use Rattle.bio.specs.declared.event.CoreEvent.{CoreEvent}
use Rattle.bio.specs.declared.event.CoreEvent.TheVariants as core_events
use Rattle.bio.specs.Events.{is_flush_submit, is_request, submits}
use Rattle.bio.specs.Places.{all_below}
use Rattle.bio.specs.Possible.{covers_at, values_at}
use Rattle.bio.specs.Requests.{first_sector, has_fua, sector_count}
use Rattle.judge.specs.declared.verdict.Verdict.TheVariants as verdicts
use Rattle.judge.specs.Verdicts.{IsVerdict}
use Rattle.world.specs.declared.reaching.Finding.{Finding}
use Rattle.world.specs.declared.reaching.Finding.TheVariants.{Run, RuledOut}
use Rattle.world.specs.declared.step.Step.{Step}
use Rattle.world.specs.declared.step.Step.TheVariants.{Submit, Land, Destage, End, Power}

-- The state of the machine. For each sector, `landed` lists the requests that landed there, newest
-- first. `settled` lists those that had landed when the sector was last destaged. `calls` lists the
-- submissions and ends so far, newest first. `off` is true if power has failed.
pub record Machine : Type 0 where
  pub landed : ℕ → List ℕ
  pub settled : ℕ → List ℕ
  pub calls : List Step
  pub off : Bool

-- a machine before its first step
abbrev pub start : Machine
start = record { landed = λ sector. []; settled = λ sector. []; calls = []; off = false }

-- `old`, except that `sector` gets the list `ids`
abbrev pub with_sector : ℕ → List ℕ → (ℕ → List ℕ) → ℕ → List ℕ
with_sector sector ids old other = if other == sector then ids else old other

-- the machine `m` after the step
abbrev pub machine_after : Machine → Step → Machine
machine_after m (Submit id) = record m { calls = Submit id ∷ m.calls }
machine_after m (Land id sector) = record m { landed = with_sector sector (id ∷ m.landed sector) m.landed }
machine_after m (Destage sector) = record m { settled = with_sector sector (m.landed sector) m.settled }
machine_after m (End id ok) = record m { calls = End id ok ∷ m.calls }
machine_after m Power = record m { off = true }

-- the step submits the request `id`
abbrev pub is_submit : ℕ → Step → Bool
is_submit id (Submit submitted) = submitted == id
is_submit id _ = false

-- the step ends the request `id`
abbrev pub is_end : ℕ → Step → Bool
is_end id (End ended ok) = ended == id
is_end id _ = false

-- the request `id` was submitted and hasn't ended
abbrev pub is_pending : Machine → ℕ → Bool
is_pending m id = list_any (is_submit id) m.calls && not (list_any (is_end id) m.calls)

-- `id` is one of `ids`
abbrev pub is_among : List ℕ → ℕ → Bool
is_among ids id = list_any (λ other. other == id) ids

-- the newest request of a list that is newest first; none for an empty list
abbrev pub newest : List ℕ → Option ℕ
newest [] = None
newest (id ∷ ids) = Some id

-- each sector of the request that the event submits passes `test`; true for any other event
abbrev pub each_sector : (ℕ → Bool) → Option CoreEvent → Bool
each_sector test (Some (core_events.Submit bio)) =
    all_below (λ place. test (first_sector bio + place)) (sector_count bio)
each_sector test _ = true

-- the request `id` has landed on all its sectors
abbrev pub has_landed : List CoreEvent → Machine → ℕ → Bool
has_landed events m id = each_sector (λ sector. is_among (m.landed sector) id) (slice_get events id)

-- each sector of the request `id` was destaged after the request had landed there
abbrev pub has_settled : List CoreEvent → Machine → ℕ → Bool
has_settled events m id =
    each_sector (λ sector. is_among (m.settled sector) id) (slice_get events id)

-- the calls before the newest submission of `id`, newest first; none if `id` wasn't submitted
abbrev pub before_submit : ℕ → List Step → List Step
before_submit id [] = []
before_submit id (call ∷ calls) = if is_submit id call then calls else before_submit id calls

-- If the step is an end with success, the request that it ends passes `has_settled`.
abbrev pub settled_if_ended : List CoreEvent → Machine → Step → Bool
settled_if_ended events m (End id ok) = not ok || has_settled events m id
settled_if_ended events m _ = true

-- The request `id` may end with success if it has landed on all its sectors. If it has FUA, it must
-- also pass `has_settled`. If it has a flush, each request that ended with success before the
-- submission of `id` must pass `has_settled`.
abbrev pub may_succeed : List CoreEvent → Machine → ℕ → Bool
may_succeed events m id =
    has_landed events m id
    && (not (submits has_fua (slice_get events id)) || has_settled events m id)
    && (not (is_flush_submit (slice_get events id))
    || list_all (settled_if_ended events m) (before_submit id m.calls))

-- The step may be taken, if power hasn't failed. Submit: the request wasn't submitted before. Land:
-- the request is pending, covers the sector, and hasn't landed there yet. Destage: some request
-- landed in the sector. End: the request is pending, and for an end with success `may_succeed`
-- holds. Power: always.
abbrev pub may_take : List CoreEvent → Machine → Step → Bool
may_take events m (Submit id) =
    is_request (slice_get events id) && not (list_any (is_submit id) m.calls)
may_take events m (Land id sector) =
    is_pending m id && covers_at sector (slice_get events id) && not (is_among (m.landed sector) id)
may_take events m (Destage sector) = is_some (newest (m.landed sector))
may_take events m (End id ok) = is_pending m id && (not ok || may_succeed events m id)
may_take events m Power = true

-- the machine can take the step: power hasn't failed, and the step may be taken
abbrev pub has_step : List CoreEvent → Machine → Step → Bool
has_step events m step = not m.off && may_take events m step

-- The runs of the machine, the events that a run fits, and the content that a run leaves.

-- the machine `m` after the steps, one after another
abbrev pub taken : Machine → List Step → Machine
taken m [] = m
taken m (step ∷ steps) = taken (machine_after m step) steps

-- `m` can take the steps, one after another
abbrev pub is_run : List CoreEvent → Machine → List Step → Bool
is_run events m [] = true
is_run events m (step ∷ steps) = has_step events m step && is_run events (machine_after m step) steps

-- the step for the event at index `place`, if it is a submission or an end; no step for other
-- events
abbrev pub event_step : ℕ → Option CoreEvent → List Step
event_step place (Some (core_events.Submit bio)) = Submit place ∷ []
event_step place (Some (core_events.Complete id ok)) = End id ok ∷ []
event_step place _ = []

-- the steps for the submissions and ends among the events before index `place`, newest first
abbrev pub calls_below : List CoreEvent → ℕ → List Step
calls_below events zero = []
calls_below events (suc place) = event_step place (slice_get events place) ++ calls_below events place

-- the values that the request `id` puts in sectors; none without an id
abbrev pub values_of_id : List CoreEvent → Option ℕ → Patch
values_of_id events None = nothing
values_of_id events (Some id) = values_at (slice_get events id)

-- The durable content. Each sector has the value of the newest request that had landed when the
-- sector was last destaged. If no request had landed, the sector has its value in `first`.
abbrev pub durable : List CoreEvent → Content → Machine → Content
durable events first m sector = put (values_of_id events (newest (m.settled sector))) first sector

-- `run` is a run of the machine from its start, and its submissions and ends are exactly those of
-- the events, in order. At its end power has failed, and the durable content is `now`.
pub record Leaves (events : List CoreEvent) (first : Content) (run : List Step)
    (now : Content) : Type 0 where
  pub runs : is_run events start run ≡ true
  pub fits : (taken start run).calls ≡ calls_below events (length events)
  pub off : (taken start run).off ≡ true
  pub left : (sector : ℕ) → durable events first (taken start run) sector ≡ now sector

-- some run of the machine fits the events and leaves the content `now`
abbrev pub IsReachable : List CoreEvent → Content → Content → Type 0
IsReachable events first now = (run : List Step) × Leaves events first run now

-- What a `Finding` about an image means.

-- What a finding means for an image `now` of `sectors` sectors after the events, if `first` was on
-- the device before the events. `Run`: the run fits the events and leaves `now`. `RuledOut`: the
-- verdict on `now` is No with this sector and request.
abbrev pub IsFinding : ℕ → List CoreEvent → Content → Content → Finding → Type 0
IsFinding sectors events first now (Run run) = Leaves events first run.items now
IsFinding sectors events first now (RuledOut sector by) =
    IsVerdict sectors events first now (verdicts.No sector by)
