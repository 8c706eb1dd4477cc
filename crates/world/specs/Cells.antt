-- The state of a `World`, the machine that it models, and what a step changes in it.
use Rattle.std.specs.Prelude.{◌≡◌, ℕ, ◌<◌, ◌/◌, ◌==◌, Bool, true, false, Option, Some, None, List}
use Rattle.std.specs.Prelude.{[], ◌∷◌, length, replicate, slice_get, if◌then◌else◌}
use Rattle.bio.specs.Content.{Content, Patch, put, sector_of}
use Rattle.bio.specs.declared.event.CoreEvent.{CoreEvent}
use Rattle.world.specs.declared.step.Step.{Step}
use Rattle.world.specs.declared.step.Step.TheVariants.{Destage}
use Rattle.world.specs.Machine.{Machine, machine_after, durable, has_step, is_run, newest, start, taken}
use Rattle.world.specs.Machine.{values_of_id}

-- The cell of one sector. `landed` lists the requests that landed there, newest first. `settled`
-- lists those that had landed when the sector was last destaged.
pub record CellState : Type 0 where
  pub landed : List ℕ
  pub settled : List ℕ

-- the cell of a sector on which nothing landed
abbrev pub empty_cell : CellState
empty_cell = record { landed = []; settled = [] }

-- the cell after the request `id` landed in its sector
abbrev pub landing : ℕ → CellState → CellState
landing id cell = record cell { landed = id ∷ cell.landed }

-- the cell after its sector was destaged
abbrev pub settling : CellState → CellState
settling cell = record cell { settled = cell.landed }

-- The state of a `World`: a cell for each sector, the calls so far (newest first), whether power
-- has failed, and the durable bytes.
pub record WorldState : Type 0 where
  pub cells : List CellState
  pub calls : List Step
  pub off : Bool
  pub image : List ℕ

-- the requests that landed in the sector; none if the device has no such sector
abbrev pub landed_of : Option CellState → List ℕ
landed_of None = []
landed_of (Some cell) = cell.landed

-- the requests that are settled in the sector; none if the device has no such sector
abbrev pub settled_of : Option CellState → List ℕ
settled_of None = []
settled_of (Some cell) = cell.settled

-- the machine with these cells and calls; power has failed if `off` is true
abbrev pub machine_in : List CellState → List Step → Bool → Machine
machine_in cells calls off = record {
  landed = λ sector. landed_of (slice_get cells sector);
  settled = λ sector. settled_of (slice_get cells sector);
  calls = calls;
  off = off;
}

-- the machine that `world` models
abbrev pub machine_of : WorldState → Machine
machine_of world = machine_in world.cells world.calls world.off

-- `world` has taken no step, and its image is `first`
pub record IsFresh (first : List ℕ) (world : WorldState) : Type 0 where
  pub cells : world.cells ≡ replicate (length first / 512) empty_cell
  pub calls : world.calls ≡ []
  pub off : world.off ≡ false
  pub image : world.image ≡ first

-- `a` and `b` have the same lists for each sector, the same calls, and the same `off`
pub record IsSameMachine (a b : Machine) : Type 0 where
  pub landed : (sector : ℕ) → a.landed sector ≡ b.landed sector
  pub settled : (sector : ℕ) → a.settled sector ≡ b.settled sector
  pub calls : a.calls ≡ b.calls
  pub off : a.off ≡ b.off

-- `old`, except that the sector `at` has the patch's value, if there is one
abbrev pub put_at : Patch → ℕ → Content → Content
put_at patch at old sector = if sector == at then put patch old sector else old sector

-- The value of `sector` in the image after the step. A destage gives its sector the value of the
-- newest request that landed there; no other step changes the image.
abbrev pub left_after : List CoreEvent → Machine → Step → Content → Content
left_after events m (Destage at) old sector =
    put_at (values_of_id events (newest (m.landed at))) at old sector
left_after events m _ old sector = old sector

-- `new` is the image `old` with the patch's value in the sector `at`, and nothing else changed
pub record PutsSector (patch : Patch) (at : ℕ) (old new : List ℕ) : Type 0 where
  pub size : length new ≡ length old
  pub each : (sector : ℕ) → sector < length old / 512
      → sector_of new sector ≡ put_at patch at (sector_of old) sector

-- `new` is `old` after it takes the step. The machine of `old` can take the step, and the machine
-- of `new` is that machine after the step. The image changes as `left_after` says, and keeps its
-- size.
pub record StepsWorld (events : List CoreEvent) (step : Step) (old new : WorldState) : Type 0 where
  pub may : has_step events (machine_of old) step ≡ true
  pub after : IsSameMachine (machine_of new) (machine_after (machine_of old) step)
  pub left : (sector : ℕ) → sector < length old.cells → sector_of new.image sector
      ≡ left_after events (machine_of old) step (sector_of old.image) sector
  pub sectors : length new.cells ≡ length old.cells
  pub size : length new.image ≡ length old.image

-- `new` is `old` after it takes the steps, one after another
abbrev pub AllSteps : List CoreEvent → List Step → WorldState → WorldState → Type 0
AllSteps events [] old new = old ≡ new
AllSteps events (step ∷ steps) old new =
    (mid : WorldState) × StepsWorld events step old mid × AllSteps events steps mid new

-- `steps` is a run of the machine from its start, and `world` models the machine after it. If
-- `first` was on the device before the run, the image of `world` is the durable content after the
-- run.
pub record IsRun (events : List CoreEvent) (first : List ℕ) (steps : List Step)
    (world : WorldState) : Type 0 where
  pub runs : is_run events start steps ≡ true
  pub reached : taken start steps ≡ machine_of world
  pub left : (sector : ℕ) → sector < length first / 512 → sector_of world.image sector
      ≡ durable events (sector_of first) (taken start steps) sector
