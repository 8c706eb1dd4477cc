-- The rule for the passes of a registry and its handles, and how each step changes what a pass
-- knows.
use Rattle.std.specs.Prelude.{◌≡◌, ℕ, List, [], ◌∷◌, ◌++◌, length, Option, Some, None, slice_get}
use Rattle.std.specs.Prelude.{slice_set, true, false}
use mathlib.Core.Option.{some}
use lib.ListN.{get_elem?}
use Rattle.atomic_table.specs.Table.{Step, Me}
use Rattle.atomic_table.specs.Seated.{TableId}
use Rattle.lock_state.specs.declared.handles.rule.HandlePass.{HandlePass}

-- A dummy for the name of a table.
abbrev pub blank_table : TableId
blank_table =
    record {
      words = 0;
      slots = 0;
      views_name = 0;
      atom = 0;
      block = 0;
      offset = 0;
      slot_names = [];
    }

-- What contracts see of a handle: its number, and what it holds.
pub record Grip : Type 0 where
  pub number : ℕ
  pub held : Option ℕ

-- The pass of a registry, which knows what each handle holds.
abbrev pub registry_of : List (Option ℕ) → HandlePass
registry_of all = record { keeps = true; all = all; holds = false; number = 0; held = None }

-- The pass of a handle, which knows its own number and what it holds.
abbrev pub handle_of : ℕ → Option ℕ → HandlePass
handle_of number held =
    record { keeps = false; all = []; holds = true; number = number; held = held }

-- The pass of a registry together with the pass of a handle.
abbrev pub joint_pass : List (Option ℕ) → ℕ → Option ℕ → HandlePass
joint_pass all number held =
    record { keeps = true; all = all; holds = true; number = number; held = held }

-- A pass that knows nothing.
abbrev pub empty_pass : HandlePass
empty_pass = record { keeps = false; all = []; holds = false; number = 0; held = None }

-- A pass without its handle's part.
abbrev pub registry_part : HandlePass → HandlePass
registry_part pass = record { keeps = pass.keeps; all = pass.all; holds = false; number = 0; held = None }

-- The handle's part of a pass, without the registry's part.
abbrev pub handle_part : HandlePass → HandlePass
handle_part pass =
    record { keeps = false; all = []; holds = pass.holds; number = pass.number; held = pass.held }

-- A pass with the handle's part of the pass `part`.
abbrev pub with_handle : HandlePass → HandlePass → HandlePass
with_handle pass part =
    record {
      keeps = pass.keeps;
      all = pass.all;
      holds = part.holds;
      number = part.number;
      held = part.held;
    }

-- What the registry knows of the handle in the same pass is what this handle holds.
abbrev pub Agree : HandlePass → Type 0
Agree pass = slice_get pass.all pass.number ≡ Some pass.held

-- The registry gets one more handle, which holds `held`.
abbrev pub AddsHandle : HandlePass → Option ℕ → Me (Unit {0}) HandlePass → Type 0
AddsHandle pass held after = after ≡ (joint_pass (pass.all ++ held ∷ []) (length pass.all) held, [])

-- The registry gets one more handle, which holds nothing.
abbrev pub Enrols : Step (Unit {0}) → Me (Unit {0}) HandlePass → ℕ → Me (Unit {0}) HandlePass → Type 0
Enrols step before found after = AddsHandle before.0 None after

-- The registry and the handle agree before the step. After it the handle holds `held`, and the
-- registry knows this.
abbrev pub Sets : HandlePass → Option ℕ → Me (Unit {0}) HandlePass → Type 0
Sets pass held after =
    Agree pass × (after ≡ (joint_pass (slice_set pass.all pass.number held) pass.number held, []))

-- After the step the handle holds the number that the step writes.
abbrev pub BeginsToHold : Step (Unit {0}) → Me (Unit {0}) HandlePass → ℕ → Me (Unit {0}) HandlePass → Type 0
BeginsToHold step before found after = Sets before.0 (Some step.first) after

-- After the step the handle holds nothing.
abbrev pub FinishesHolding : Step (Unit {0}) → Me (Unit {0}) HandlePass → ℕ → Me (Unit {0}) HandlePass → Type 0
FinishesHolding step before found after = Sets before.0 None after

-- The registry and the handle agree, and nothing changes.
abbrev pub HandlesAgree : Step (Unit {0}) → Me (Unit {0}) HandlePass → ℕ → Me (Unit {0}) HandlePass → Type 0
HandlesAgree step before found after =
    Agree before.0 × (after ≡ (joint_pass before.0.all before.0.number before.0.held, []))

-- The rule for the pass at index `by`. The registry's pass is at index `place`, and the pass of
-- handle n at index `owner n`. `all` is what each handle holds.
pub record FitsHandles (place : ℕ) (owner : ℕ → ℕ) (all : List (Option ℕ)) (by : ℕ)
    (pass : HandlePass) : Type 0 where
  -- if the pass is a registry's, it is the pass at `place`, and it knows what each handle holds
  pub kept : pass.keeps ≡ true → (by ≡ place) × (pass.all ≡ all)
  -- if the pass is a handle's, no other pass has the same number, and the handle holds what `all`
  -- has at this number
  pub held : pass.holds ≡ true → (owner pass.number ≡ by)
      × (slice_get all pass.number ≡ Some pass.held)

-- The rule that is always kept. There is at most one registry, and at most one handle with each
-- number. The registry knows what each handle holds.
pub record KeepsHandles (passes : List HandlePass) : Type 0 where
  pub place : ℕ
  pub owner : ℕ → ℕ
  pub all : List (Option ℕ)
  pub fits : (by : ℕ) (pass : HandlePass) → get_elem? passes by ≡ some pass
      → FitsHandles place owner all by pass
