-- The statuses that a writer publishes, a status as a number, and the rule of a board.
use Rattle.std.specs.Prelude.{slice_get, ◌≡◌, ℕ, ◌+◌, ◌*◌, ◌≤◌, List, [], ◌∷◌, ◌++◌, true, false}
use Rattle.std.specs.Prelude.{Option, Some, None}
use Rattle.atomic_table.specs.Seated.{TableId}
use Rattle.atomic_table.specs.Table.{Step, Me}
use lib.ListN.{get_elem?}
use mathlib.Core.Option.{some}
use Rattle.refusals.specs.declared.run_error.End.{End}
use Rattle.refusals.specs.declared.run_error.End.TheVariants as ends
use Rattle.bio.specs.declared.outcome.Status.{Status}
use Rattle.board.specs.declared.rule.BoardPass.{BoardPass}

-- The statuses that a writer publishes one after another, and a status as a number.

-- the status of an empty log, which a new board has
abbrev pub opening : Status
opening = record { entries = 0; sector = 0; end = None }

-- the last of the statuses; `opening` if there are none
abbrev pub last_of : List Status → Status
last_of [] = opening
last_of (status ∷ []) = status
last_of (status ∷ next ∷ statuses) = last_of (next ∷ statuses)

-- The status fits on a board: its count of entries and its sector are at most 1,048,576.
pub record IsFit (status : Status) : Type 0 where
  pub entries : status.entries ≤ 1048576
  pub sector : status.sector ≤ 1048576

-- if `last` has a cause, `end` has the same cause
abbrev pub EndStays : Option End → Option End → Type 0
EndStays last end = (cause : End) → last ≡ Some cause → end ≡ Some cause

-- `next` may follow `status`: `next` has at least as many entries, and the same end if `status` has
-- one.
pub record MayFollow (status next : Status) : Type 0 where
  pub entries : status.entries ≤ next.entries
  pub end : EndStays status.end next.end

-- The status `next` may be published after these statuses.
pub record MayPublish (statuses : List Status) (next : Status) : Type 0 where
  pub fit : IsFit next
  pub follows : MayFollow (last_of statuses) next

-- The statuses fit, and none goes back: each may follow every earlier one.
pub record IsRising (statuses : List Status) : Type 0 where
  pub fit : (k : ℕ) (status : Status) → slice_get statuses k ≡ Some status → IsFit status
  pub rises : (k j : ℕ) (status next : Status) → k ≤ j → slice_get statuses k ≡ Some status
      → slice_get statuses j ≡ Some next → MayFollow status next

-- The list `statuses` begins with the list `start`.
pub record StatusesBegin (start statuses : List Status) : Type 0 where
  pub rest : List Status
  pub is : start ++ rest ≡ statuses

-- the number of an end: the number of its refusal, or 0 for no end
abbrev pub end_number : Option End → ℕ
end_number None = 0
end_number (Some ends.Full) = 18
end_number (Some ends.Device) = 19
end_number (Some ends.Memory) = 20

-- a status as one number
abbrev pub word_of : Status → ℕ
word_of status = status.entries * 67108864 + status.sector * 32 + end_number status.end

-- The rule of a board, and the change of a pass by each step. A pass is what the seat of the writer
-- or of a reader knows.

-- a placeholder: the id of no table
abbrev pub no_table : TableId
no_table =
    record {
      words = 0;
      slots = 0;
      views_name = 0;
      atom = 0;
      block = 0;
      offset = 0;
      slot_names = [];
    }

-- the writer's pass, if `seen` are all statuses that were published
abbrev pub writer_pass : List Status → BoardPass
writer_pass seen = record { writes = true; seen = seen; told = [] }

-- a reader's pass that has seen the statuses `seen`
abbrev pub reader_pass : List Status → BoardPass
reader_pass seen = record { writes = false; seen = seen; told = [] }

-- `pass` after it has learned what `other` has seen
abbrev pub pass_after : BoardPass → BoardPass → BoardPass
pass_after pass other = record { writes = pass.writes; seen = pass.seen; told = other.seen }

-- a reader's pass that has seen as much as `pass`
abbrev pub as_reader : BoardPass → BoardPass
as_reader pass = reader_pass pass.seen

-- The writer publishes: if the step stores the number of a status that fits, this status is added
-- to what the writer's pass has seen.
abbrev pub Publishes : Step (Unit {0}) → Me (Unit {0}) BoardPass → ℕ → Me (Unit {0}) BoardPass → Type 0
Publishes step before found after =
    (status : Status) → IsFit status → step.first ≡ word_of status
    → after ≡ (writer_pass (before.0.seen ++ status ∷ []), [])

-- A reader looks. The statuses that it has seen then begin with those that it had seen before, and
-- none goes back. The step finds the number of the last one.
abbrev pub ReadsBoard : Step (Unit {0}) → Me (Unit {0}) BoardPass → ℕ → Me (Unit {0}) BoardPass → Type 0
ReadsBoard step before found after =
    StatusesBegin before.0.seen after.0.seen × IsRising after.0.seen
    × (after ≡ (reader_pass after.0.seen, [])) × (found ≡ word_of (last_of after.0.seen))

-- The writer compares: the statuses that its pass has learned are a prefix of those that it
-- published. Its pass then forgets the learned ones.
abbrev pub Compares : Step (Unit {0}) → Me (Unit {0}) BoardPass → ℕ → Me (Unit {0}) BoardPass → Type 0
Compares step before found after =
    StatusesBegin before.0.told before.0.seen × (after ≡ (writer_pass before.0.seen, []))

-- The rule for the pass at index `by`; the writer's is at `place`, and `statuses` were published.
pub record FitsBoard (place : ℕ) (statuses : List Status) (by : ℕ) (pass : BoardPass) : Type 0 where
  -- only the pass at `place` can be the writer's; the writer's pass has seen all that was published
  pub writes : pass.writes ≡ true → (by ≡ place) × (pass.seen ≡ statuses)
  -- what the pass has seen, and what it has learned, are prefixes of what was published
  pub seen : StatusesBegin pass.seen statuses
  pub told : StatusesBegin pass.told statuses

-- The rule. The table's one word is the number of the last published status, and no published
-- status goes back. Each pass has seen a prefix of the published statuses.
pub record IsPublished (words : List ℕ) (passes : List BoardPass) : Type 0 where
  pub place : ℕ
  pub statuses : List Status
  pub word : words ≡ word_of (last_of statuses) ∷ []
  pub rising : IsRising statuses
  pub fits : (by : ℕ) (pass : BoardPass) → get_elem? passes by ≡ some pass → FitsBoard place statuses by pass
