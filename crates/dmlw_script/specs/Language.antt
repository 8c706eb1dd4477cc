-- What both kinds of scripts have in common: which lines are those of a script, and which fault is
-- the first one of lines that aren't.
use Rattle.std.specs.Prelude.{length, ◌≡◌, ℕ, true, ◌+◌, List, [], ◌∷◌, ◌++◌, Option, Some, None}
use Rattle.std.specs.Prelude.{Result, Ok, Err}
use Rattle.std.specs.List.{AllByRecursion, AllZip}
use Rattle.refusals.specs.declared.refusal.Refusal.{Refusal}
use Rattle.refusals.specs.declared.refusal.Refusal.TheVariants.{BadLine, Memory}
use Rattle.refusals.specs.declared.run_error.Fault.{Fault}
use Rattle.dmlw_script.specs.Fields.{Fields, IsLineWith}
use Rattle.dmlw_script.specs.Words.{is_ascii_line, unskipped}

-- A kind of script. `W` is the meaning of a line, and `A` the value of a script.
pub record Language (W A : Type 0) : Type 1 where
  pub fields : W → Fields
  -- the meanings of a script's lines, in their order
  pub lines_of : A → List W
  pub IsScript : A → Type 0

-- In which order lines may come, and why a line is refused. `P` is how much of a script was read,
-- as far as the next line depends on it.
pub record LineOrder (W A P : Type 0) : Type 1 where
  -- nothing was read
  pub start : P
  -- how much was read after one more line
  pub next : P → W → P
  -- the line may follow, as far as its own words decide
  pub MayFollow : P → W → Type 0
  -- the refusal of a line after the lines of a script, if there is one
  pub refusal : A → W → Option Refusal

-- how much was read, starting from `prefix`, after lines with these meanings
abbrev pub after_all : {W P : Type 0} → (P → W → P) → P → List W → P
after_all next prefix [] = prefix
after_all next prefix (w ∷ ws) = after_all next (next prefix w) ws

-- the fault which reports that memory ran out
abbrev pub memory_fault : Fault
memory_fault = record { line = None; refusal = Memory }

-- The result is the script `plan`, or memory ran out.
abbrev pub IsReadAs : {A : Type 0} → A → Result A Fault → Type 0
IsReadAs plan (Ok script) = script ≡ plan
IsReadAs plan (Err fault) = fault ≡ memory_fault

module _ {W A : Type 0} (k : Language W A) where
  -- the line has the words of a line with this meaning
  abbrev pub Means : List ℕ → W → Type 0
  Means line w = IsLineWith line (k.fields w)

  -- `lines` are the lines of the script `plan`. Each line is ASCII without zero bytes. The unskipped
  -- lines have the meanings of the script's lines, in their order.
  pub record AreLines (lines : List (List ℕ)) (plan : A) : Type 0 where
    pub plain : AllByRecursion (λ line. is_ascii_line line ≡ true) lines
    pub says : AllZip Means (unskipped lines) (k.lines_of plan)
    pub script : k.IsScript plan

  -- `lines` are a prefix of the lines of a script
  pub record Begins (lines : List (List ℕ)) : Type 0 where
    pub more : List (List ℕ)
    pub plan : A
    pub spells : AreLines (lines ++ more) plan

  module _ {P : Type 0} (o : LineOrder W A P) where
    -- The line `line` has the meaning `w`, and may follow the lines `before`. Each unskipped line of
    -- `before` has a meaning.
    pub record IsAfter (before : List (List ℕ)) (line : List ℕ) (w : W) : Type 0 where
      pub plain : is_ascii_line line ≡ true
      pub says : Means line w
      pub said : List W
      pub before_says : AllZip Means (unskipped before) said
      pub stands : o.MayFollow (after_all o.next o.start said) w

    -- The refusal of `line` after the lines `before`. Either `line` isn't of the grammar there, and
    -- the refusal is `BadLine`. Or `before` are the lines of a script, after which `line` is refused.
    pub data IsLineFault (before : List (List ℕ)) (line : List ℕ) : Refusal → Type 0 where
      bad_line : ((w : W) → IsAfter before line w → ⊥) → IsLineFault before line BadLine
      refused : (w : W) (plan : A) (refusal : Refusal) → IsAfter before line w
          → AreLines before plan → o.refusal plan w ≡ Some refusal
          → IsLineFault before line refusal

    -- The refusal at the first of the lines after `before`. If there is none, `before` are no script,
    -- and the refusal is `BadLine`. Otherwise `before` with the next line are no prefix of a script,
    -- and `IsLineFault` gives the refusal.
    abbrev pub FaultAfter : List (List ℕ) → List (List ℕ) → Refusal → Type 0
    FaultAfter before [] refusal =
        (refusal ≡ BadLine) × ((plan : A) → AreLines before plan → ⊥)
    FaultAfter before (line ∷ more) refusal =
        (Begins (before ++ line ∷ []) → ⊥) × IsLineFault before line refusal

    -- `line` is the number, from 1, of the first line at fault, and `refusal` is why. The lines
    -- before line `line` are a prefix of a script. If the text ends too early, `line` is one more
    -- than the number of lines.
    pub record IsFirst (lines : List (List ℕ)) (line : ℕ) (refusal : Refusal) : Type 0 where
      pub before : List (List ℕ)
      pub more : List (List ℕ)
      pub split : lines ≡ before ++ more
      pub place : line ≡ length before + 1
      pub begins : Begins before
      pub fault : FaultAfter before more refusal

    -- A fault that names a line names the first line at fault. A fault that names no line reports
    -- that memory ran out.
    abbrev pub IsFault : List (List ℕ) → Fault → Option ℕ → Type 0
    IsFault lines fault (Some line) = IsFirst lines line fault.refusal
    IsFault lines fault None = fault ≡ memory_fault
