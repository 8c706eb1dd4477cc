-- Searches, tests and joins over the indices below a number. `Content` gathers sectors with
-- `collect`. The laws of these definitions are in `PlaceLaws`.
use Rattle.std.specs.Prelude.{ℕ, zero, suc, Bool, true, false, ◌&&◌, ◌||◌, Option, Some, None, List}
use Rattle.std.specs.Prelude.{[], ◌++◌}

-- the lists that `f` gives for the indices below `n`, joined
abbrev pub collect : {A : Type 0} → (ℕ → List A) → ℕ → List A
collect f zero = []
collect f (suc n) = collect f n ++ f n

-- the index that was found, or else `n` if `here` is true
abbrev pub or_here : Option ℕ → Bool → ℕ → Option ℕ
or_here (Some found) here n = Some found
or_here None true n = Some n
or_here None false n = None

-- the first index below `n` that passes `test`
abbrev pub first_below : (ℕ → Bool) → ℕ → Option ℕ
first_below test zero = None
first_below test (suc n) = or_here (first_below test n) (test n) n

-- each index below `n` passes `test`
abbrev pub all_below : (ℕ → Bool) → ℕ → Bool
all_below test zero = true
all_below test (suc n) = all_below test n && test n

-- some index below `n` passes `test`
abbrev pub any_below : (ℕ → Bool) → ℕ → Bool
any_below test zero = false
any_below test (suc n) = any_below test n || test n
