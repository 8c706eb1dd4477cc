-- The result of `Ms::later_by`, which is never past 2^64 - 1. Layers that delay cite it.
use Rattle.std.specs.Prelude.{ℕ, ◌+◌, ◌-◌, ◌^◌, min}

-- the time `now` plus `delay`, but at most 2^64 - 1
abbrev pub later_by : ℕ → ℕ → ℕ
later_by now delay = min (now + delay) (2 ^ 64 - 1)
