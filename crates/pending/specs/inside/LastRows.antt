-- How one word stores a chain's last row.
use Rattle.std.specs.Prelude.{ℕ, ◌==◌, Option, Some, None, if◌then◌else◌}

-- The row with this number; 2^64 - 1 means that there is none.
abbrev pub row_in : ℕ → Option ℕ
row_in word = if word == 18446744073709551615 then None else Some word
