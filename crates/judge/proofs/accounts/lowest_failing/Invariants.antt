use Rattle.std.proofs.Common.{◌≡◌, ℕ, ◌<◌, length, true}
use Rattle.bio.specs.Content.{sector_of}
use Rattle.judge.specs.Accounts.{first_on}
use Rattle.judge.specs.inside.{could_hold_value}
use Rattle.judge.proofs.accounts.lowest_failing.Given as goal

abbrev pub invariant-loop-sector : goal.invariant-loop-sector
invariant-loop-sector l =
    (lower : ℕ) → lower < l.sector
    → could_hold_value l.held l.last (first_on l.first (length l.image)) (sector_of l.image) lower ≡ true
