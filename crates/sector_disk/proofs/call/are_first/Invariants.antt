use Rattle.std.proofs.Common.{◌≡◌, ◌<◌, ◌+◌, ℕ}
use Rattle.sector_disk.specs.inside.Storage.{place_of}
use Rattle.sector_disk.proofs.call.are_first.Given as goal

abbrev pub invariant-loop-index : goal.invariant-loop-index
invariant-loop-index l = (k : ℕ) → k < l.index → place_of l.places (l.first + k) ≡ 0
