use Rattle.std.proofs.Common.{◌≡◌, ◌+◌, List, length, ℕ}
use Rattle.std.specs.Io.KnownBytes.{Consumes}
use Rattle.nbd.proofs.pipes.skip_by.Given as goal

-- What is left and what was skipped are all that is to be skipped.
abbrev pub invariant-loop-left : goal.invariant-loop-left
invariant-loop-left g l =
    (bytes : List ℕ) × (length bytes + l.left ≡ l.count)
    × Consumes (g.I.Read.remaining l.initial.input) (g.I.Read.remaining l.input) bytes

abbrev pub decreases-loop-left : goal.decreases-loop-left
decreases-loop-left g l = l.left
