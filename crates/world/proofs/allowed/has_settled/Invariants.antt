use Rattle.std.proofs.Common.{◌≡◌, ◌+◌, true}
use Rattle.std.specs.Prelude.{slice_get}
use Rattle.bio.specs.Places.{all_below}
use Rattle.bio.specs.Requests.{first_sector}
use Rattle.world.specs.Cells.{settled_of}
use Rattle.world.specs.Machine.{is_among}
use Rattle.world.proofs.allowed.has_settled.Given as goal

abbrev pub invariant-loop-place : goal.invariant-loop-place
invariant-loop-place l =
    all_below (λ k. is_among (settled_of (slice_get l.cells (first_sector l.bio + k))) l.id) l.place
    ≡ true
