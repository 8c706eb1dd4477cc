use Rattle.std.proofs.Common.{ℕ, ◌+◌, Bool, sym, ◌∙◌, arith}
use Rattle.std.specs.Prelude.{slice_get}
use Rattle.bio.specs.PlaceLaws.{not_all}
use Rattle.bio.specs.Requests.{first_sector, sector_count}
use Rattle.world.specs.Cells.{landed_of}
use Rattle.world.specs.Machine.{is_among}
use Rattle.world.proofs.allowed.has_landed.Goals as goal

pub returns-then-not-has_landed_at : goal.returns-then-not-has_landed_at
returns-then-not-has_landed_at c =
    let test : ℕ → Bool =
    λ sector. is_among (landed_of (slice_get c.args.cells.now sector)) c.args.id in
    let place = c.loop-place.place in
    let count = c.sector_count-place-end.ensures in
    let inside = c.loop-place-test.true in
    not_all (λ k. test (first_sector c.args.bio.now + k)) (sector_count c.args.bio.now) place
    (omega arith)
    (grind (arith, c.first_sector-first.ensures)
    ∙ (sym c.has_landed_at.ensures ∙ c.if-not-has_landed_at.true))
