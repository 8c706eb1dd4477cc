use Rattle.std.proofs.Common.{◌≡◌, ℕ, suc, ◌+◌, Some, sym, ◌∙◌, subst, arith}
use Rattle.bio.specs.Content.{sector_of}
use Rattle.judge.specs.inside.{AreFit}
use Rattle.judge.proofs.HeldValues.{fit_here, fit_not}
use Rattle.judge.proofs.held.hold_range.Goals as goal
use Rattle.judge.proofs.held.hold_range.Goals.{then-fits, else-fits}

pub loop-sector-preserved : goal.loop-sector-preserved
loop-sector-preserved c =
    let event = Some c.args.event.now in
    let last = c.args.last.now in
    let now = sector_of c.args.image.now in
    let sector = c.loop-sector.sector in
    let held = c.loop-sector.held.items in
    let before = c.loop-sector.invariant in
    let long = before.size in
    let inside = c.loop-sector-test.true in
    let order = c.requires.order in
    let reach = c.requires.within in
    let low = c.loop-sector.auto.sector in
    let next : suc sector ≡ sector + 1 = omega arith in
    let Until =
    λ (n : ℕ). AreFit event c.args.end last now c.args.place c.args.range.0 n
    c.args.held.now.items c.if-fits.held.items in
    subst Until next (elim c.if-fits.branch [
      | then-fits w ↦
          rw w.held-is
          (fit_here event c.args.end last now c.args.place c.args.range.0 sector
          c.args.held.now.items held (omega arith)
          (sym c.fits.ensures ∙ w.if-fits.true) (omega arith) before)
      | else-fits w ↦
          rw w.held-is
          (fit_not event c.args.end last now c.args.place c.args.range.0 sector
          c.args.held.now.items held
          (sym c.fits.ensures ∙ w.if-fits.false) (omega arith) before)
    ])
