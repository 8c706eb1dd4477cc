use Rattle.std.proofs.Common.{◌≡◌, ℕ, Some, length, subst, arith}
use Rattle.bio.specs.Content.{sector_of}
use Rattle.judge.specs.inside.{AreCovered}
use Rattle.judge.proofs.HeldValues.{fit_all}
use Rattle.judge.proofs.held.hold_values.Goals as goal

pub returns-clause-held : goal.returns-clause-held
returns-clause-held c =
    let range = c.covered-range.result in
    let size = c.len.ensures in
    let ok = c.args.held.now.ok in
    let long : c.len.result ≡ length c.args.held.now.items = omega arith in
    let Until = λ (n : ℕ). AreCovered (Some c.args.event.now) n range.0 range.1 in
    fit_all (Some c.args.event.now) c.args.end c.args.last.now
    (sector_of c.args.image.now) c.args.place range.0 range.1 c.args.held.now.items
    c.hold_range.new.held.items (subst Until long c.covered-range.ensures) c.hold_range.ensures
