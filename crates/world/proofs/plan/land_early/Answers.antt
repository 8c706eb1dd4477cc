use Rattle.std.proofs.Common.{ℕ, ◌+◌, ◌++◌, List, ap, ◌∙◌, arith}
use Rattle.bio.specs.Requests.{first_sector}
use Rattle.judge.specs.Accounts.{place_at}
use Rattle.world.specs.declared.step.Step.{Step}
use Rattle.world.specs.inside.{lands_if, sure_by}
use Rattle.world.proofs.Lists.{grown}
use Rattle.world.proofs.plan.land_early.Goals as goal

pub loop-place-preserved : goal.loop-place-preserved
loop-place-preserved c =
    let account = c.args.account.now in
    let place = c.loop-place.place in
    let run = c.loop-place.run.items in
    let steps : ℕ → List Step =
    lands_if c.args.has_to (place_at account.held.items)
    (sure_by account.last.items) c.args.id in
    grown (λ k. steps (first_sector c.args.bio.now + k)) place
    (place + 1) c.args.run.now.items run c.lands_early.new.run.items (omega arith)
    c.loop-place.invariant
    (c.in_ok-lands_early.ensures
    ∙ ap (λ (first : ℕ). run ++ steps (first + place)) c.first_sector-first.ensures)
