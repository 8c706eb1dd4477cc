use Rattle.std.proofs.Common.{◌≡◌, ◌++◌, ◌+◌}
use Rattle.bio.specs.Places.{collect}
use Rattle.bio.specs.Requests.{first_sector}
use Rattle.judge.specs.Accounts.{place_at}
use Rattle.world.specs.inside.{lands_if, sure_by}
use Rattle.world.proofs.plan.land_early.Given as goal

abbrev pub invariant-loop-place : goal.invariant-loop-place
invariant-loop-place l =
    l.run.items
    ≡ l.fn.run.items
    ++ collect (λ k. lands_if l.has_to (place_at l.account.held.items)
    (sure_by l.account.last.items) l.id (first_sector l.bio + k)) l.place
