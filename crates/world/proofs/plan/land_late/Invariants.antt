use Rattle.std.proofs.Common.{◌≡◌, ◌++◌, ◌+◌}
use Rattle.bio.specs.Places.{collect}
use Rattle.bio.specs.Requests.{first_sector}
use Rattle.judge.specs.Accounts.{place_at}
use Rattle.world.specs.inside.{lands_late}
use Rattle.world.proofs.plan.land_late.Given as goal

abbrev pub invariant-loop-place : goal.invariant-loop-place
invariant-loop-place l =
    l.run.items ≡ l.fn.run.items
    ++ collect (λ k. lands_late (place_at l.account.held.items) l.id
    (first_sector l.bio + k)) l.place
