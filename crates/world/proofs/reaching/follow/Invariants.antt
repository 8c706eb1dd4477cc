use Rattle.std.proofs.Common.{◌≡◌, ◌++◌}
use Rattle.std.specs.Prelude.{slice_get}
use Rattle.bio.specs.Places.{collect}
use Rattle.judge.specs.Accounts.{place_at}
use Rattle.world.specs.inside.{steps_of, sure_by}
use Rattle.world.proofs.reaching.follow.Given as goal

abbrev pub invariant-loop-place : goal.invariant-loop-place
invariant-loop-place l =
    l.run.items
    ≡ l.fn.run.items
    ++ collect (λ k. steps_of l.events (place_at l.account.held.items)
    (sure_by l.account.last.items) k (slice_get l.events k)) l.place
