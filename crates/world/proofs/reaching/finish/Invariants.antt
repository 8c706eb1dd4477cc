use Rattle.std.proofs.Common.{◌≡◌, ◌++◌}
use Rattle.bio.specs.Places.{collect}
use Rattle.judge.specs.Accounts.{place_at}
use Rattle.world.specs.inside.{steps_left}
use Rattle.world.proofs.reaching.finish.Given as goal

abbrev pub invariant-loop-id : goal.invariant-loop-id
invariant-loop-id l =
    l.run.items ≡ l.fn.run.items
    ++ collect (steps_left l.events (place_at l.account.held.items)) l.id
