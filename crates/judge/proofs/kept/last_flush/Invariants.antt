use Rattle.std.proofs.Common.{◌≡◌}
use Rattle.judge.specs.Accounts.{last_below}
use Rattle.judge.specs.inside.{is_sure_flush}
use Rattle.judge.proofs.kept.last_flush.Given as goal

abbrev pub invariant-loop-place : goal.invariant-loop-place
invariant-loop-place l = l.last ≡ last_below (is_sure_flush l.events) l.place
