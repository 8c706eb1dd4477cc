use Rattle.std.proofs.Common.{◌≡◌, take, true}
use Rattle.std.specs.List.{list_all}
use Rattle.world.specs.inside.{end_settled}
use Rattle.world.proofs.allowed.ends_settled.Given as goal

abbrev pub invariant-loop-call : goal.invariant-loop-call
invariant-loop-call l = list_all (end_settled l.events l.cells) (take l.call-index l.calls) ≡ true
