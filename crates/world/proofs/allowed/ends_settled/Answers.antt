use Rattle.std.proofs.Common.{arith}
use Rattle.std.proofs.lemmas.List.{take_all}
use Rattle.bio.specs.PlaceLaws.{slice_get-of_get_or}
use Rattle.world.proofs.Lists.{all_reverse, some_fails}
use Rattle.world.proofs.allowed.ends_settled.Goals as goal

pub returns-then-not-end_settled : goal.returns-then-not-end_settled
returns-then-not-end_settled c = grind (arith, slice_get-of_get_or, all_reverse, some_fails)

pub returns : goal.returns
returns c = grind (arith, take_all, all_reverse)
