use Rattle.std.proofs.Common.{take}
use Rattle.bio.specs.PlaceLaws.{well_formed-take}
use Rattle.world.proofs.PossibleChoice.{possible_reachable}
use Rattle.world.proofs.RunIsPossible.{reachable_possible}
use Rattle.world.proofs.laws.possible_is_exact.Goals as goal

pub returns-clause-reachable : goal.returns-clause-reachable
returns-clause-reachable c events moment first now well_formed =
    possible_reachable (take moment events) first now (well_formed-take events moment well_formed)

pub returns-clause-possible : goal.returns-clause-possible
returns-clause-possible c events moment first now =
    reachable_possible (take moment events) first now
