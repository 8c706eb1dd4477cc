use Rattle.std.proofs.Common.{arith, vec_capacity}
use Rattle.pending.proofs.CallLaws.{all-new}
use Rattle.pending.proofs.chains.table.Chains.reserve_row.Goals as goal

pub returns-clause-succeeds : goal.returns-clause-succeeds
returns-clause-succeeds g c = grind (arith, all-new, vec_capacity)

pub returns-clause-full : goal.returns-clause-full
returns-clause-full g c = grind (arith, all-new, vec_capacity)
