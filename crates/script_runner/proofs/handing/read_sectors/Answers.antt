use Rattle.std.proofs.Common.{◌≤◌, arith}
use Rattle.std.proofs.Common.{drop, inl, length, refl, take}
use Rattle.script_runner.proofs.LineSteps.{byte_range, filled, range_parts}
use Rattle.script_runner.proofs.handing.read_sectors.Goals as goal

pub returns-in-Ok-clause-reads : goal.returns-in-Ok-clause-reads
returns-in-Ok-clause-reads g c = grind (arith, length, take, drop, filled)

pub overflow_mul-count : goal.overflow_mul-count
overflow_mul-count g c =
    let few : c.args.count ≤ 2048 = (range_parts _ _ _ c.requires).1 in omega arith

pub read-requires : goal.read-requires
read-requires g c = grind (arith, length, byte_range)

pub returns-in_err-buffer-clause-reads : goal.returns-in_err-buffer-clause-reads
returns-in_err-buffer-clause-reads g c =
    rw c.from_residual.ensures (inl refl)

pub returns-in_err-buffer-clause-length : goal.returns-in_err-buffer-clause-length
returns-in_err-buffer-clause-length g c =
    rw c.from_residual.ensures tt

pub returns-in_err-buffer-clause-size : goal.returns-in_err-buffer-clause-size
returns-in_err-buffer-clause-size g c = refl

pub returns-in-Ok-clause-length : goal.returns-in-Ok-clause-length
returns-in-Ok-clause-length g c = grind (arith, length, filled)

pub returns-in-Ok-clause-size : goal.returns-in-Ok-clause-size
returns-in-Ok-clause-size g c = c.read.ensures.goes.size

pub returns-in-Err-clause-reads : goal.returns-in-Err-clause-reads
returns-in-Err-clause-reads g c = grind (arith, length)

pub returns-in-Err-clause-size : goal.returns-in-Err-clause-size
returns-in-Err-clause-size g c = c.read.ensures.goes.size
