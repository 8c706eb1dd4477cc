use Rattle.std.proofs.Common.{◌≡◌, replicate}
use Rattle.world.specs.Cells.{empty_cell}
use Rattle.world.proofs.cache.empty_cells.Given as goal

abbrev pub invariant-loop : goal.invariant-loop
invariant-loop l = l.cells.items ≡ replicate l.counter empty_cell
