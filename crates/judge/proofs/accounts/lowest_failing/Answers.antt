use Rattle.std.proofs.Common.{length, inl, inr, arith}
use Rattle.bio.specs.PlaceLaws.{last_or_below}
use Rattle.judge.proofs.accounts.lowest_failing.Goals as goal

pub loop-sector-preserved : goal.loop-sector-preserved
loop-sector-preserved c lower h = elim (last_or_below lower c.loop-sector.sector (omega arith)) [
  | inl same ↦
      grind (arith, length)
  | inr below ↦ c.loop-sector.invariant lower below
]
