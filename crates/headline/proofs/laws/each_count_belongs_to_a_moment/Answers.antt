use Rattle.std.proofs.Common.{arith}
use Rattle.headline.proofs.HeadlineHolds.{belongs_by}
use Rattle.headline.proofs.laws.each_count_belongs_to_a_moment.Goals as goal

pub returns : goal.returns
returns c = grind (arith, belongs_by)
