use Rattle.bio.specs.RequestLaws.{overlaps-common}
use Rattle.bio.proofs.laws.overlaps_are_common_sectors.Goals as goal

pub returns : goal.returns
returns c = overlaps-common
