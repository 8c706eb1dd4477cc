use Rattle.bio.specs.RequestLaws.{lawful_small}
use Rattle.bio.proofs.laws.small_sectors_take_each_request.Goals as goal

pub returns-clause-lawful : goal.returns-clause-lawful
returns-clause-lawful c = lawful_small
