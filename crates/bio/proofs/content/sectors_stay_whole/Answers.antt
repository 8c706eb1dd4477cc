use Rattle.bio.specs.ContentLaws.{discards-whole, writes-whole}
use Rattle.bio.proofs.content.sectors_stay_whole.Goals as goal

pub returns-clause-writes : goal.returns-clause-writes
returns-clause-writes c = writes-whole

pub returns-clause-discards : goal.returns-clause-discards
returns-clause-discards c = discards-whole
