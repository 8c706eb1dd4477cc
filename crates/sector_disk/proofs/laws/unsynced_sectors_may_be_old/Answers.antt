use Rattle.bio.specs.Content.{discards, writes}
use Rattle.sector_disk.proofs.DeviceLaw.{old-left}
use Rattle.sector_disk.proofs.laws.unsynced_sectors_may_be_old.Goals as goal

pub returns-clause-write : goal.returns-clause-write
returns-clause-write c old new first bytes now end left done =
    old-left old new (writes first bytes) left done.1

pub returns-clause-discard : goal.returns-clause-discard
returns-clause-discard c old new first count now end left done =
    old-left old new (discards first count) left done.1
