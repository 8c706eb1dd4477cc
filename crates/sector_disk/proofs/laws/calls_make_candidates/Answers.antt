use Rattle.std.proofs.Common.{◌-◌, ◌/◌, false, length, replicate, true}
use Rattle.bio.specs.Content.{discards, sector_of, writes}
use Rattle.sector_disk.proofs.DeviceLaw.{may-flushed, may-put, over-there}
use Rattle.sector_disk.proofs.laws.calls_make_candidates.Goals as goal

pub returns-clause-plain : goal.returns-clause-plain
returns-clause-plain c old new first bytes now end sector done low high =
    may-put old new (writes first bytes) false sector (sector_of bytes (sector - first)) done.1
    (over-there first (length bytes / 512) (sector_of bytes) sector low high)

pub returns-clause-fua : goal.returns-clause-fua
returns-clause-fua c old new first bytes now end sector done low high =
    may-put old new (writes first bytes) true sector (sector_of bytes (sector - first)) done.1
    (over-there first (length bytes / 512) (sector_of bytes) sector low high)

pub returns-clause-discard : goal.returns-clause-discard
returns-clause-discard c old new first count now end sector done low high =
    may-put old new (discards first count) false sector (replicate 512 0) done.1
    (over-there first count (λ _. replicate 512 0) sector low high)

pub returns-clause-flush : goal.returns-clause-flush
returns-clause-flush c old new now end sector done = may-flushed old new sector done.1
