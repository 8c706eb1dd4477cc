use Rattle.std.proofs.Common.{false}
use Rattle.bio.specs.Content.{discards, writes}
use Rattle.sector_disk.proofs.DeviceLaw.{torn-left}
use Rattle.sector_disk.proofs.laws.running_calls_tear.Goals as goal

pub returns-clause-write : goal.returns-clause-write
returns-clause-write c old new first bytes fua now end before left done may patched =
    torn-left old new (writes first bytes) fua before left done.1 may patched

pub returns-clause-discard : goal.returns-clause-discard
returns-clause-discard c old new first count now end before left done may patched =
    torn-left old new (discards first count) false before left done.1 may patched
