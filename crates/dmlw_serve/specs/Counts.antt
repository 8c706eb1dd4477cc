-- How a request changes the counts of a client's requests.
use Rattle.std.specs.Prelude.{ℕ, Bool, if◌then◌else◌}
use Rattle.blockdev.specs.OwnCounts.{one_more}
use Rattle.nbd.specs.declared.wire.RequestKind.{RequestKind}
use Rattle.nbd.specs.declared.wire.RequestKind.TheVariants as commands
use Rattle.dmlw_serve.specs.declared.counts.Counts.{Counts}

-- the counts before the first request
abbrev pub none : Counts
none = record { reads = 0; writes = 0; flushes = 0; trims = 0; flagged = 0; split = 0 }

-- the longest write or trim that is recorded as one entry, in bytes: 2,048 sectors
abbrev pub longest : ℕ
longest = 1048576

-- the counts after a write or a trim, apart from the count of its kind
abbrev pub after_change : Bool → Bool → Counts → Counts
after_change fua long counts = record counts {
  flagged = if fua then one_more counts.flagged else counts.flagged;
  split = if long then one_more counts.split else counts.split;
}

-- The counts after a request that asks for this, by whether it has FUA, and whether it is too long
-- for one entry.
abbrev pub counts_after : RequestKind → Bool → Bool → Counts → Counts
counts_after commands.Read fua long counts = record counts { reads = one_more counts.reads }
counts_after commands.Write fua long counts =
    after_change fua long (record counts { writes = one_more counts.writes })
counts_after commands.Flush fua long counts = record counts { flushes = one_more counts.flushes }
counts_after commands.Trim fua long counts =
    after_change fua long (record counts { trims = one_more counts.trims })
counts_after _ fua long counts = counts
