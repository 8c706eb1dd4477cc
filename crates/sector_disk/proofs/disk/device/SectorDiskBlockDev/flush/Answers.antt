use Rattle.std.proofs.Common.{refl, ◌∙◌}
use Rattle.sector_disk.specs.CandidateLaws.{syncs_flush}
use Rattle.sector_disk.specs.DiskView.{start_of}
use Rattle.sector_disk.proofs.FieldsKept.{kept_synced}
use Rattle.sector_disk.proofs.DeviceLaw.{goes_flushed, past_flushed}
use Rattle.sector_disk.proofs.disk.device.SectorDiskBlockDev.flush.Goals as goal

pub invariant_of-self : goal.invariant_of-self
invariant_of-self c =
    let old = c.args.self.now in
    record {
      kept =
          kept_synced old.sectors old.calls.items old.newest.items old.base.items old.begun
          old.synced c.len-self.result old.flushed old.kept
          (c.len-self.ensures ∙ old.calls.ok.0);
      room = old.room;
    }

pub returns-clause-goes : goal.returns-clause-goes
returns-clause-goes c =
    let old = c.args.self.now in
    goes_flushed old.sectors old.calls.items old.base.items old.begun old.flushed

pub returns-clause-syncs : goal.returns-clause-syncs
returns-clause-syncs c told = syncs_flush c.args.self.now.sectors (start_of c.args.self.now) _

pub returns-clause-does : goal.returns-clause-does
returns-clause-does c =
    let old = c.args.self.now in (
      refl,
      record {
        sectors = refl;
        start = refl;
        past = past_flushed old.calls.items old.begun old.flushed;
      },
    )
