use Rattle.std.proofs.Common.{false}
use Rattle.bio.specs.Content.{discards}
use Rattle.sector_disk.proofs.DeviceLaw.{goes_past, goes_unchanged}
use Rattle.sector_disk.proofs.disk.device.SectorDiskBlockDev.discard.Goals as goal

pub returns-in_err-put-clause-goes : goal.returns-in_err-put-clause-goes
returns-in_err-put-clause-goes c =
    goes_unchanged c.args.self.now c.put.new.self
    (discards c.args.first c.args.count) c.in_err-put.ensures.err

pub returns-clause-goes : goal.returns-clause-goes
returns-clause-goes c =
    goes_past c.args.self.now c.put.new.self
    (discards c.args.first c.args.count) false c.in_ok-put.ensures.ok
