use Rattle.bio.specs.Content.{writes}
use Rattle.blockdev.specs.JoinLaws.{goes_none}
use Rattle.sector_disk.specs.DiskView.{shown_of}
use Rattle.sector_disk.proofs.DeviceLaw.{goes_past, goes_unchanged, lands_past, written_past}
use Rattle.sector_disk.proofs.disk.device.SectorDiskBlockDev.write.Goals as goal

pub returns-in_err-from_slice-clause-goes : goal.returns-in_err-from_slice-clause-goes
returns-in_err-from_slice-clause-goes c =
    goes_none (writes c.args.first c.args.bytes.now) (shown_of c.args.self.now)

pub returns-in_err-put-clause-goes : goal.returns-in_err-put-clause-goes
returns-in_err-put-clause-goes c =
    goes_unchanged c.args.self.now c.put.new.self
    (writes c.args.first c.args.bytes.now) c.in_err-put.ensures.err

pub returns-clause-goes : goal.returns-clause-goes
returns-clause-goes c =
    let same = c.in_ok-from_slice.ensures in
    goes_past c.args.self.now c.put.new.self (writes c.args.first c.args.bytes.now) c.args.fua (
    written_past c.args.self.now c.put.new.self c.args.first _ c.args.bytes.now c.args.fua same
    c.in_ok-put.ensures.ok
    )

pub returns-clause-lands : goal.returns-clause-lands
returns-clause-lands c told =
    let same = c.in_ok-from_slice.ensures in
    lands_past c.args.self.now c.put.new.self (writes c.args.first c.args.bytes.now) c.args.fua (
    written_past c.args.self.now c.put.new.self c.args.first _ c.args.bytes.now c.args.fua same
    c.in_ok-put.ensures.ok
    )
