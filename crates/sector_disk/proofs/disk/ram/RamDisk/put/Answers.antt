use Rattle.sector_disk.proofs.RamLaw.{added_goes, added_lands}
use Rattle.sector_disk.proofs.disk.ram.RamDisk.put.Goals as goal

pub returns-clause-goes : goal.returns-clause-goes
returns-clause-goes c =
    added_goes c.args.self.now.calls.items c.add_call.new.calls.items
    c.args.self.now.newest.items c.add_call.new.newest.items _ c.sectors-count.result
    c.args.self.now.sectors c.args.self.now.faults c.add_call.result c.args.self.now.kept.within
    (record {
      counted = c.sectors-count.ensures;
      added = c.add_call.ensures.calls;
      filled_in = c.add_call.ensures.newest;
      kept = c.add_call.ensures.err;
    })

pub returns-clause-lands : goal.returns-clause-lands
returns-clause-lands c =
    added_lands c.args.self.now.calls.items c.add_call.new.calls.items
    c.args.self.now.newest.items c.add_call.new.newest.items _ c.sectors-count.result
    c.args.self.now.sectors c.args.self.now.faults c.add_call.result c.args.self.now.kept.within
    (record {
      counted = c.sectors-count.ensures;
      added = c.add_call.ensures.calls;
      filled_in = c.add_call.ensures.newest;
      kept = c.add_call.ensures.err;
    })
