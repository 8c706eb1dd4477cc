use Rattle.fault_layers.specs.WindowLaws.{goes_window_writes}
use Rattle.fault_layers.proofs.linear.LinearBlockDev.write.Goals as goal

pub returns-clause-goes : goal.returns-clause-goes
returns-clause-goes g c =
    goes_window_writes c.args.self.now.offset c.args.self.now.length c.args.first c.args.bytes.now
    (g.D.BlockDev.shown c.args.self.now.lower)
    (g.D.BlockDev.shown c.write.new.self) c.write.ensures.goes
