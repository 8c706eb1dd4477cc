use Rattle.fault_layers.specs.WindowLaws.{goes_window_discards}
use Rattle.fault_layers.proofs.linear.LinearBlockDev.discard.Goals as goal

pub returns-clause-goes : goal.returns-clause-goes
returns-clause-goes g c =
    goes_window_discards c.args.self.now.offset c.args.self.now.length c.args.first c.args.count
    (g.D.BlockDev.shown c.args.self.now.lower)
    (g.D.BlockDev.shown c.discard.new.self) c.discard.ensures.goes
