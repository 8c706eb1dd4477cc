use Rattle.fault_layers.specs.WindowLaws.{goes_window_nothing}
use Rattle.fault_layers.proofs.linear.LinearBlockDev.read.Goals as goal

pub returns-clause-goes : goal.returns-clause-goes
returns-clause-goes g c =
    goes_window_nothing c.args.self.now.offset c.args.self.now.length
    (g.D.BlockDev.shown c.args.self.now.lower)
    (g.D.BlockDev.shown c.read.new.self) c.read.ensures.goes
