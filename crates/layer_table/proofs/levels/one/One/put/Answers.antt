use Rattle.layer_table.proofs.levels.one.One.put.Goals as goal

pub returns-in-Bare-clause-shown : goal.returns-in-Bare-clause-shown
returns-in-Bare-clause-shown c = rw c.in-Bare.is (rw c.in-Bare.is at c.layer.ensures.shown)
