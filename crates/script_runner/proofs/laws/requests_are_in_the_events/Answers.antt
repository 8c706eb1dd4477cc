use Rattle.script_runner.specs.Lines.{answering}
use Rattle.script_runner.proofs.Logs.{lines_ask, lines_followed}
use Rattle.script_runner.proofs.laws.requests_are_in_the_events.Goals as goal

pub returns-clause-asked : goal.returns-clause-asked
returns-clause-asked g c =
    lines_ask {d = g.D.BlockDev} {l = g.L.BlockDev}
    (answering g.D.Message.answers g.L.Message.answers)

pub returns-clause-recorded : goal.returns-clause-recorded
returns-clause-recorded g c =
    lines_followed {d = g.D.BlockDev} {l = g.L.BlockDev}
    (answering g.D.Message.answers g.L.Message.answers)
