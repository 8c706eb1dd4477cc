use Rattle.script_runner.specs.Lines.{answering}
use Rattle.script_runner.proofs.Logs.{lines_go}
use Rattle.script_runner.proofs.laws.lines_go_as_one_call.Goals as goal

pub returns : goal.returns
returns g c =
    lines_go c.several_calls_go_as_one.ensures.none c.several_calls_go_as_one.ensures.two
    (answering g.D.Message.answers g.L.Message.answers)
