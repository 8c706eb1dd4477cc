use Rattle.script_runner.specs.Lines.{answering}
use Rattle.script_runner.proofs.Logs.{lines_written}
use Rattle.script_runner.proofs.laws.closed_runs_leave_whole_logs.Goals as goal

pub returns-clause-placed : goal.returns-clause-placed
returns-clause-placed g c =
    lines_written {d = g.D.BlockDev} {l = g.L.BlockDev}
    (answering g.D.Message.answers g.L.Message.answers)

pub returns-clause-whole : goal.returns-clause-whole
returns-clause-whole g c = λ names body text old new ran written sound on closed none.
    c.closed_logs_are_whole.ensures new.recorder sound on closed
    (lines_written {d = g.D.BlockDev} {l = g.L.BlockDev}
    (answering g.D.Message.answers g.L.Message.answers) names body text old new ran written
    closed on) none
