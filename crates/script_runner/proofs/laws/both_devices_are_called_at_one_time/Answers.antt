use Rattle.script_runner.specs.Lines.{answering}
use Rattle.script_runner.proofs.DiskRun.{lines_together, started_together}
use Rattle.script_runner.proofs.laws.both_devices_are_called_at_one_time.Goals as goal

pub returns-clause-start : goal.returns-clause-start
returns-clause-start g c = started_together

pub returns-clause-lines : goal.returns-clause-lines
returns-clause-lines g c = lines_together (answering g.D.Message.answers g.L.Message.answers)
