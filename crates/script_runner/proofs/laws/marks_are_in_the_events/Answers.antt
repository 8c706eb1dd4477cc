use Rattle.script_runner.proofs.Logs.{queued_stands, stays}
use Rattle.script_runner.proofs.laws.marks_are_in_the_events.Goals as goal
use Rattle.recorder.specs.Calls.{core_of}

pub returns : goal.returns
returns g c = λ names body mark text more id old mid new line queued ran.
    stays (core_of mid.recorder).events (core_of new.recorder).events id _
    (c.lines_go_as_one_call.ensures names body more mid new ran).events
    (queued_stands {l = g.L.BlockDev} mark line.reply id old.recorder mid.recorder line.marks
    queued)
