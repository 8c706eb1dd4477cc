use Rattle.std.proofs.Common.{◌≡◌, length, take}
use Rattle.bio.specs.Requests.{bytes_of}
use Rattle.dmlw_script.specs.Plans.{submissions, top_of}
use Rattle.recorder.specs.Calls.{core_of}
use Rattle.script_runner.specs.Lines.{answering}
use Rattle.script_runner.specs.Runs.{PrintsLines}
use Rattle.script_runner.proofs.run_script.run.Given as goal

abbrev pub invariant-loop-place : goal.invariant-loop-place
invariant-loop-place g l =
    (l.command-items ≡ l.script.commands)
    × PrintsLines (answering g.D.Message.answers g.L.Message.answers) l.script.names
    (take l.place l.script.commands) (g.O.Write.contents l.fn.out)
    (g.O.Write.contents l.out) l.fn.running l.running
    × (length l.running.requests.items ≡ submissions (take l.place l.script.commands))
    × ((g.D.BlockDev.shown l.running.disk).size ≡ top_of l.script.data_disk)
    × ((core_of l.running.recorder).sector_bytes ≡ bytes_of l.script.log_size)
