use Rattle.std.proofs.Common.{inl, subst, sym}
use Rattle.bio.specs.Requests.{bytes_of}
use Rattle.dmlw_script.specs.Plans.{Disk}
use Rattle.layer_table.specs.StackMessages.{StackAnswers}
use Rattle.script_runner.specs.CallLaws.{on_error}
use Rattle.script_runner.specs.Lines.{answering}
use Rattle.layer_table.specs.Layers.{on_stack}
use Rattle.script_runner.specs.DiskRun.{IsStackOf}
use Rattle.script_runner.specs.inside.{FailsPlaying}
use Rattle.script_runner.proofs.DiskRun.{all_played, fails_at_start, fails_from, on_beside}
use Rattle.script_runner.proofs.DiskRun.{stack_size}
use Rattle.script_runner.proofs.LineSteps.{if_err, if_failed}
use Rattle.script_runner.proofs.playing.play_beside.Goals as goal

pub returns-in_err-data-clause-played : goal.returns-in_err-data-clause-played
returns-in_err-data-clause-played g c = if_failed _ c.from_residual.result c.from_residual.ensures.0

pub returns-in_err-data-clause-faults : goal.returns-in_err-data-clause-faults
returns-in_err-data-clause-faults g c =
    on_error c.from_residual.result c.from_residual.ensures.1
    (λ fault is. subst (FailsPlaying {d = on_stack} {l = g.L.BlockDev} _ _ _ _ _ _ _) (sym is)
    (fails_at_start _ _ _ _ _ _ _ (inl c.in_err-data.ensures.faults)))

pub play-requires-clause-room : goal.play-requires-clause-room
play-requires-clause-room g c = c.requires

pub play-requires-clause-size : goal.play-requires-clause-size
play-requires-clause-size g c =
    stack_size c.args.script.now.data_disk c.in_ok-data.data
    (rw (← c.data.ensures.disk) c.in_ok-data.ensures.stack)

pub returns-clause-played : goal.returns-clause-played
returns-clause-played g c =
    all_played {d = on_stack} {l = g.L.BlockDev}
    (answering StackAnswers g.L.Message.answers) c.args.script.now _ _ _ _ c.play.result
    (on_beside (bytes_of c.args.script.now.log_size) c.args.script.now.data_disk
    c.in_ok-data.data c.args.log
    (subst (λ (disk : Disk). IsStackOf disk c.in_ok-data.data) c.data.ensures.disk
    c.in_ok-data.ensures.stack))
    c.play.ensures.played

pub returns-clause-faults : goal.returns-clause-faults
returns-clause-faults g c = if_err c.play.result c.play.ensures.faults (λ fault fails.
    fails_from {d = on_stack} {l = g.L.BlockDev}
    (answering StackAnswers g.L.Message.answers) c.args.text.now c.args.script.now _ _ _ _ _
    fault
    (on_beside (bytes_of c.args.script.now.log_size) c.args.script.now.data_disk
    c.in_ok-data.data c.args.log
    (subst (λ (disk : Disk). IsStackOf disk c.in_ok-data.data) c.data.ensures.disk
    c.in_ok-data.ensures.stack))
    fails)
