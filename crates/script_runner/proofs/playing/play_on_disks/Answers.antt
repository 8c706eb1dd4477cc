use Rattle.std.proofs.Common.{arith, subst}
use Rattle.dmlw_script.specs.Plans.{Disk}
use Rattle.script_runner.specs.CallLaws.{on_error}
use Rattle.layer_table.specs.Layers.{on_stack}
use Rattle.script_runner.specs.DiskRun.{stack_answering, IsStackOf, file}
use Rattle.script_runner.proofs.DiskRun.{all_played, beside_starts, fails_on_disks, stack_size}
use Rattle.script_runner.proofs.LineSteps.{if_err, if_failed}
use Rattle.script_runner.proofs.playing.play_on_disks.Goals as goal

pub returns-in_err-log-clause-played : goal.returns-in_err-log-clause-played
returns-in_err-log-clause-played g c = if_failed _ c.from_residual.result c.from_residual.ensures.0

pub returns-in_err-log-clause-faults : goal.returns-in_err-log-clause-faults
returns-in_err-log-clause-faults g c = grind (arith, on_error, file)

pub play_beside-requires : goal.play_beside-requires
play_beside-requires g c = grind (arith, stack_size)

pub returns-clause-played : goal.returns-clause-played
returns-clause-played g c =
    all_played {d = on_stack}
    {l = on_stack} stack_answering c.args.script.now _ _ _ _ c.play_beside.result
    (beside_starts c.args.script.now c.in_ok-log.log
    (subst (λ (disk : Disk). IsStackOf disk c.in_ok-log.log) c.log.ensures.disk
    c.in_ok-log.ensures.stack))
    c.play_beside.ensures.played

pub returns-clause-faults : goal.returns-clause-faults
returns-clause-faults g c = if_err c.play_beside.result c.play_beside.ensures.faults (λ fault fails.
    fails_on_disks c.args.text.now c.args.script.now c.in_ok-log.log _ _ fault
    (rw (← c.log.ensures.disk) c.in_ok-log.ensures.stack) fails)
