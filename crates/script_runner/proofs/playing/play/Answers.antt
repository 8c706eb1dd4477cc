use Rattle.std.proofs.Common.{◌∙◌, ap, subst, sym}
use Rattle.bio.specs.Requests.{bytes_of}
use Rattle.script_runner.specs.CallLaws.{on_error}
use Rattle.script_runner.specs.inside.{FailsPlaying, run}
use Rattle.script_runner.proofs.DiskRun.{fails_at_start, start_bytes, started, unstarted}
use Rattle.script_runner.proofs.LineSteps.{if_failed}
use Rattle.script_runner.proofs.playing.play.Goals as goal

pub start_on-requires : goal.start_on-requires
start_on-requires g c =
    rw c.log_size.ensures.size c.requires.room

pub returns-in_err-running-clause-played : goal.returns-in_err-running-clause-played
returns-in_err-running-clause-played g c =
    if_failed _ c.from_residual.result c.from_residual.ensures.0

pub returns-in_err-running-clause-faults : goal.returns-in_err-running-clause-faults
returns-in_err-running-clause-faults g c =
    on_error c.from_residual.result c.from_residual.ensures.1
    (λ fault is. subst (FailsPlaying {d = g.D.BlockDev} {l = g.L.BlockDev} _ _ _ _ _ _ _) (sym is)
    (fails_at_start _ _ _ _ _ _ _
    (unstarted g.L.BlockDev c.log_size.result c.args.script.now.log_size c.args.log _
    c.log_size.ensures.size c.in_err-running.ensures.faults)))

pub run-requires-clause-size : goal.run-requires-clause-size
run-requires-clause-size g c =
    rw c.in_ok-running.ensures.starts.disk_is c.requires.size

pub run-requires-clause-sectors : goal.run-requires-clause-sectors
run-requires-clause-sectors g c =
    start_bytes {d = g.D.BlockDev}
    {l = g.L.BlockDev} _ c.args.disk c.args.log c.in_ok-running.running
    c.in_ok-running.ensures.starts ∙ ap bytes_of c.log_size.ensures.size

pub run-requires-clause-first : goal.run-requires-clause-first
run-requires-clause-first g c = c.in_ok-running.ensures.starts.none

pub returns-in_err-run-clause-played : goal.returns-in_err-run-clause-played
returns-in_err-run-clause-played g c =
    if_failed _ c.from_residual-in_err-run.result c.from_residual-in_err-run.ensures.0

pub returns-in_err-run-clause-faults : goal.returns-in_err-run-clause-faults
returns-in_err-run-clause-faults g c =
    on_error c.from_residual-in_err-run.result c.from_residual-in_err-run.ensures.1
    (λ fault is. subst (FailsPlaying {d = g.D.BlockDev} {l = g.L.BlockDev} _ _ _ _ _ _ _) (sym is)
    (run c.in_ok-running.running _
    (started {d = g.D.BlockDev}
    {l = g.L.BlockDev} c.log_size.result c.args.script.now.log_size c.args.disk c.args.log
    c.in_ok-running.running c.log_size.ensures.size c.in_ok-running.ensures.starts)
    c.in_err-run.ensures.faults))

pub returns-clause-played : goal.returns-clause-played
returns-clause-played g c =
    let ran = c.in_ok-run.ensures.runs in
    record {
      start = c.in_ok-running.running;
      starts =
          started {d = g.D.BlockDev}
          {l = g.L.BlockDev} c.log_size.result c.args.script.now.log_size c.args.disk c.args.log
          c.in_ok-running.running c.log_size.ensures.size c.in_ok-running.ensures.starts;
      last = c.run.new.running;
      text = ran.0;
      ran = ran.1;
      printed = ran.2;
      left = c.into_parts-recorder.ensures.recorder;
      found = c.had_memory-ample.ensures;
      lied =
          c.lies.ensures ∙ rw c.into_parts-recorder.ensures.device;
    }
