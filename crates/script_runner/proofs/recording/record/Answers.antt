use Rattle.std.proofs.Common.{◌≡◌, ◌∙◌, ap, subst, sym}
use Rattle.script_runner.specs.CallLaws.{on_error}
use Rattle.script_runner.specs.DiskRun.{DiskRecorder, FailsOnDisks, IsCounted}
use Rattle.log_format.specs.LogOf.{status_of}
use Rattle.log_store.specs.Calls.{store_of}
use Rattle.log_store.specs.Store.{store_entries}
use Rattle.recorder.specs.Growth.{ReplaysToPossible}
use Rattle.recorder.specs.Calls.{core_of, recorder_view}
use Rattle.layer_table.specs.Layers.{stack_shown}
use Rattle.bio.specs.Content.{Content}
use Rattle.script_runner.proofs.DiskRun.{image_agrees, image_long, image_of, is_recorded, same_lies}
use Rattle.script_runner.proofs.LineSteps.{if_failed}
use Rattle.script_runner.proofs.recording.record.Goals as goal

pub returns-in_err-played-clause-recorded : goal.returns-in_err-played-clause-recorded
returns-in_err-played-clause-recorded g c =
    if_failed _ c.from_residual.result c.from_residual.ensures.0

pub returns-in_err-played-clause-faults : goal.returns-in_err-played-clause-faults
returns-in_err-played-clause-faults g c =
    on_error c.from_residual.result c.from_residual.ensures.1
    (λ fault is. subst (FailsOnDisks _ _ _ _) (sym is) c.in_err-played.ensures.faults)

pub returns-clause-recorded : goal.returns-clause-recorded
returns-clause-recorded g c =
    let played = c.in_ok-played.ensures.played in
    let script = c.args.script.now in
    let last = played.last in
    let told : (stack_shown last.recorder.store.device).lies ≡ 0 → c.status-status.result
    ≡ status_of (core_of last.recorder).sector_bytes (store_entries (store_of last.recorder.store))
    last.recorder.end =
    subst (λ (r : DiskRecorder). (stack_shown r.store.device).lies ≡ 0 → c.status-status.result
    ≡ status_of (core_of r).sector_bytes (store_entries (store_of r.store)) r.end) played.left
    c.status-status.ensures.status in
    let says = c.status-status.ensures in
    let counted = subst (λ (r : DiskRecorder). IsCounted c.status-status.result r) played.left
    (record { entries = says.counts; end = says.end; none = says.none; last = says.last }) in
    let replays : (stack_shown last.recorder.store.device).lies ≡ 0 → (left : Content) →
    (stack_shown last.recorder.store.device).crash left →
    ReplaysToPossible (recorder_view last.recorder) (recorder_view last.recorder) left =
    λ honest left may. c.crashed_logs_replay_to_what_could_be.ensures.between last.recorder
    left honest may in
    let sound =
    rw played.left at c.recorders_are_sound.ensures.core in
    let same = c.into_device-log.ensures ∙ ap (λ (r : DiskRecorder). r.store.device) played.left in
    let lied =
    same_lies (record {
      data_disk = c.in_ok-played.played.data_lies;
      log_disk = c.lies.result;
    }) (stack_shown last.disk).lies
    (stack_shown c.into_device-log.result).lies
    played.lied c.lies.ensures in (
      played.text,
      is_recorded script played.text played.start last c.into_device-log.result
          c.status-status.result _
          (image_of c.left_disk-disk.result) _ c.crash.ensures.script.room played.starts played.ran
          (c.lines_go_as_one_call.ensures script.names script.commands played.text played.start last
          played.ran)
          counted told same lied (image_long c.left_disk-disk.result c.left_disk-disk.ensures.size)
          c.crash.ensures.picks
          (image_agrees _ c.left_disk-disk.result c.left_disk-disk.ensures.size
          c.left_disk-disk.ensures.content) replays
          (λ written on closed honest. c.closed_runs_leave_whole_logs.ensures.whole script.names
          script.commands played.text played.start last played.ran written sound on closed
          honest),
      played.printed,
    )
