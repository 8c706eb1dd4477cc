use Rattle.std.proofs.Common.{◌≡◌, ◌⊎◌, ◌∙◌, ap, subst, sym}
use Rattle.refusals.specs.Errors.{memory_error}
use Rattle.bio.specs.declared.request.SectorSize.{SectorSize}
use Rattle.bio.specs.Requests.{bytes_of}
use Rattle.layer_table.specs.Layers.{on_stack}
use Rattle.pending.specs.CoreState.{CoreState}
use Rattle.dmlw_script.specs.Plans.{Disk}
use Rattle.script_runner.specs.CallLaws.{on_error}
use Rattle.script_runner.specs.DiskRun.{IsNewOn, IsStackOf, IsUnmadeOn}
use Rattle.dmlw_serve.specs.Serves.{FailsStart, IsStackWithImage, short}
use Rattle.dmlw_serve.proofs.Sessions.{begins, if_failed, room_on, unfilled, unmade_at}
use Rattle.dmlw_serve.proofs.session.start.Goals as goal

pub returns-in_err-data-clause-begun : goal.returns-in_err-data-clause-begun
returns-in_err-data-clause-begun c = if_failed _ c.from_residual.result c.from_residual.ensures.0

pub returns-in_err-data-clause-faults : goal.returns-in_err-data-clause-faults
returns-in_err-data-clause-faults c =
    on_error c.from_residual.result c.from_residual.ensures.1
    (λ fault is. unfilled c.args.script.now c.args.first c.data.result.now fault c.in_err-data.field-0.0
    c.data.ensures.disk is c.in_err-data.ensures.faults)

pub returns-in_err-log-clause-begun : goal.returns-in_err-log-clause-begun
returns-in_err-log-clause-begun c =
    if_failed _ c.from_residual-in_err-log.result c.from_residual-in_err-log.ensures.0

pub returns-in_err-log-clause-faults : goal.returns-in_err-log-clause-faults
returns-in_err-log-clause-faults c =
    on_error c.from_residual-in_err-log.result c.from_residual-in_err-log.ensures.1
    (λ fault is. subst (FailsStart c.args.script.now c.args.first)
    (sym (is ∙ c.in_err-log.ensures.faults)) short)

pub returns-in_err-recorder-clause-begun : goal.returns-in_err-recorder-clause-begun
returns-in_err-recorder-clause-begun c =
    if_failed _ c.from_residual-in_err-recorder.result c.from_residual-in_err-recorder.ensures.0

pub returns-in_err-recorder-clause-faults : goal.returns-in_err-recorder-clause-faults
returns-in_err-recorder-clause-faults c =
    let failed = subst
    (λ (size : SectorSize). (c.in_err-recorder.field-0.0 ≡ memory_error)
    ⊎ IsUnmadeOn on_stack (bytes_of size) c.in_ok-log.log c.in_err-recorder.field-0.0)
    c.log_size-size.ensures.size c.in_err-recorder.ensures.faults in
    on_error c.from_residual-in_err-recorder.result c.from_residual-in_err-recorder.ensures.1
    (λ fault is. unmade_at c.args.script.now c.args.first c.in_ok-log.log fault _
    (subst (λ (disk : Disk). IsStackWithImage disk c.args.first c.in_ok-data.data) c.data.ensures.disk
    c.in_ok-data.ensures.filled).size
    (subst (λ (disk : Disk). IsStackOf disk c.in_ok-log.log) c.log.ensures.disk
    c.in_ok-log.ensures.stack) is failed)

pub filled_stack-requires-clause-disk : goal.filled_stack-requires-clause-disk
filled_stack-requires-clause-disk c = rw c.data.ensures.disk c.data.ensures.script.data_disk

pub new_stack-requires : goal.new_stack-requires
new_stack-requires c = rw c.log.ensures.disk c.log.ensures.script.log_disk

pub new_recorder-requires : goal.new_recorder-requires
new_recorder-requires c =
    room_on c.args.script.now.log_disk c.in_ok-log.log
    (subst (λ (disk : Disk). IsStackOf disk c.in_ok-log.log) c.log.ensures.disk
    c.in_ok-log.ensures.stack) _ c.log_size-size.ensures.room

pub new-requires : goal.new-requires
new-requires c =
    sym (ap (λ (core : CoreState). core.sector_bytes) c.in_ok-recorder.ensures.made.core)

pub returns-clause-begun : goal.returns-clause-begun
returns-clause-begun c =
    begins c.args.script.now c.args.first c.new.result c.in_ok-log.log c.in_ok-data.data
    c.in_ok-recorder.recorder c.new.ensures.made.0 c.new.ensures.made.1
    (subst (λ (disk : Disk). IsStackWithImage disk c.args.first c.in_ok-data.data) c.data.ensures.disk
    c.in_ok-data.ensures.filled)
    (subst (λ (disk : Disk). IsStackOf disk c.in_ok-log.log) c.log.ensures.disk
    c.in_ok-log.ensures.stack)
    (subst (λ (size : SectorSize). IsNewOn (bytes_of size) c.in_ok-log.log
    c.in_ok-recorder.recorder) c.log_size-size.ensures.size c.in_ok-recorder.ensures.made)
