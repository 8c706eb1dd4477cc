use Rattle.std.proofs.Common.{IfErr, IfOk, Result, inl, refl, subst, ℕ}
use Rattle.headline.specs.declared.reopening.ReopenError.{ReopenError}
use Rattle.headline.specs.ReopenedLog.{IsRefused, IsReplayed as IsReopened}
use Rattle.script_runner.specs.CallLaws.{on_error}
use Rattle.sector_disk.specs.DiskView.{shown_of}
use Rattle.sector_disk.specs.RamView.{DoesInRam, ram_view}
use Rattle.headline.specs.ReopenedLog.{DoesReplay}
use Rattle.dmlw_commands.proofs.ReplayOnDisk.{fails_on, fails_to_open, honest, image_left}
use Rattle.dmlw_commands.proofs.ReplayOnDisk.{kept_on, replayed_on}
use Rattle.refusals.specs.Errors.{memory_error}
use Rattle.dmlw_commands.proofs.ImageLog.{never_failed}
use Rattle.dmlw_commands.proofs.replay_log.images.replay_images.Goals as goal

pub returns-in_err-log-clause-fails : goal.returns-in_err-log-clause-fails
returns-in_err-log-clause-fails c =
    on_error c.from_residual.result c.from_residual.ensures.1
    (λ stop is. fails_to_open _ _ _ c.in_err-log.field-0.0 stop
    (inl c.in_err-log.ensures.memory) is)

pub returns-in_err-disk-clause-fails : goal.returns-in_err-disk-clause-fails
returns-in_err-disk-clause-fails c =
    on_error c.from_residual-in_err-disk.result c.from_residual-in_err-disk.ensures.1
    (λ stop is. fails_to_open _ _ _ c.in_err-disk.field-0.0 stop
    (inl c.in_err-disk.ensures.memory) is)

pub returns-in_err-disk-in-Ok-clause-fails : goal.returns-in_err-disk-in-Ok-clause-fails
returns-in_err-disk-in-Ok-clause-fails c =
    on_error c.from_residual-in_err-disk-in-Ok.result c.from_residual-in_err-disk-in-Ok.ensures.1
    (λ stop is. fails_to_open _ _ _ memory_error stop (inl refl) is)

pub returns-in_ok-disk-in-Ok-clause-replayed : goal.returns-in_ok-disk-in-Ok-clause-replayed
returns-in_ok-disk-in-Ok-clause-replayed c =
    let disk = shown_of c.in_ok-log.log in
    let v = ram_view c.in_ok-disk.disk in
    let w = ram_view c.reopen_and_replay-log.new.target in
    let count = c.in-Ok.count in
    image_left c.args.log c.args.first c.args.upto.now count c.in_ok-disk-in-Ok.disk
    c.requires.first
    (kept_on c.args.log c.args.first c.args.upto.now count w (shown_of c.in_ok-disk-in-Ok.disk)
    c.requires.first
    (replayed_on c.args.log c.args.first c.args.upto.now count disk v w
    c.requires.log c.in_ok-log.ensures.begins c.in_ok-disk.ensures.holds
    c.reopen_and_replay-log.ensures.target.size (honest v w refl refl)
    (subst (λ (r : Result ℕ ReopenError). IfOk r (λ n. IsReopened disk c.args.upto.now n v w))
    c.in-Ok.is c.reopen_and_replay-log.ensures.replayed))
    c.in_ok-disk-in-Ok.ensures)

pub returns-in-Err-clause-fails : goal.returns-in-Err-clause-fails
returns-in-Err-clause-fails c =
    let disk = shown_of c.in_ok-log.log in
    let last = shown_of c.reopen_and_replay-log.result.0 in
    let old = c.in_ok-disk.disk in
    let new = c.reopen_and_replay-log.new.target in
    fails_on c.args.log c.args.first c.args.upto.now c.in-Err.error c.stop_of.result
    disk last old new c.requires.log c.in_ok-log.ensures.begins
    c.in_ok-disk.ensures.holds (never_failed disk last refl refl)
    (honest (ram_view old) (ram_view new) refl refl)
    (λ head es fault reads.
    subst (DoesReplay DoesInRam head.sectorsize es old new) c.in-Err.is
    (c.reopen_and_replay-log.ensures.does head es fault reads))
    (subst (λ (r : Result ℕ ReopenError). IfErr r
    (λ error. IsRefused disk last c.args.upto.now (ram_view old) (ram_view new) error)) c.in-Err.is
    c.reopen_and_replay-log.ensures.refused)
    c.stop_of.ensures
