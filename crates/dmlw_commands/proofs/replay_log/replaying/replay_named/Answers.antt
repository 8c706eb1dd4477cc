use Rattle.std.proofs.Common.{subst, sym}
use Rattle.script_runner.specs.CallLaws.{on_error}
use Rattle.dmlw_files.specs.Files.{FileHoldsImage}
use Rattle.dmlw_commands.specs.Replays.{FailsReplay, file}
use Rattle.dmlw_commands.proofs.ReplayOnDisk.{both_images, failed_from, replayed_from}
use Rattle.dmlw_commands.proofs.replay_log.replaying.replay_named.Goals as goal

pub returns-in_err-log-clause-fails : goal.returns-in_err-log-clause-fails
returns-in_err-log-clause-fails g c =
    on_error c.from_residual.result c.from_residual.ensures.1
    (λ stop is. subst (FailsReplay _ _ _) (sym is) (file _ c.in_err-log.ensures.fault
    (λ log first. c.in_err-log.ensures.readable log)))

pub returns-in_err-first-clause-fails : goal.returns-in_err-first-clause-fails
returns-in_err-first-clause-fails g c =
    on_error c.from_residual-in_err-first.result c.from_residual-in_err-first.ensures.1
    (λ stop is. subst (FailsReplay _ _ _) (sym is) (file _ c.in_err-first.ensures.fault
    (λ log first. c.in_err-first.ensures.readable
    (subst FileHoldsImage (sym (c.in_ok-log.ensures.kept c.args.first.now)) first))))

pub returns-clause-replayed : goal.returns-clause-replayed
returns-clause-replayed g c =
    replayed_from _ _ c.in_ok-log.log c.in_ok-first.first _ c.replay_images.result
    (both_images _ _ _ c.in_ok-log.log c.in_ok-first.first c.in_ok-log.ensures.contents
    c.in_ok-log.ensures.whole
    c.in_ok-first.ensures.contents c.in_ok-first.ensures.whole
    (c.in_ok-log.ensures.kept c.args.first.now)) c.replay_images.ensures.replayed

pub returns-clause-fails : goal.returns-clause-fails
returns-clause-fails g c =
    failed_from _ _ c.in_ok-log.log c.in_ok-first.first _ c.replay_images.result
    (both_images _ _ _ c.in_ok-log.log c.in_ok-first.first c.in_ok-log.ensures.contents
    c.in_ok-log.ensures.whole
    c.in_ok-first.ensures.contents c.in_ok-first.ensures.whole
    (c.in_ok-log.ensures.kept c.args.first.now)) c.replay_images.ensures.fails
