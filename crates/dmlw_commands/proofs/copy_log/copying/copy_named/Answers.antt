use Rattle.std.proofs.Common.{subst, sym}
use Rattle.script_runner.specs.CallLaws.{on_error}
use Rattle.dmlw_commands.proofs.CopyOnDisks.{copied_from, failed_from}
use Rattle.dmlw_commands.specs.LogCopies.{FailsCopy, file}
use Rattle.dmlw_commands.proofs.copy_log.copying.copy_named.Goals as goal

pub returns-in_err-log-clause-fails : goal.returns-in_err-log-clause-fails
returns-in_err-log-clause-fails g c =
    on_error c.from_residual.result c.from_residual.ensures.1
    (λ stop is. subst (FailsCopy _ _) (sym is) (file _ c.in_err-log.ensures.fault
    (λ log. c.in_err-log.ensures.readable log)))

pub returns-clause-copied : goal.returns-clause-copied
returns-clause-copied g c =
    copied_from _ c.in_ok-log.log _ c.copy_image.result c.in_ok-log.ensures.contents
    c.in_ok-log.ensures.whole c.copy_image.ensures.copied

pub returns-clause-fails : goal.returns-clause-fails
returns-clause-fails g c =
    failed_from _ c.in_ok-log.log _ c.copy_image.result c.in_ok-log.ensures.contents
    c.in_ok-log.ensures.whole c.copy_image.ensures.fails
