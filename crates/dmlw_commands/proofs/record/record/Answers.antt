use Rattle.std.proofs.Common.{◌∙◌}
use Rattle.dmlw_commands.specs.EndLaws.{ends_told}
use Rattle.dmlw_commands.specs.Ends.{exit_after}
use Rattle.dmlw_commands.specs.Records.{of_recorder}
use Rattle.dmlw_commands.proofs.CommandEnds.{disks_kept, failure_kept, fault_told, makes_end}
use Rattle.dmlw_commands.proofs.record.record.Goals as goal

pub returns-clause-ends : goal.returns-clause-ends
returns-clause-ends g c =
    let more = c.explain_recording-more.ensures in
    let end = c.end_recording.ensures in
    let told =
    ends_told _ c.as_str.result.now _ _ c.end_recording.result
    (λ off. c.as_str.ensures.value ∙ more.silent off) end.exit end.quiet end.told in
    makes_end _ _ _ _ _ _ _ _ _ c.end_recording.result
    (λ files. failure_kept of_recorder disks_kept (files c.args.script.now))
    (c.record_script-recorded.ensures.did _)
    (record { files = more.kept; writes = more.unwritten; out = end.kept }) told

pub returns-clause-same : goal.returns-clause-same
returns-clause-same g c = λ named.
    let more = c.explain_recording-more.ensures in
    let end = c.end_recording.ensures in
    let told =
    ends_told _ c.as_str.result.now _ _ c.end_recording.result
    (λ off. c.as_str.ensures.value ∙ more.silent off) end.exit end.quiet end.told in
    fault_told _ exit_after _ _ c.end_recording.result (c.record_script-recorded.ensures.same named) told
