use Rattle.std.proofs.Common.{◌∙◌, None}
use Rattle.dmlw_commands.specs.EndLaws.{ends_told}
use Rattle.dmlw_commands.specs.Ends.{exit_by}
use Rattle.dmlw_commands.specs.Replays.{FailsReplay}
use Rattle.dmlw_commands.proofs.CommandEnds.{keeping_steady, done_or_refused, fault_told, makes_end}
use Rattle.dmlw_commands.proofs.ReplayOnDisk.{files_refused}
use Rattle.dmlw_commands.proofs.replay_log.replaying.replay.Goals as goal

pub returns-clause-ends : goal.returns-clause-ends
returns-clause-ends g c =
    let more = c.explain_replaying-more.ensures in
    let end = c.end.ensures in
    let told =
    ends_told _ c.as_str.result.now _ _ c.end.result
    (λ off. c.as_str.ensures.value ∙ more.silent off) end.exit end.quiet end.told in
    makes_end _ _ _ _ _ _ _ _ _ c.end.result
    (λ files. keeping_steady (FailsReplay (files c.args.names.log.now)
    (files c.args.names.first.now) c.args.upto.now))
    (c.replay_files-done.ensures.did _)
    (record { files = more.kept; writes = more.unwritten; out = end.kept }) told

pub returns-clause-same : goal.returns-clause-same
returns-clause-same g c = λ named.
    let more = c.explain_replaying-more.ensures in
    let end = c.end.ensures in
    let told =
    ends_told _ c.as_str.result.now _ _ c.end.result
    (λ off. c.as_str.ensures.value ∙ more.silent off) end.exit end.quiet end.told in
    fault_told _ exit_by _ _ c.end.result (c.replay_files-done.ensures.same named) told

pub returns-clause-exits : goal.returns-clause-exits
returns-clause-exits g c =
    done_or_refused _ _ _ _ _ _ c.end.result.exit (λ fault fails. files_refused _ _ _ fault fails.0)
    (c.replay_files-done.ensures.did None) c.end.ensures.exit
