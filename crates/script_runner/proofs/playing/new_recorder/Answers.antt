use Rattle.std.proofs.Common.{◌∙◌, ap, inr}
use Rattle.bio.specs.Refusals.{end_cause}
use Rattle.refusals.specs.declared.run_error.RunError.TheVariants.{LoggingEnded}
use Rattle.script_runner.proofs.DiskRun.{new_log}
use Rattle.script_runner.proofs.playing.new_recorder.Goals as goal

pub returns-in-Ok-new-clause-made : goal.returns-in-Ok-new-clause-made
returns-in-Ok-new-clause-made g c =
    let store = c.in-Ok.ensures in
    new_log _ c.args.device c.in-Ok.store c.in-Ok-new.recorder store.begun.0 store.begun.2
    store.time store.goes store.empty c.in-Ok-new.ensures.made

pub returns-in-Err-clause-faults : goal.returns-in-Err-clause-faults
returns-in-Err-clause-faults g c =
    let refused = c.in-Err.ensures in
    inr (record {
      last = c.in-Err.refused.0;
      error = refused.does.0;
      answered = refused.does.2;
      failed = λ is. refused.failed (refused.does.1 ∙ ap end_cause is);
      ends_by = ap LoggingEnded (c.end_of.ensures ∙ refused.does.1);
    })
