use Rattle.std.proofs.Common.{List, refl, subst, ℕ}
use Rattle.recorder.specs.Calls.{Marks}
use Rattle.script_runner.specs.inside.{mark_printed}
use Rattle.script_runner.proofs.LineSteps.{mark_prints, on_ok}
use Rattle.script_runner.proofs.running.Running.mark.Goals as goal

pub returns-in_err-clone-clause-keeps : goal.returns-in_err-clone-clause-keeps
returns-in_err-clone-clause-keeps g c =
    record { time = refl; log_time = refl; size = refl; count = refl }

pub returns-clause-keeps : goal.returns-clause-keeps
returns-clause-keeps g c =
    record { time = refl; log_time = c.event-reply.ensures.time; size = refl; count = refl }

pub returns-clause-runs : goal.returns-clause-runs
returns-clause-runs g c = on_ok c.print_mark.result c.print_mark.ensures.output (λ printed.
    let reply = c.event-reply.result in
    let old = c.args.self.now.recorder in
    let new = c.event-reply.new.self in
    let marks =
    subst (λ (text : List ℕ). Marks text reply old new) c.in_ok-clone.ensures
    c.event-reply.ensures.does in (
      mark_printed reply,
      record {
        device = refl;
        kept = refl;
        reply = reply;
        marks = marks;
        short = rw c.is_refusal.ensures;
        prints = mark_prints c.args.text.now reply old new marks c.requires;
      },
      printed,
    ))
