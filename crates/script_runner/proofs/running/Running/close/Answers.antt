use Rattle.std.proofs.Common.{◌∙◌, ap, refl}
use Rattle.script_runner.specs.Lines.{is_memory_end}
use Rattle.script_runner.proofs.LineSteps.{closed-only}
use Rattle.script_runner.proofs.running.Running.close.Goals as goal

pub returns : goal.returns
returns g c = record {
  keeps = record {
    time = refl;
    log_time = c.drain-ended.ensures.time ∙ c.event.ensures.time;
    size = refl;
    count = refl;
  };
  ends = record {
    keeps = record { device = refl; kept = refl; prints = refl };
    closed = c.event.new.self;
    closes =
        closed-only c.event.result c.args.self.now.recorder c.event.new.self c.event.ensures.does
        c.in_default.not-Refused;
    answer = c.drain-ended.result;
    drains = c.drain-ended.ensures.drains;
    short =
        rw (c.is_memory_end.ensures ∙ ap is_memory_end c.last_turn.ensures);
  };
  goes =
      c.several_calls_go_as_one.ensures.two c.args.self.now.recorder c.event.new.self
      c.drain-ended.new.self c.event.ensures.goes c.drain-ended.ensures.goes;
  refused = tt;
}

pub returns-in-Refused-clause-keeps : goal.returns-in-Refused-clause-keeps
returns-in-Refused-clause-keeps g c =
    record { time = refl; log_time = c.event.ensures.time; size = refl; count = refl }
