use Rattle.std.proofs.Common.{[], inl, inr}
use Rattle.dmlw_script.specs.declared.command.Step.TheVariants as steps
use Rattle.script_runner.specs.CallLaws.{keeps_same}
use Rattle.script_runner.specs.Lines.{SendsToLayer, answering}
use Rattle.script_runner.proofs.LineSteps.{appends_none, both_ok, if_err, is_close_step, is_step}
use Rattle.script_runner.proofs.LineSteps.{on_ok, step_runs}
use Rattle.script_runner.proofs.running.Running.run_line.Goals as goal

pub returns-in-Close-clause-faults : goal.returns-in-Close-clause-faults
returns-in-Close-clause-faults g c =
    if_err c.close.result c.close.ensures.refused (λ stop refused. inr (inl (record {
      is_close = is_close_step c.args.command.now c.in-Step.step c.in-Step.is c.in-Close.is;
      refusal = refused.0;
      stops = refused.1;
      last = c.close.new.self.recorder;
      closes = refused.2;
      printed = keeps_same _;
    })))

pub returns-in-Message-clause-faults : goal.returns-in-Message-clause-faults
returns-in-Message-clause-faults g c =
    if_err c.message.result c.message.ensures.refused (λ stop refused. inr (inr (record {
      over = c.in-Message.over;
      layer = c.in-Message.layer;
      asked = c.in-Message.text;
      is_message = is_step c.args.command.now c.in-Step.step _ c.in-Step.is c.in-Message.is;
      error = refused.0;
      stops = refused.1;
      refused = refused.2;
      printed = keeps_same _;
    })))

pub returns-in-Submit-clause-runs : goal.returns-in-Submit-clause-runs
returns-in-Submit-clause-runs g c =
    rw c.in-Submit.is c.submit.ensures.runs

pub returns-in-Complete-clause-runs : goal.returns-in-Complete-clause-runs
returns-in-Complete-clause-runs g c =
    rw c.in-Complete.is c.complete.ensures.runs

pub returns-in-Close-clause-runs : goal.returns-in-Close-clause-runs
returns-in-Close-clause-runs g c =
    both_ok c.close.result c.close.ensures.ends c.close.ensures.goes (λ ends goes.
    step_runs (answering g.D.Message.answers g.L.Message.answers) c.args.names.now
    c.args.command.now steps.Close _ _ [] c.args.self.now c.close.new.self
    (is_step c.args.command.now c.in-Step.step _ c.in-Step.is c.in-Close.is) ends
    c.close.ensures.keeps.time c.close.ensures.keeps.log_time goes (appends_none _))

pub returns-in-Read-clause-runs : goal.returns-in-Read-clause-runs
returns-in-Read-clause-runs g c = on_ok c.read.result c.read.ensures.runs (λ ran.
    step_runs (answering g.D.Message.answers g.L.Message.answers) c.args.names.now
    c.args.command.now (steps.Read c.in-Read.first c.in-Read.count) _ _ ran.0 c.args.self.now
    c.read.new.self (is_step c.args.command.now c.in-Step.step _ c.in-Step.is c.in-Read.is)
    ran.1 c.read.ensures.keeps.time c.read.ensures.keeps.log_time c.read.ensures.goes ran.2)

pub returns-in-Mark-clause-runs : goal.returns-in-Mark-clause-runs
returns-in-Mark-clause-runs g c =
    both_ok c.mark.result c.mark.ensures.runs c.mark.ensures.goes (λ ran goes.
    step_runs (answering g.D.Message.answers g.L.Message.answers) c.args.names.now
    c.args.command.now (steps.Mark c.in-Mark.text) _ _ ran.0 c.args.self.now c.mark.new.self
    (is_step c.args.command.now c.in-Step.step _ c.in-Step.is c.in-Mark.is) ran.1
    c.mark.ensures.keeps.time c.mark.ensures.keeps.log_time goes ran.2)

pub returns-in-Message-clause-runs : goal.returns-in-Message-clause-runs
returns-in-Message-clause-runs g c =
    on_ok {A = SendsToLayer (answering g.D.Message.answers g.L.Message.answers) c.in-Message.over
    c.in-Message.layer c.in-Message.text [] c.args.self.now c.message.new.self} c.message.result
    c.message.ensures.tells (λ tells.
    step_runs (answering g.D.Message.answers g.L.Message.answers) c.args.names.now
    c.args.command.now (steps.Message c.in-Message.over c.in-Message.layer c.in-Message.text) _
    _ [] c.args.self.now c.message.new.self
    (is_step c.args.command.now c.in-Step.step _ c.in-Step.is c.in-Message.is) tells
    c.message.ensures.keeps.time c.message.ensures.keeps.log_time c.message.ensures.goes
    (appends_none _))

pub returns-in-Turn-clause-runs : goal.returns-in-Turn-clause-runs
returns-in-Turn-clause-runs g c =
    step_runs (answering g.D.Message.answers g.L.Message.answers) c.args.names.now
    c.args.command.now steps.Turn _ _ [] c.args.self.now c.turn.new.self
    (is_step c.args.command.now c.in-Step.step _ c.in-Step.is c.in-Turn.is) c.turn.ensures.turns
    c.turn.ensures.keeps.time c.turn.ensures.keeps.log_time c.turn.ensures.goes (appends_none _)

pub returns-in-At-clause-runs : goal.returns-in-At-clause-runs
returns-in-At-clause-runs g c =
    step_runs (answering g.D.Message.answers g.L.Message.answers) c.args.names.now
    c.args.command.now (steps.At c.in-At.time) _ _ [] c.args.self.now c.set_time.new.self
    (is_step c.args.command.now c.in-Step.step _ c.in-Step.is c.in-At.is)
    c.set_time.ensures.sets c.set_time.ensures.time c.set_time.ensures.log_time
    c.set_time.ensures.goes (appends_none _)
