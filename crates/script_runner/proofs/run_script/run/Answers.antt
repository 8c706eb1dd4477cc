use Rattle.std.proofs.Common.{◌≡◌, ◌+◌, ℕ, ap, arith, length, subst, sym, ◌∙◌}
use Rattle.dmlw_script.specs.declared.command.Command.{Command}
use Rattle.dmlw_script.specs.Words.{command_line}
use Rattle.dmlw_script.specs.Plans.{HasName}
use Rattle.refusals.specs.declared.refusal.Refusal.{Refusal}
use Rattle.recorder.specs.Calls.{core_of}
use Rattle.refusals.specs.declared.run_error.RunError.TheVariants.{Refused}
use Rattle.script_runner.specs.declared.step_error.StepError.TheVariants.{AtLine}
use Rattle.script_runner.specs.Lines.{answering, EndsSubmitted, FitsDevice, HasScriptText}
use Rattle.script_runner.specs.Lines.{PrintsLine, StopsLine, submission_count}
use Rattle.script_runner.specs.Runs.{EndsRun}
use Rattle.script_runner.proofs.Scripts.{bytes_more, command_next, count_more_of, lines_more_of}
use Rattle.script_runner.proofs.Scripts.{lines_run, next_line_fits, next_line_named}
use Rattle.script_runner.proofs.Scripts.{next_line_submitted, next_line_text, of_item, of_place}
use Rattle.script_runner.proofs.Scripts.{stops_at_line, stops_whole}
use Rattle.script_runner.proofs.run_script.run.Goals as goal

pub run_line-requires-clause-fits : goal.run_line-requires-clause-fits
run_line-requires-clause-fits g c =
    of_item (λ (command : Command). FitsDevice (core_of c.loop-place.running.recorder).sector_bytes
    (g.D.BlockDev.shown c.loop-place.running.disk).size command) c.commands-command-items.result.now
    c.loop-place.place c.command-item.result c.command-item.is
    (next_line_fits c.args.script.now c.commands-command-items.result.now c.loop-place.place _ _ _
    c.commands-command-items.ensures.commands
    (λ before command rest split. c.requests_end_once.ensures.can_follow c.args.script.now before
    command rest c.commands-command-items.ensures.script split)
    (omega arith) c.loop-place.invariant.4 c.loop-place.invariant.3)

pub run_line-requires-clause-text : goal.run_line-requires-clause-text
run_line-requires-clause-text g c =
    of_item (λ (command : Command). HasScriptText command) c.commands-command-items.result.now
    c.loop-place.place c.command-item.result c.command-item.is
    (next_line_text c.args.script.now c.commands-command-items.result.now c.loop-place.place _
    c.commands-command-items.ensures.commands
    (λ before command rest split. c.requests_end_once.ensures.can_follow c.args.script.now before
    command rest c.commands-command-items.ensures.script split)
    (omega arith))

pub run_line-requires-clause-named : goal.run_line-requires-clause-named
run_line-requires-clause-named g c =
    of_item (λ (command : Command). HasName (length c.names.result.now)
    (length c.loop-place.running.requests.items) command) c.commands-command-items.result.now
    c.loop-place.place c.command-item.result c.command-item.is
    (next_line_named c.args.script.now c.commands-command-items.result.now c.names.result.now
    c.loop-place.place _ _ c.commands-command-items.ensures.commands
    c.commands-command-items.ensures.script
    (λ before command rest split. c.requests_end_once.ensures.can_follow c.args.script.now before
    command rest c.commands-command-items.ensures.script split)
    (omega arith) c.names.ensures.names c.loop-place.invariant.2)

pub run_line-requires-clause-submitted : goal.run_line-requires-clause-submitted
run_line-requires-clause-submitted g c =
    of_item (λ (command : Command). EndsSubmitted
    (length c.loop-place.running.requests.items) command) c.commands-command-items.result.now
    c.loop-place.place c.command-item.result c.command-item.is
    (next_line_submitted c.args.script.now c.commands-command-items.result.now c.loop-place.place _
    _ c.commands-command-items.ensures.commands
    (λ before command rest split. c.requests_end_once.ensures.can_follow c.args.script.now before
    command rest c.commands-command-items.ensures.script split)
    (omega arith) c.loop-place.invariant.2)

pub returns-in-Err-Whole-clause-faults : goal.returns-in-Err-Whole-clause-faults
returns-in-Err-Whole-clause-faults g c =
    subst (EndsRun (answering g.D.Message.answers g.L.Message.answers) c.args.text.now
    c.args.script.now (g.O.Write.contents c.args.out.now)
    (g.O.Write.contents c.run_line.new.out) c.args.running.now)
    (sym c.in-Err-Whole.fault-is)
    (stops_whole (answering g.D.Message.answers g.L.Message.answers) c.args.text.now
    c.args.script.now _ _ (g.O.Write.contents c.loop-place.out)
    (g.O.Write.contents c.run_line.new.out) _ c.args.running.now c.loop-place.running
    (subst (StopsLine (answering g.D.Message.answers g.L.Message.answers) _
    (g.O.Write.contents c.loop-place.out)
    (g.O.Write.contents c.run_line.new.out) c.loop-place.running) c.in-Err-Whole.field-0-is
    c.in-Err-Whole.ensures.faults))

pub returns-in-Err-AtLine-clause-faults : goal.returns-in-Err-AtLine-clause-faults
returns-in-Err-AtLine-clause-faults g c =
    let script = c.args.script.now in
    let items = c.commands-command-items.result.now in
    let next =
    command_next script items c.loop-place.place _ c.commands-command-items.ensures.commands
    (λ before command rest split. c.requests_end_once.ensures.can_follow script before command rest
    c.commands-command-items.ensures.script split)
    (omega arith) in
    subst (λ (refusal : Refusal). EndsRun
    (answering g.D.Message.answers g.L.Message.answers) c.args.text.now script
    (g.O.Write.contents c.args.out.now)
    (g.O.Write.contents c.run_line.new.out) c.args.running.now
    (Refused (record { line = c.line_of-line.result; refusal = refusal })))
    (sym c.in-Err-AtLine.refusal-is)
    (stops_at_line (answering g.D.Message.answers g.L.Message.answers) c.args.text.now script
    c.loop-place.place c.line_of-line.result _ _ (g.O.Write.contents c.loop-place.out)
    (g.O.Write.contents c.run_line.new.out) _
    c.args.running.now c.loop-place.running next
    (lines_run items script.commands c.loop-place.place
    c.commands-command-items.ensures.commands (omega arith))
    (c.line_of-line.ensures ∙ ap
    (λ (n : ℕ). command_line c.args.text.now
    (n + c.loop-place.place)) c.head_lines.ensures.lines) c.loop-place.invariant.1
    (of_place (λ (command : Command). StopsLine
    (answering g.D.Message.answers g.L.Message.answers) command
    (g.O.Write.contents c.loop-place.out)
    (g.O.Write.contents c.run_line.new.out) c.loop-place.running
    (AtLine c.in-Err-AtLine.refusal)) items c.loop-place.place c.command-item.result
    c.command-item.is
    (subst (StopsLine (answering g.D.Message.answers g.L.Message.answers) _
    (g.O.Write.contents c.loop-place.out)
    (g.O.Write.contents c.run_line.new.out) c.loop-place.running) c.in-Err-AtLine.field-0-is
    c.in-Err-AtLine.ensures.faults)))

pub loop-place-preserved : goal.loop-place-preserved
loop-place-preserved g c =
    let script = c.args.script.now in
    let items = c.commands-command-items.result.now in (
      c.loop-place.invariant.0,
      lines_more_of (answering g.D.Message.answers g.L.Message.answers) script items
          c.names.result.now c.loop-place.place _ _ _ _ c.args.running.now c.loop-place.running
          c.run_line.new.self
          c.commands-command-items.ensures.commands
          (omega arith) c.names.ensures.names c.loop-place.invariant.1
          (of_place (λ (command : Command). PrintsLine
          (answering g.D.Message.answers g.L.Message.answers) c.names.result.now command
          (g.O.Write.contents c.loop-place.out) (g.O.Write.contents c.run_line.new.out)
          c.loop-place.running c.run_line.new.self) items c.loop-place.place c.command-item.result
          c.command-item.is c.in-Ok.ensures.runs),
      count_more_of script items c.loop-place.place _ _ _ c.commands-command-items.ensures.commands
          (omega arith) c.loop-place.invariant.2
          (of_place (λ (command : Command). length c.run_line.new.self.requests.items
          ≡ length c.loop-place.running.requests.items + submission_count command) items
          c.loop-place.place
          c.command-item.result c.command-item.is c.in-Ok.ensures.count),
      c.run_line.ensures.size ∙ c.loop-place.invariant.3,
      bytes_more (answering g.D.Message.answers g.L.Message.answers) c.names.result.now _ _ _
          c.loop-place.running c.run_line.new.self c.in-Ok.ensures.runs c.loop-place.invariant.4,
    )
