use Rattle.std.proofs.Common.{◌≡◌, ◌∙◌, ap, length, sym, true, ℕ, List, Option}
use Rattle.std.specs.Prelude.{◌==◌}
use Rattle.refusals.specs.declared.refusal.Refusal.TheVariants as refusals
use Rattle.refusals.specs.declared.run_error.RunError.TheVariants.{Refused}
use Rattle.dmlw_script.specs.declared.command.Command.{Command}
use Rattle.dmlw_script.specs.Plans.{head_count}
use Rattle.dmlw_script.specs.Words.{command_line}
use Rattle.dmlw_serve.proofs.Sessions.{negated, none_of, not_both, some_lines, zero_left}
use Rattle.dmlw_serve.proofs.session.check_head.Goals as goal
use Rattle.dmlw_serve.proofs.session.check_head.Goals.{else-is_empty-via-then-is_empty+else-is_none, else-is_empty-via-else-is_empty}

pub returns-clause-longer : goal.returns-clause-longer
returns-clause-longer c =
    let plan = c.args.script.now in
    let laws = c.lines_are_those_of_commands.ensures in
    let found = laws.found c.args.text.now plan 0 c.requires
    (some_lines plan.commands plan.ending (λ none ends.
    let empty : (length c.commands.result.now == 0) ≡ true =
    ap (λ (commands : List Command). length commands == 0) (c.commands.ensures.commands ∙ none) in
    elim c.else-is_empty.branch [
      | else-is_empty-via-then-is_empty+else-is_none w ↦
          let off = none_of w.crash.result (w.crash.ensures.picks ∙ ends) in
          negated w.is_none.result (sym w.is_none.ensures ∙ off) w.if-is_none.false
      | else-is_empty-via-else-is_empty w ↦ not_both c.is_empty.result (c.is_empty.ensures ∙ empty) w.if-is_empty.false
    ])) in (
      found.0,
      ap (λ (line : Option ℕ). Refused (record { line = line; refusal = refusals.BadLine }))
          (c.line_of.ensures ∙ ap (command_line c.args.text.now)
          (c.head_lines.ensures.lines ∙ sym (zero_left (head_count plan))) ∙ found.1),
      laws.says c.args.text.now plan 0 found.0 c.requires found.1,
    )
