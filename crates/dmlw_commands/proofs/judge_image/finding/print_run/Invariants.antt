use Rattle.std.proofs.Common.{take}
use Rattle.std.specs.Prelude.{flat_map}
use Rattle.std.specs.Io.KnownBytes.{Appends}
use Rattle.dmlw_commands.specs.Judgements.{step_line}
use Rattle.dmlw_commands.proofs.judge_image.finding.print_run.Given as goal

abbrev pub invariant-loop-step : goal.invariant-loop-step
invariant-loop-step g l =
    Appends (g.O.Write.contents l.fn.out) (g.O.Write.contents l.out)
    (flat_map step_line (take l.step-index l.run))
