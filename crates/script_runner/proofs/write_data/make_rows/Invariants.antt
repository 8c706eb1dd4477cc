use Rattle.std.proofs.Common.{◌-◌, length}
use Rattle.script_runner.specs.Submissions.{AreFilled}
use Rattle.script_runner.proofs.write_data.make_rows.Given as goal

abbrev pub invariant-loop-alloc : goal.invariant-loop-alloc
invariant-loop-alloc l = AreFilled l.rows.items

abbrev pub decreases-loop-alloc : goal.decreases-loop-alloc
decreases-loop-alloc l = 256 - length l.rows.items
