use Rattle.script_runner.proofs.DiskRun.{stacked}
use Rattle.script_runner.proofs.playing.new_stack.Goals as goal

pub returns-clause-stack : goal.returns-clause-stack
returns-clause-stack c =
    let over = c.stack_over.ensures in
    stacked c.args.disk.now c.in_ok-bare.bare c.stack_over.result c.sectors.ensures
    c.in_ok-bare.ensures over.bare over.layers over.over
