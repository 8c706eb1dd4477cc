use Rattle.std.proofs.Common.{arith}
use Rattle.dmlw_serve.proofs.Sessions.{filled}
use Rattle.dmlw_serve.proofs.session.filled_stack.Goals as goal

pub returns-clause-filled : goal.returns-clause-filled
returns-clause-filled c =
    let over = c.stack_over.ensures in
    filled c.args.disk.now c.args.image c.in_ok-bare.bare c.stack_over.result (omega arith)
    c.in_ok-bare.ensures over.bare over.layers over.over
