use Rattle.std.proofs.Common.{◌*◌, arith, take}
use Rattle.std.proofs.lemmas.Grind.{common_steps}
use Rattle.std.proofs.lemmas.List.{length-take-le}
use Rattle.nbd.proofs.Parts.{fails_later, reads_both}
use Rattle.nbd.proofs.reading.try_parts.Goals as goal

pub returns-in-Err-clause-only : goal.returns-in-Err-clause-only
returns-in-Err-clause-only g c = reads_both _ _ _ c.loop-done.invariant.2 c.read.ensures.only

pub returns-in-Err-clause-fails : goal.returns-in-Err-clause-fails
returns-in-Err-clause-fails g c =
    fails_later c.args.now c.args.range c.loop-done.done c.min-count.result
    (take (c.min-count.result * 512) c.loop-done.buffer) c.read.new.buffer c.in-Err.fault
    c.args.server.now c.loop-done.server c.read.new.self c.loop-done.invariant.2
    (length-take-le (c.min-count.result * 512) c.loop-done.buffer (omega arith)) (omega arith)
    c.in-Err.ensures.fails

pub loop-done-preserved : goal.loop-done-preserved
loop-done-preserved g c = (
  omega arith,
  grind (arith, common_steps),
  reads_both _ _ _ c.loop-done.invariant.2 c.read.ensures.only,
  c.servers_go_as_one.ensures.two _ _ _ c.loop-done.invariant.3 c.read.ensures.goes,
)
