use Rattle.std.proofs.Common.{◌++◌, [], arith}
use Rattle.std.proofs.lemmas.List.{length-append, length-take-le}
use Rattle.nbd.proofs.Frames.{consumed_more, consumed_none}
use Rattle.nbd.proofs.pipes.skip_by.Goals as goal

pub loop-left-init : goal.loop-left-init
loop-left-init g c = ([], omega arith, consumed_none _)

pub loop-left-preserved : goal.loop-left-preserved
loop-left-preserved g c =
    let fits = length-take-le c.min-length.result c.loop-left.piece (omega arith) in (
      c.loop-left.invariant.0 ++ c.take.new.buffer,
      omega (
        arith,
        length-append c.loop-left.invariant.0 c.take.new.buffer,
        fits,
        c.take.auto.buffer,
      ),
      consumed_more _ _ _ _ _ c.loop-left.invariant.2 c.in_ok-take.ensures.filled,
    )
