use Rattle.dust_layer.specs.Walk.{change_call, fua_of, listed_counts}
use Rattle.dust_layer.proofs.BlockWalk.{ChangesBlocks}
use Rattle.dust_layer.proofs.blocks.change_blocks.Given as goal

abbrev pub invariant-loop-done : goal.invariant-loop-done
invariant-loop-done g l =
    ChangesBlocks g.D.BlockDev.does g.D.BlockDev.shown l.fn.block
    (change_call l.fn.first l.fn.count l.fn.change) (fua_of l.fn.change)
    (listed_counts l.fn.bad) (listed_counts l.bad) l.done l.from l.fn.lower l.fn.now l.lower l.end
