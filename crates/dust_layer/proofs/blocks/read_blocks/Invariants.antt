use Rattle.std.proofs.Common.{◌≡◌, length}
use Rattle.dust_layer.specs.Walk.{listed_counts}
use Rattle.dust_layer.proofs.ReadParts.{Reading}
use Rattle.dust_layer.proofs.blocks.read_blocks.Given as goal

abbrev pub invariant-loop-done : goal.invariant-loop-done
invariant-loop-done g l =
    Reading g.D.BlockDev.does g.D.BlockDev.shown l.fn.block l.fn.first l.fn.buffer l.buffer
    (listed_counts l.fn.bad) l.done l.from l.fn.lower l.fn.now l.lower l.end
    × (length l.buffer ≡ length l.fn.buffer)
