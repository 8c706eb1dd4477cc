use Rattle.blockdev.specs.View.{Flushes}
use Rattle.layer_table.specs.StackLaws.{no_gap_kept}
use Rattle.layer_table.proofs.stack.device.StackBlockDev.flush.Goals as goal

pub invariant_of-self : goal.invariant_of-self
invariant_of-self c =
    record {
      filled = no_gap_kept c.args.self.now Flushes c.args.now c.flush.result c.flush.new.self
          c.flush.ensures.does;
    }
