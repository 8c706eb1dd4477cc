use Rattle.std.proofs.Common.{◌-◌}
use Rattle.layer_table.specs.StackMessages.{no_gap_answered}
use Rattle.layer_table.proofs.stack.messages.StackMessage.message.Goals as goal

pub invariant_of-self : goal.invariant_of-self
invariant_of-self c = record {
  filled =
      no_gap_answered c.args.self.now
      (5 - c.args.layer) c.args.text.now c.message.result c.message.new.self
      c.message.ensures.answers;
}
