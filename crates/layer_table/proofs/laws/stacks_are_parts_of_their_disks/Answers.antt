use Rattle.layer_table.specs.StackLaws.{part_of_disk}
use Rattle.layer_table.proofs.laws.stacks_are_parts_of_their_disks.Goals as goal

pub returns : goal.returns
returns c = part_of_disk
