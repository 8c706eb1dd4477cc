use Rattle.layer_table.specs.TableLines.{asked_in_range}
use Rattle.layer_table.proofs.line_laws.layers_asked_for_are_in_range.Goals as goal

pub returns : goal.returns
returns c = asked_in_range
