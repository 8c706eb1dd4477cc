use Rattle.layer_table.specs.TableLines.{printed_again}
use Rattle.layer_table.proofs.line_laws.printed_layers_are_asked_for.Goals as goal

pub returns : goal.returns
returns c = printed_again
