use Rattle.std.proofs.Common.{◌≡◌, ◌++◌, drop}
use Rattle.std.specs.Prelude.{flat_map, map}
use Rattle.dmlw_script.specs.Grammar.{ended_line}
use Rattle.dmlw_script.specs.Plans.{layer_line}
use Rattle.dmlw_script.proofs.printed_head.push_layers.Given as goal

abbrev pub invariant-loop-layer : goal.invariant-loop-layer
invariant-loop-layer l =
    l.out.items ++ flat_map ended_line (map (layer_line l.over) (drop l.layer-index l.layers))
    ≡ l.fn.out.items ++ flat_map ended_line (map (layer_line l.over) l.layers)
