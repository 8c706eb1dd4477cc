use Rattle.std.proofs.Common.{◌≡◌, ◌++◌, ◌∷◌, drop}
use Rattle.std.specs.Prelude.{codes, decimal, flat_map}
use Rattle.dmlw_script.proofs.printing.push_picks.Given as goal

abbrev pub invariant-loop-pick : goal.invariant-loop-pick
invariant-loop-pick l =
    l.out.items ++ flat_map (λ n. 32 ∷ decimal n) (drop l.pick-index l.picks)
    ≡ l.fn.out.items ++ (codes "crash" ++ flat_map (λ n. 32 ∷ decimal n) l.picks)
