use Rattle.std.proofs.Common.{◌≡◌, ℕ, ◌-◌, ◌≤◌, List, [], ◌∷◌, ◌++◌, append_assoc, arith, drop}
use Rattle.std.proofs.Common.{length, length-drop, replicate, take}
use Rattle.std.proofs.lemmas.Grind.{common_steps}
use Rattle.std.proofs.lemmas.List.{take_all}
use Rattle.sector_disk.specs.declared.runs.NumberRun.{NumberRun}
use Rattle.sector_disk.specs.inside.Packed.{unrolled}
use Rattle.sector_disk.proofs.runs.runs_of.Goals as goal

unrolled-more : (runs : List NumberRun) (run : NumberRun)
    → unrolled (runs ++ run ∷ []) ≡ unrolled runs ++ replicate run.count run.value
unrolled-more [] run = grind (arith, common_steps)
unrolled-more (x ∷ xs) run = grind (arith, unrolled-more xs run, append_assoc)

more : (all rest : List ℕ) (runs new : List NumberRun) (run : NumberRun) (n : ℕ)
    → length rest - run.count ≤ n → new ≡ runs ++ run ∷ []
    → rest ≡ replicate run.count run.value ++ drop run.count rest
    → unrolled runs ++ rest ≡ all
    → unrolled new ++ take n (drop run.count rest) ≡ all
more all rest runs new run n enough pushed split earlier =
    grind (arith, take_all, length-drop, unrolled-more, append_assoc)

pub loop-rest-preserved : goal.loop-rest-preserved
loop-rest-preserved c =
    more c.args.values.now c.loop-rest.rest.now c.loop-rest.runs.items c.push.new.self.items
    c.first_run-run.result _ (omega arith) c.in_ok-push.ensures.items c.first_run-run.ensures.run
    c.loop-rest.invariant
