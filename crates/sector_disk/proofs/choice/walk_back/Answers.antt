use Rattle.std.proofs.Common.{◌≡◌, suc, ◌+◌, ◌-◌, ap, sym, ◌∙◌, arith}
use Rattle.sector_disk.specs.inside.Storage.{walk}
use Rattle.sector_disk.proofs.choice.walk_back.Goals as goal

pub loop-step-preserved : goal.loop-step-preserved
loop-step-preserved c =
    let calls = c.args.calls.now in
    let done = c.loop-step._step in
    let more : c.args.steps - done ≡ suc (c.args.steps - (done + 1)) =
    let h = c.loop-step-test.true in omega arith in
    ap (walk calls c.args.sector (c.args.steps - (done + 1))) c.before-place.ensures
    ∙ ap (λ n. walk calls c.args.sector n c.loop-step.place) (sym more)
    ∙ c.loop-step.invariant
