use Rattle.std.proofs.Common.{refl, sym, ◌∙◌, arith}
use Rattle.dust_layer.specs.Walk.{listed_counts}
use Rattle.dust_layer.proofs.BlockWalk.{changes_fails, changes_first}
use Rattle.dust_layer.proofs.BlockWalk.{changes_land, changes_step}
use Rattle.dust_layer.proofs.blocks.change_blocks.Goals as goal
use Rattle.blockdev.specs.JoinLaws.{goes_cut}
use Rattle.dust_layer.proofs.BlockWalk.{changes_failed}

pub loop-done-init : goal.loop-done-init
loop-done-init g c =
    changes_first g.D.BlockDev.does g.D.BlockDev.shown c.args.block c.args.first c.args.count
    c.args.change (listed_counts c.args.bad.now)
    c.args.lower.now c.args.now c.requires.range.some c.requires.count

pub returns-then-strike-clause-goes : goal.returns-then-strike-clause-goes
returns-then-strike-clause-goes g c = grind (arith, goes_cut)

pub returns-clause-goes : goal.returns-clause-goes
returns-clause-goes g c = grind (arith, goes_cut)

pub loop-done-preserved : goal.loop-done-preserved
loop-done-preserved g c =
    changes_step g.D.BlockDev.does g.D.BlockDev.shown c.args.block c.args.first c.args.count
    c.args.change
    (listed_counts c.args.bad.now) (listed_counts c.loop-done.bad) (listed_counts c.strike.new.self)
    (listed_counts c.forget.new.self)
    c.loop-done.done c.loop-done.from c.reach-to.result c.args.lower.now c.args.now
    c.loop-done.lower c.loop-done.end c.change_part.new.lower c.in-Ok.end
    c.requires.some c.requires.range.some c.requires.count c.loop-done-test.true c.reach-to.ensures
    c.loop-done.invariant
    (sym c.if-strike.false ∙ c.strike.ensures.struck)
    (c.if-strike.ensures.same refl) c.forget.ensures
    c.change_part.ensures.goes c.in-Ok.ensures.lands c.in-Ok.ensures.does
    (c.in-Ok.ensures.cause.ends c.in-Ok.end refl)

pub returns-in-Err-clause-goes : goal.returns-in-Err-clause-goes
returns-in-Err-clause-goes g c =
    changes_fails g.D.BlockDev.does g.D.BlockDev.shown c.args.block c.args.first c.args.count
    c.args.change (listed_counts c.args.bad.now) (listed_counts c.loop-done.bad)
    c.loop-done.done c.loop-done.from c.reach-to.result c.args.lower.now c.args.now
    c.loop-done.lower c.loop-done.end c.change_part.new.lower
    c.requires.some c.requires.range.some c.requires.count c.loop-done-test.true c.reach-to.ensures
    c.loop-done.invariant c.change_part.ensures.goes

pub returns-in-Err-clause-blocks : goal.returns-in-Err-clause-blocks
returns-in-Err-clause-blocks g c = grind (arith, changes_failed)

pub returns-clause-lands : goal.returns-clause-lands
returns-clause-lands g c =
    changes_land g.D.BlockDev.does g.D.BlockDev.shown c.args.block c.args.first c.args.count
    c.args.change (listed_counts c.args.bad.now) (listed_counts c.loop-done.bad)
    c.loop-done.done c.loop-done.from c.args.lower.now c.args.now c.loop-done.lower c.loop-done.end
    c.requires.some c.requires.range.some c.requires.count (let low = c.loop-done.auto.done-end in
    let past = c.loop-done-test.false in omega (arith)) c.loop-done.invariant
