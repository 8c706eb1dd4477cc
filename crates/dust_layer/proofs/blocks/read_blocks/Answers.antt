use Rattle.std.proofs.Common.{refl, sym, ◌∙◌, arith}
use Rattle.blockdev.specs.JoinLaws.{goes_both}
use Rattle.bio.specs.Content.{nothing}
use Rattle.dust_layer.specs.Walk.{listed_counts}
use Rattle.dust_layer.proofs.ReadParts.{reading_bytes, reading_failed, reading_step}
use Rattle.dust_layer.proofs.blocks.read_blocks.Goals as goal

pub returns-in-Err-clause-goes : goal.returns-in-Err-clause-goes
returns-in-Err-clause-goes g c =
    goes_both nothing (g.D.BlockDev.shown c.args.lower.now) (g.D.BlockDev.shown c.loop-done.lower)
    (g.D.BlockDev.shown c.read_part.new.lower)
    c.loop-done.invariant.0.goes c.read_part.ensures.goes

pub returns-in-Err-clause-blocks : goal.returns-in-Err-clause-blocks
returns-in-Err-clause-blocks g c = grind (arith, reading_failed)

pub loop-done-preserved : goal.loop-done-preserved
loop-done-preserved g c = (
  reading_step g.D.BlockDev.does g.D.BlockDev.shown c.args.block c.args.first c.args.buffer.now
      c.loop-done.buffer c.read_part.new.buffer
      (listed_counts c.args.bad.now) c.loop-done.done c.loop-done.from c.reach-to.result c.args.lower.now
      c.args.now c.loop-done.lower c.loop-done.end
      c.read_part.new.lower c.in-Ok.end c.requires.some
      (let some = c.requires.range.some in let whole = c.requires.range.whole in
      omega (arith, some, whole))
      c.loop-done-test.true c.reach-to.ensures c.loop-done.invariant.0
      (sym c.has.ensures ∙ c.if-has.false) c.read_part.ensures.before c.read_part.ensures.behind
      c.in-Ok.ensures.bytes
      c.read_part.ensures.goes c.read_part.ensures.stays c.in-Ok.ensures.does
      (c.in-Ok.ensures.cause.ends c.in-Ok.end refl),
  c.read_part.ensures.length ∙ c.loop-done.invariant.1,
)

pub returns-clause-bytes : goal.returns-clause-bytes
returns-clause-bytes g c =
    reading_bytes g.D.BlockDev.does g.D.BlockDev.shown c.args.block c.args.first c.args.buffer.now
    c.loop-done.buffer
    (listed_counts c.args.bad.now) c.loop-done.done c.loop-done.from c.args.lower.now c.args.now
    c.loop-done.lower c.loop-done.end c.requires.some
    (let some = c.requires.range.some in let whole = c.requires.range.whole in
    omega (arith, some, whole))
    c.loop-done.invariant.1 (let whole = c.requires.range.whole in omega (arith, whole))
    (let low = c.loop-done.auto.done-end in let past = c.loop-done-test.false in omega arith)
    c.loop-done.invariant.0
