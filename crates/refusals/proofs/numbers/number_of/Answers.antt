use Rattle.std.proofs.Common.{◌<◌, length, arith, sym}
use Rattle.std.proofs.lemmas.Bool.{eqb-false}
use Rattle.refusals.proofs.WordLemmas.{number_start}
use Rattle.refusals.proofs.numbers.number_of.Goals as goal

pub loop-digit-init : goal.loop-digit-init
loop-digit-init c =
    let filled : 0 < length c.args.word.now =
    omega (arith, eqb-false _ _ (sym c.if-is_empty.ensures)) in
    number_start c.args.word.now filled (omega arith)
