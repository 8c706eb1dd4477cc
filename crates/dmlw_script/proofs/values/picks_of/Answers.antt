use Rattle.std.proofs.Common.{ap, sym, ◌∙◌, arith}
use Rattle.std.specs.Prelude.{option_copied}
use Rattle.refusals.specs.Words.{number_of as the_number}
use Rattle.dmlw_script.proofs.WordLaws.{left_behind, no_pick, pick_read}
use Rattle.dmlw_script.proofs.values.picks_of.Goals as goal

pub returns-in-None-clause-none : goal.returns-in-None-clause-none
returns-in-None-clause-none c = grind (arith, no_pick)

pub loop-rest-smaller : goal.loop-rest-smaller
loop-rest-smaller c = grind (arith, left_behind)

pub loop-rest-preserved : goal.loop-rest-preserved
loop-rest-preserved c =
    let front = c.loop-rest.picks.items in
    grind (arith, c.in_ok-push-in-Some-number_of.ensures.items)
    ∙ pick_read front c.in-Some.words.now c.in-Some-number_of.pick (option_copied c.cut.result.1) _
    (sym c.cut.ensures.after_byte)
    (ap the_number (sym c.cut.ensures.before_byte) ∙ sym c.number_of.ensures
    ∙ c.in-Some-number_of.is)
    (grind (arith, c.in-Some.is)
    ∙ c.loop-rest.invariant)
