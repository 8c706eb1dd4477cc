use Rattle.std.proofs.Common.{◌≡◌, ◌+◌, ◌-◌, length, take, drop, Some, take_all, length-drop, arith}
use Rattle.std.proofs.Common.{sym, ap, ◌∙◌}
use Rattle.refusals.proofs.WordLemmas.{cut_some, cut_none}
use Rattle.refusals.proofs.cutting.cut.Goals as goal

pub returns-in-Some-clause-before_byte : goal.returns-in-Some-clause-before_byte
returns-in-Some-clause-before_byte c = (cut_some _ _ _ c.in-Some.ensures).1

pub returns-in-Some-clause-after_byte : goal.returns-in-Some-clause-after_byte
returns-in-Some-clause-after_byte c =
    let all : take (length c.args.bytes.now - (c.in-Some.place + 1))
    (drop (c.in-Some.place + 1) c.args.bytes.now) ≡ drop (c.in-Some.place + 1)
    c.args.bytes.now =
    take_all _ _ (omega (arith, length-drop (c.in-Some.place + 1) c.args.bytes.now)) in
    ap Some all ∙ sym (cut_some _ _ _ c.in-Some.ensures).2

pub returns-in-None-clause-before_byte : goal.returns-in-None-clause-before_byte
returns-in-None-clause-before_byte c = (cut_none _ _ c.in-None.ensures).0
