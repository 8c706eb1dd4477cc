use Rattle.std.proofs.Common.{◌+◌, ◌%◌, ◌/◌, ◌++◌, ◌∷◌, [], decimal, ap, sym, ◌∙◌, append_assoc}
use Rattle.std.proofs.Common.{arith}
use Rattle.std.proofs.lemmas.Fmt.{decimal_step}
use Rattle.std.proofs.lemmas.Result.{IfOk-equal}
use Rattle.refusals.proofs.numbers.+push_number.Goals as goal

pub returns : goal.returns
returns t c =
    let old = c.args.out.now.items in
    let last = (48 + c.args.number % 10) ∷ [] in
    let step = decimal_step c.args.number (omega arith) (omega arith) in
    IfOk-equal _ _ _ _ c.push_digit-2.ensures
    (ap (λ x. x ++ last) c.in_ok-push_number.ensures
    ∙ append_assoc old (decimal (c.args.number / 10)) last ∙ ap (λ x. old ++ x) (sym step))
