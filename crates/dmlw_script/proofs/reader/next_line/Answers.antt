use Rattle.std.proofs.Common.{[], length, arith, sym, ◌≡◌, ◌<◌, ap, ◌∙◌}
use Rattle.std.proofs.lemmas.Bool.{eqb-false}
use Rattle.dmlw_script.proofs.WordLaws.{first_line_of, after_line}
use Rattle.dmlw_script.proofs.reader.next_line.Goals as goal
use Rattle.std.specs.Prelude.{unwrap_or, option_copied}

pub returns-in-Some : goal.returns-in-Some
returns-in-Some c =
    let filled : 0 < length c.args.text.now =
    omega (arith, eqb-false _ _ (sym c.if-is_empty.ensures)) in
    let after : c.in-Some.after.now ≡ after_line c.args.text.now =
    ap (λ o. unwrap_or (option_copied o) []) (sym c.in-Some.is)
    ∙ ap (λ o. unwrap_or o []) c.cut.ensures.after_byte in
    rw (after, c.cut.ensures.before_byte) (first_line_of c.args.text.now filled)

pub returns-in-None : goal.returns-in-None
returns-in-None c = grind (arith, eqb-false, first_line_of)
