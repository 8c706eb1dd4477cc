use Rattle.std.proofs.Common.{◌∙◌, ◌≤◌, ◌-◌, arith, drop, length, length-drop}
use Rattle.std.proofs.lemmas.List.{take_all}
use Rattle.dmlw.proofs.PlainWords.{explains_of}
use Rattle.dmlw.proofs.command_line.has_explain.Goals as goal

pub returns-in-len1-up : goal.returns-in-len1-up
returns-in-len1-up g c =
    let words = c.args.words.now in
    let whole : length (drop 1 words) ≤ length words - 1 = simp length-drop (omega arith) in
    c.are_explaining.ensures
    ∙ explains_of g.S.AsStr.text words _ (take_all (length words - 1) (drop 1 words) whole)
