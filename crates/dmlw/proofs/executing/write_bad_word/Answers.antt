use Rattle.std.proofs.Common.{List, ℕ, ◌++◌, subst}
use Rattle.std.specs.Prelude.{codes}
use Rattle.std.specs.Io.KnownBytes.{Appends}
use Rattle.script_runner.specs.CallLaws.{appends_kept}
use Rattle.dmlw.specs.Commands.{bad_word_text}
use Rattle.dmlw.proofs.executing.write_bad_word.Goals as goal

pub returns : goal.returns
returns g c =
    let old = g.E.Write.contents c.args.err.now in
    let mid = g.E.Write.contents c.writeln.new.self in
    let new = g.E.Write.contents c.flush.new.self in
    appends_kept old mid new (bad_word_text c.args.flaw c.args.word.now)
    (subst (λ (forms : List ℕ). Appends old mid
    (codes "error: invalid value '"
    ++ (c.args.word.now ++ (codes "' for " ++ (forms ++ codes "\n")))))
    c.forms-forms.ensures c.in_ok-writeln.ensures.bytes)
    c.flush.ensures.bytes
