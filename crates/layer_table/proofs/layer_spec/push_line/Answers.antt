use Rattle.std.proofs.Common.{◌++◌, ◌∷◌, [], decimal, ap, ◌∙◌}
use Rattle.std.proofs.lemmas.Result.{IfOk-equal}
use Rattle.layer_table.specs.TableLines.{line_joined}
use Rattle.layer_table.specs.TableLines.{behind_spaces, target_words}
use Rattle.layer_table.proofs.layer_spec.push_line.Goals as goal

pub returns : goal.returns
returns c =
    let spec = c.args.spec.now in
    let behind = behind_spaces (target_words spec.offset spec.target) in
    IfOk-equal _ _ _ _ c.push_target.ensures
    (ap (λ x. x ++ behind) (c.in_ok-push_value.ensures
    ∙ ap (λ x. x ++ behind_spaces (decimal spec.length ∷ [])) c.in_ok-push.ensures.items)
    ∙ line_joined c.args.out.now.items (decimal spec.length) (target_words spec.offset spec.target))
