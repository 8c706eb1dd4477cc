use Rattle.std.proofs.Common.{◌≡◌, true, false, List, [], ◌∷◌, ◌++◌, Ok, sym, ap, ◌∙◌}
use Rattle.std.specs.List.{list_any}
use Rattle.std.proofs.lemmas.Bool.{cond-false, not-true, not-false}
use Rattle.std.proofs.lemmas.List.{length-append}
use Rattle.dmlw_script.specs.declared.script_id.ScriptId.{ScriptId}
use Rattle.dmlw_script.specs.inside.Drafts.{body_of, Body}
use Rattle.dmlw_script.specs.Words.{same_name}
use Rattle.dmlw_script.proofs.DraftLemmas.{flags_submit, with_new_name, with_old_name}
use Rattle.dmlw_script.proofs.draft.BodyReader.name_next.Goals as goal

pub returns-then-not-branch-clause-step : goal.returns-then-not-branch-clause-step
returns-then-not-branch-clause-step c =
    let old : list_any (same_name c.args.name) c.args.self.now.names.keys ≡ true =
    not-false _ (sym c.in_ok-insert.ensures.added ∙ c.if-not-branch.true) in
    with_old_name (body_of c.args.self.now) c.args.name old

new_keys : (c : goal.In_ok-push)
    → c.insert.new.self.keys ≡ c.args.self.now.names.keys ++ c.args.name ∷ []
new_keys c =
    let new : list_any (same_name c.args.name) c.args.self.now.names.keys ≡ false =
    not-true _ (sym c.in_ok-insert.ensures.added ∙ c.if-not-branch.false) in
    c.in_ok-insert.ensures.keys ∙ cond-false _ _ _ new

pub returns-clause-draft : goal.returns-clause-draft
returns-clause-draft c =
    record {
      flags =
          rw (
            new_keys c,
            length-append c.args.self.now.names.keys (c.args.name ∷ []),
            c.in_ok-push.ensures.items,
          ) (flags_submit _ _ _ c.requires.flags);
      in_time = c.requires.in_time;
    }

pub returns-clause-step : goal.returns-clause-step
returns-clause-step c =
    let new : list_any (same_name c.args.name) c.args.self.now.names.keys ≡ false =
    not-true _ (sym c.in_ok-insert.ensures.added ∙ c.if-not-branch.false) in
    let body = λ (names : List ScriptId). let b :
    Body = record { names = names; body = c.args.self.now.commands.items } in b in
    with_new_name (body_of c.args.self.now) c.args.name new
    ∙ ap (λ names. Ok (body names)) (sym (new_keys c))
