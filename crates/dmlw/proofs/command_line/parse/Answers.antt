use Rattle.std.proofs.Common.{◌∙◌, List, map, ap, subst}
use Rattle.std.proofs.lemmas.Result.{IfOk-weaker}
use Rattle.clap.specs.Words.{App, FailsBy, Kinds, Text, fault_of, is_simple, is_simple_and_free}
use Rattle.clap.specs.Words.{subcommand_of}
use Rattle.dmlw.proofs.PlainWords.{is_free_program, is_simple_app}
use Rattle.dmlw.proofs.command_line.parse.Goals as goal

pub returns-clause-entered : goal.returns-clause-entered
returns-clause-entered g c =
    let app_is = c.in_ok-program_command.ensures in
    let words : List Text = map g.S.AsStr.text c.args.words.now in
    IfOk-weaker c.try_get_matches_from.result _ _
    (λ m matches. (matches (ap is_simple app_is ∙ is_simple_app)).1
    ∙ ap (λ (app : App). subcommand_of app words) app_is) c.try_get_matches_from.ensures.matches

pub returns-clause-faults : goal.returns-clause-faults
returns-clause-faults g c =
    let app_is = c.in_ok-program_command.ensures in
    let words : List Text = map g.S.AsStr.text c.args.words.now in
    subst (λ (kinds : Kinds). FailsBy kinds c.try_get_matches_from.result)
    (ap (λ (app : App). fault_of app words) app_is)
    (c.try_get_matches_from.ensures.kinds (ap is_simple_and_free app_is ∙ is_free_program))
