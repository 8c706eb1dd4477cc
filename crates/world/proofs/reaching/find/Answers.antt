use Rattle.std.proofs.Common.{◌/◌, List, length, take, ap, ◌∙◌, subst, arith}
use Rattle.bio.specs.Content.{sector_of}
use Rattle.bio.specs.declared.event.CoreEvent.{CoreEvent}
use Rattle.bio.specs.PlaceLaws.{lawful-take}
use Rattle.judge.specs.declared.verdict.Verdict.{Verdict}
use Rattle.judge.specs.Accounts.{IsAccount, first_on, place_at}
use Rattle.judge.specs.Verdicts.{IsVerdict}
use Rattle.world.specs.inside.{plan, sure_by}
use Rattle.world.proofs.PossibleChoice.{account_leaves, lawful_ends}
use Rattle.world.proofs.reaching.find.Goals as goal

pub run_of-requires-clause-within : goal.run_of-requires-clause-within
run_of-requires-clause-within c = grind (arith, lawful_ends, lawful-take)

pub returns-in-Yes : goal.returns-in-Yes
returns-in-Yes c =
    let events = c.args.events.now in
    let image = sector_of c.args.image.now in
    let first = first_on c.args.first (length c.args.image.now) in
    let sectors = length c.args.image.now / 512 in
    let account = c.in_ok-account.account in
    let Told = λ (es : List CoreEvent). IsAccount es image sectors account in
    let Judged =
    λ (verdict : Verdict). IsVerdict sectors (take c.args.moment events) first image verdict in
    let told = subst Told c.beginning-events.ensures c.in_ok-account.ensures in
    let lawful = lawful-take sectors events c.args.moment c.requires.lawful in
    account_leaves sectors (take c.args.moment events) first image account
    c.in_ok-run_of-in-Yes.field-0.items lawful
    (subst Judged c.in-Yes.is (c.verdict.ensures (take c.args.moment events) lawful told)) told
    (c.in_ok-run_of-in-Yes.ensures
    ∙ ap (λ (es : List CoreEvent). plan es (place_at account.held.items)
    (sure_by account.last.items)) c.beginning-events.ensures)

pub returns : goal.returns
returns c = grind (arith, lawful-take)
