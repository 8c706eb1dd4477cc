use Rattle.std.proofs.Common.{ℕ, List, Option, length, ◌/◌, subst}
use Rattle.bio.specs.Content.{sector_of}
use Rattle.judge.specs.Accounts.{first_bytes, first_on}
use Rattle.judge.specs.inside.{IsVerdictOf}
use Rattle.judge.proofs.AccountVerdict.{judged}
use Rattle.judge.proofs.accounts.Account.verdict.Goals as goal

pub returns : goal.returns
returns c events lawful told =
    let image = c.args.image.now in
    let first = first_on c.args.first (length image) in
    let account = c.args.self.now in
    let Last = λ (last : List (Option ℕ)).
    IsVerdictOf c.deref.result.now last first (sector_of image) (length image / 512)
    c.lowest_failing.result in
    let Found = λ (held : List (Option ℕ)).
    IsVerdictOf held account.last.items first (sector_of image) (length image / 512)
    c.lowest_failing.result in
    judged events (first_bytes c.args.first (length image)) image account c.lowest_failing.result
    c.requires.whole c.requires.same lawful told
    (subst Found c.deref.ensures.value
    (subst Last c.deref-2.ensures.value c.lowest_failing.ensures))
