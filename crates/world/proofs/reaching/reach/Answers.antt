use Rattle.std.proofs.Common.{◌/◌, length, subst, take}
use Rattle.bio.specs.Content.{sector_of}
use Rattle.judge.specs.Accounts.{first_on}
use Rattle.world.specs.declared.reaching.Finding.{Finding}
use Rattle.world.specs.Machine.{IsFinding}
use Rattle.world.proofs.RunIsPossible.{reachable_possible}
use Rattle.world.proofs.reaching.reach.Goals as goal

pub returns-in-RuledOut : goal.returns-in-RuledOut
returns-in-RuledOut c = λ reached.
    let events = take c.args.moment c.args.events.now in
    let image = sector_of c.args.image.now in
    let first = first_on c.args.first (length c.args.image.now) in
    let Found =
    λ (finding : Finding). IsFinding
    (length c.args.image.now / 512) events first image finding in
    let found = subst Found c.in-RuledOut.is c.in_ok-run.ensures in
    found.fails (reachable_possible events first image reached c.in-RuledOut.sector)
