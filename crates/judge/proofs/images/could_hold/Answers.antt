use Rattle.std.proofs.Common.{List, length, ◌/◌, take, subst}
use Rattle.bio.specs.Content.{sector_of}
use Rattle.bio.specs.declared.event.CoreEvent.{CoreEvent}
use Rattle.bio.specs.PlaceLaws.{lawful-take}
use Rattle.judge.specs.Accounts.{IsAccount}
use Rattle.judge.proofs.images.could_hold.Goals as goal

pub returns : goal.returns
returns c =
    let events = c.args.events.now in
    let image = c.args.image.now in
    let sectors = length image / 512 in
    let Told = λ (es : List CoreEvent). IsAccount es (sector_of image) sectors c.in_ok-of.field-0 in
    c.verdict.ensures (take c.args.moment events)
    (lawful-take sectors events c.args.moment c.requires.lawful)
    (subst Told c.beginning-events.ensures c.in_ok-of.ensures)
