use Rattle.std.proofs.Common.{◌++◌, length, ap, sym, ◌∙◌}
use Rattle.std.proofs.lemmas.Bool.{ltb-false}
use Rattle.std.proofs.lemmas.List.{append-nil}
use Rattle.std.proofs.lemmas.Option.{slice_get_past}
use Rattle.judge.specs.Accounts.{place_at}
use Rattle.world.specs.inside.{by_sector, lands_late}
use Rattle.world.proofs.reaching.land_at.Goals as goal

pub returns-in-None : goal.returns-in-None
returns-in-None c =
    let run = c.args.run.now.items in
    let events = c.args.events.now in
    let none =
    slice_get_past events c.args.id
    (ltb-false c.args.id (length events) (sym c.in-None.ensures.lookup.0)) in
    sym (append-nil run) ∙ ap
    (λ event. run ++ by_sector
    (lands_late (place_at c.args.account.now.held.items) c.args.id) event) (sym none)
