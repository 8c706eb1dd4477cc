use Rattle.std.proofs.Common.{ℕ, ◌+◌, ◌++◌, Option, List, ap, sym, ◌∙◌, arith}
use Rattle.std.specs.Prelude.{slice_get}
use Rattle.bio.specs.PlaceLaws.{slice_get-of_get_or}
use Rattle.bio.specs.declared.event.CoreEvent.{CoreEvent}
use Rattle.judge.specs.Accounts.{place_at}
use Rattle.world.specs.declared.step.Step.{Step}
use Rattle.world.specs.inside.{steps_of, sure_by}
use Rattle.world.proofs.Lists.{grown}
use Rattle.world.proofs.reaching.follow.Goals as goal

pub loop-place-preserved : goal.loop-place-preserved
loop-place-preserved c =
    let events = c.args.events.now in
    let account = c.args.account.now in
    let place = c.loop-place.place in
    let run = c.loop-place.run.items in
    let steps : ℕ → Option CoreEvent → List Step =
    steps_of events (place_at account.held.items) (sure_by account.last.items) in
    grown (λ k. steps k (slice_get events k)) place
    (place + 1) c.args.run.now.items run c.take_event.new.run.items
    (omega arith) c.loop-place.invariant
    (c.in_ok-take_event.ensures
    ∙ ap (λ event. run ++ steps place event)
    (sym (slice_get-of_get_or events place c.index-events-place.result c.loop-place-test.true
    c.index-events-place.is)))
