use Rattle.std.proofs.Common.{get_or, subst}
use Rattle.std.proofs.lemmas.Option.{slice_get-get_or}
use Rattle.bio.specs.PlaceLaws.{slice_get-within}
use Rattle.lock_state.specs.Comparison.{AgreesWithCalls}
use Rattle.lock_state.proofs.SeatList.{done_as}
use Rattle.lock_state.proofs.served.is_done_as.Goals as goal

pub returns-in-Submit : goal.returns-in-Submit
returns-in-Submit c =
    let calls = c.args.calls.now in
    let place = c.in-Once.place in
    let tells = subst (AgreesWithCalls calls c.args.id) c.in-Once.is c.requires in
    let within = slice_get-within calls place tells.1.call tells.1.there in
    done_as calls c.args.id place c.args.event.now c.in-Submit.bio
    (get_or calls place c.index-calls-place.result) c.same_bio.result tells
    (slice_get-get_or calls place c.index-calls-place.result within) c.in-Submit.is
    c.same_bio.ensures
