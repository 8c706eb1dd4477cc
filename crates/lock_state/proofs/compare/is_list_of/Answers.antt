use Rattle.std.proofs.Common.{◌≡◌, ◌+◌, ◌<◌, length, suc, sym, subst, arith, None}
use Rattle.std.proofs.lemmas.Option.{slice_get-get_or}
use Rattle.bio.specs.PlaceLaws.{slice_get-of_get_or}
use Rattle.bio.specs.declared.event.CoreEvent.TheVariants.{Close}
use Rattle.lock_state.proofs.SeatList.{Matched, matched-other, matched-own, unmatched}
use Rattle.lock_state.proofs.compare.is_list_of.Goals as goal
use Rattle.lock_state.proofs.compare.is_list_of.Goals.{then-is_seat+else-not-is_at, else-is_seat}

pub returns-then-not-is_at : goal.returns-then-not-is_at
returns-then-not-is_at c =
    let place = c.loop-place.place in
    let within : place < length c.args.events.now = omega arith in
    let event =
    slice_get-of_get_or c.args.events.now place c.index-events-place.result within
    c.index-events-place.is in
    let name = slice_get-get_or c.args.by.now place None (omega (arith, c.requires)) in
    unmatched c.args.events.now c.args.by.now c.args.seat c.args.list.now place c.loop-place.found _
    _ event name (sym c.if-is_seat.ensures) c.if-not-is_at.ensures c.loop-place.invariant

pub loop-place-preserved : goal.loop-place-preserved
loop-place-preserved c =
    let place = c.loop-place.place in
    let within : place < length c.args.events.now = omega arith in
    let name = slice_get-get_or c.args.by.now place None (omega (arith, c.requires)) in
    let next : place + 1 ≡ suc place = omega arith in
    elim c.if-is_seat.branch [
      | then-is_seat+else-not-is_at w ↦
          let event =
          slice_get-of_get_or c.args.events.now place w.index-events-place.result within
          w.index-events-place.is in
          let more : c.if-is_seat.found ≡ suc c.loop-place.found = omega (arith, w.found-is) in
          matched-own c.args.events.now c.args.by.now c.args.seat c.args.list.now place _
          c.loop-place.found c.if-is_seat.found _ _ event name
          (sym w.if-is_seat.ensures) next more w.if-not-is_at.ensures c.loop-place.invariant
      | else-is_seat w ↦
          subst (Matched c.args.events.now c.args.by.now c.args.seat c.args.list.now (place + 1))
          (sym w.found-is)
          (matched-other c.args.events.now c.args.by.now c.args.seat c.args.list.now place _
          c.loop-place.found _ _ (slice_get-get_or c.args.events.now place Close within) name
          (sym w.if-is_seat.ensures) next c.loop-place.invariant)
    ]
