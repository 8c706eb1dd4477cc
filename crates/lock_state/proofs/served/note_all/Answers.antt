use Rattle.std.proofs.Common.{◌≡◌, ◌+◌, ◌<◌, suc, length, take, sym, ◌∙◌, arith}
use Rattle.bio.specs.PlaceLaws.{slice_get-of_get_or}
use Rattle.lock_state.proofs.Lists.{take_next}
use Rattle.lock_state.proofs.SeatList.{all_tell-push, take_length, take_past}
use Rattle.lock_state.proofs.served.note_all.Goals as goal

pub loop-place-preserved : goal.loop-place-preserved
loop-place-preserved c =
    let calls = c.args.calls.now in
    let place = c.loop-place.place in
    let call = c.index-calls-place.result in
    let within : place < length calls = omega arith in
    let there = slice_get-of_get_or calls place call within c.index-calls-place.is in
    let next : place + 1 ≡ suc place = omega arith in (
      rw (take_next calls place (place + 1) call next there) (all_tell-push (take place calls)
          call c.loop-place.notes c.note.new.notes place (sym (take_length calls place (omega
          arith))) c.loop-place.invariant.0 c.note.ensures.noted),
      c.note.ensures.size ∙ c.loop-place.invariant.1,
    )

pub returns-clause-told : goal.returns-clause-told
returns-clause-told c =
    rw (← take_past c.args.calls.now c.loop-place.place (omega arith)) c.loop-place.invariant.0
