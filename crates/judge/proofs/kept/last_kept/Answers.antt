use Rattle.std.proofs.Common.{◌≡◌, ℕ, suc, ◌+◌, subst, arith}
use Rattle.judge.specs.inside.{AreLastKept}
use Rattle.bio.specs.PlaceLaws.{slice_get-of_get_or}
use Rattle.judge.proofs.HeldValues.{last_kept_durable, last_kept_other}
use Rattle.judge.proofs.kept.last_kept.Goals as goal
use Rattle.judge.proofs.kept.last_kept.Goals.{then-is_durable, else-is_durable}

pub loop-place-preserved : goal.loop-place-preserved
loop-place-preserved c =
    let events = c.args.events.now in
    let place = c.loop-place.place in
    let before = c.loop-place.invariant in
    let event = c.index-events-place.result in
    let next : suc place ≡ place + 1 = omega arith in
    let Until = λ (n : ℕ). AreLastKept events c.args.sectors n c.if-is_durable.last.items in
    subst Until next (elim c.if-is_durable.branch [
      | then-is_durable w ↦
          grind (arith, last_kept_durable, slice_get-of_get_or)
      | else-is_durable w ↦
          grind (arith, last_kept_other)
    ])
