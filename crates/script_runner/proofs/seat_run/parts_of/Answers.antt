use Rattle.std.proofs.Common.{ap, ◌∙◌}
use Rattle.script_runner.specs.inside.{PlayerView}
use Rattle.script_runner.proofs.SeatRunSteps.{joined_next, mapped_next}
use Rattle.script_runner.proofs.seat_run.parts_of.Goals as goal

pub loop-work-preserved : goal.loop-work-preserved
loop-work-preserved g c =
    let before = c.loop-work.invariant in
    let players = c.loop-work.yielded in
    let player = c.in-Some.work in
    let view = c.work.view_is in (
      tt,
      tt,
      mapped_next (λ (p : PlayerView). p.part) players player c.loop-work.seats.items
          c.push-in-loop-work.new.self.items _ c.in_ok-push-2.ensures.items before.2
          (ap (λ (p : PlayerView). p.part) view),
      mapped_next (λ (p : PlayerView). p.tally) players player c.loop-work.tallies.items
          c.push.new.self.items _ c.in_ok-push.ensures.items before.3
          (ap (λ (p : PlayerView). p.tally) view),
      c.in_ok-append.ensures.items ∙ rw (ap (λ (p : PlayerView). p.receipts) view) (joined_next
          players player c.loop-work.receipts.items before.4),
    )
