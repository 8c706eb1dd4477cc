use Rattle.std.proofs.Common.{List, ap, subst, ◌∙◌}
use Rattle.bio.specs.declared.request.Bio.{Bio}
use Rattle.lock_state.specs.Comparison.{Receipt}
use Rattle.script_runner.specs.SeatRuns.{and_kept}
use Rattle.shared.specs.SeatCalls.{Answered}
use Rattle.script_runner.proofs.Seats.{makes_request}
use Rattle.script_runner.proofs.seat_work.Work.submit.Goals as goal

pub returns : goal.returns
returns g c =
    let old = c.self.inside.seat in
    let suits = c.in-Ok.ensures.suits g.R.Run.sector_bytes g.R.Run.sectors c.requires in
    let tested =
    rw (← c.in-Ok.ensures.made) at suits in
    let answered =
    subst (λ (bio : Bio). Answered old bio c.submit-answer.result c.submit-answer.new.seat)
    c.in-Ok.ensures.made
    (c.submit-answer.ensures.answered tested) in
    let kept =
    c.keep.ensures ∙ ap (λ (receipts : List Receipt). and_kept receipts c.receipt_of.result)
    c.reserve.ensures.items in
    record {
      made =
          makes_request c.args.submission _ c.args.self.now c.submit-answer.new.seat
          c.submit-answer.result c.of_request-outcome.result c.receipt_of.result
          c.keep.new.receipts.items c.self.view_is answered c.of_request-outcome.ensures
          c.receipt_of.ensures kept;
    }
