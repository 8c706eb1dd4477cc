use Rattle.std.proofs.Common.{◌∙◌}
use Rattle.script_runner.proofs.Seats.{line_is_text, makes_mark}
use Rattle.script_runner.proofs.seat_work.Work.mark.Goals as goal

pub returns : goal.returns
returns g c =
    let kept =
    c.keep.ensures ∙ rw c.reserve.ensures.items in
    record {
      made =
          makes_mark c.args.text.now _ c.args.self.now c.mark-answer.new.seat c.mark-answer.result
          c.of_mark-outcome.result c.mark_receipt.result
          c.keep.new.receipts.items c.self.view_is
          (c.mark-answer.ensures.marked (line_is_text c.args.text.now c.requires))
          c.of_mark-outcome.ensures c.mark_receipt.ensures kept;
    }
