use Rattle.std.proofs.Common.{◌∙◌, sym}
use Rattle.script_runner.proofs.Seats.{does, skips}
use Rattle.script_runner.proofs.seat_work.Work.run_line.Goals as goal

pub returns-then-not-is_own : goal.returns-then-not-is_own
returns-then-not-is_own g c =
    skips c.args.line.now _ c.args.self.now c.self.view_is
    (sym c.is_own.ensures ∙ c.if-not-is_own.true)

pub returns : goal.returns
returns g c =
    does c.args.line.now _ c.args.self.now _ _ c.count.new.self c.make-outcome.result c.self.view_is
    c.self-2.view_is
    (sym c.is_own.ensures ∙ c.if-not-is_own.false) c.make-outcome.ensures.made c.count.ensures
