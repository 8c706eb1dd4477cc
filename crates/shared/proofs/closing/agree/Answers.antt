use Rattle.std.proofs.Common.{rules}
use Rattle.shared.proofs.ClosedLog.{agree_by}
use Rattle.shared.proofs.closing.agree.Goals as goal

pub returns-clause-agrees : goal.returns-clause-agrees
returns-clause-agrees g c =
    agree_by _ c.args.log.now _ _ _ _ _ _ _ _ _ _ _ _ _ _ c.end-end.ensures c.placed.ensures.items
    c.settled.ensures c.placed-2.ensures.items c.placed-3.ensures.items c.done.ensures.calls
    c.has_all.ensures.own c.are_named.ensures c.has_taken.ensures c.has_more.ensures
    c.is_served.ensures (search rules) (search rules) (search rules) (search rules)
