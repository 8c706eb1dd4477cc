use Rattle.std.proofs.Common.{[], refl, arith}
use Rattle.pending.proofs.HoldsLaws.{none-at}
use Rattle.pending.proofs.TableLaws.{nothing-cut, open-free, open-grown, shown-grown}
use Rattle.pending.proofs.CallLaws.{first-row}
use Rattle.pending.proofs.chains.rows.open_row.Goals as goal

pub returns-in-Some-clause-opened : goal.returns-in-Some-clause-opened
returns-in-Some-clause-opened g c = λ chains t.
    let first = c.in-Some.ensures.first in
    let row = c.in-Some.row in
    let rest = first-row t.holds 0 first.0 row first.1 first.2 in
    open-free t c.take_first.new.links.next.items c.take_first.new.links.lasts.items row rest.0
    rest.1
    (c.in-Some.ensures.holds [] chains t.holds) c.take_first.ensures.changes.rows
    c.take_first.ensures.changes.chains

pub returns-in-None-clause-opened : goal.returns-in-None-clause-opened
returns-in-None-clause-opened g c = grind (arith, nothing-cut, none-at, open-grown)

pub returns-in-None-clause-shown : goal.returns-in-None-clause-shown
returns-in-None-clause-shown g c = λ chains t.
    let none = c.in-None.ensures.none refl in
    let cut = nothing-cut chains 0 (none-at t.holds 0 none.0) in
    rw (c.push_reserved.ensures.items, cut) (shown-grown t)
