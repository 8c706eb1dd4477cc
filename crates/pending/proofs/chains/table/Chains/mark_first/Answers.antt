use Rattle.std.proofs.Common.{ap, sym, ◌∙◌}
use Rattle.pending.proofs.CallLaws.{first-row}
use Rattle.pending.proofs.HoldsLaws.{last-is-row}
use Rattle.pending.proofs.MarkLaws.{marks-set}
use Rattle.pending.proofs.chains.table.Chains.mark_first.Goals as goal

pub next-row-requires : goal.next-row-requires
next-row-requires g c =
    last-is-row (c.self.invariant.sound).table.holds 1 c.in-Some.last
    (sym c.seen_last.ensures ∙ c.in-Some.is)

pub invariant_of-self : goal.invariant_of-self
invariant_of-self g c =
    let first =
    first-row (c.self.invariant.sound).table.holds 1 c.in-Some.last c.next-row.result
    (sym c.seen_last.ensures ∙ c.in-Some.is) c.next-row.ensures in
    record {
      sound = c.self.invariant.sound;
      known =
          marks-set c.next-row.result first.0
          (ap (λ ms. ms.items) c.note.ensures ∙ c.set.ensures) c.self.invariant.known first.1;
    }
