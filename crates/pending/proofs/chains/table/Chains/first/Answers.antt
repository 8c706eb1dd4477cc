use Rattle.std.proofs.Common.{sym, ◌∙◌, arith}
use Rattle.std.proofs.lemmas.List.{get_or_read_under}
use Rattle.pending.proofs.HoldsLaws.{first-is-row, last-is-row}
use Rattle.pending.proofs.CallLaws.{first-row, first-value, row-within}
use Rattle.pending.proofs.chains.table.Chains.first.Goals as goal

pub next-requires : goal.next-requires
next-requires g c =
    last-is-row (c.self.invariant.sound).table.holds c.args.chain c.in_ok-last.last
    (sym c.seen_last.ensures ∙ c.in_ok-last.was)

pub index-requires : goal.index-requires
index-requires g c =
    grind (
      arith,
      first-is-row ((c.self.invariant.sound).table).holds c.args.chain c.in_ok-last.last
          (sym c.seen_last.ensures ∙ c.in_ok-last.was),
    )

pub returns : goal.returns
returns g c =
    grind (
      arith,
      first-row ((c.self.invariant.sound).table).holds c.args.chain c.in_ok-last.last
          c.next.result (sym c.seen_last.ensures ∙ c.in_ok-last.was) c.next.ensures,
      first-value,
      row-within,
      get_or_read_under,
    )
