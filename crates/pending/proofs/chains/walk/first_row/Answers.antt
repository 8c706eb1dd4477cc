use Rattle.std.proofs.Common.{sym, ◌∙◌}
use Rattle.pending.proofs.HoldsLaws.{last-is-row}
use Rattle.pending.proofs.chains.walk.first_row.Goals as goal

pub next-requires : goal.next-requires
next-requires c =
    last-is-row c.requires.there.holds c.args.chain c.in-Some.last
    (sym c.seen_last.ensures ∙ c.in-Some.is)
