-- The state of chains after a `&mut` to one of their values was returned.
use Rattle.std.specs.Prelude.{ℕ}
use Rattle.std.specs.Borrow.{Fml, Lends, MutBor, RattleType}
use Rattle.pending.specs.ChainsView.{ShownChains, with_first}
use Rattle.pending.specs.contracts.chains.table.Chains.{the_row}

-- What contracts see after the first value of `chain` was replaced by `value`.
abbrev pub with_value : {T : Type 0} → ShownChains T → ℕ → T → ShownChains T
with_value shown chain value = record shown { chains = with_first shown.chains chain value }

-- After the borrow ends, the first value of `chain` is what was written last through the reference.
abbrev pub lends_first : (T : RattleType) → MutBor (ShownChains T.Denot) → ℕ → MutBor T.Denot → Fml
lends_first T chains chain reference =
    Lends (the_row T) T chains reference (with_value chains.now chain)
