use Rattle.std.proofs.Common.{◌-◌, ap, sym, ◌∙◌, arith}
use Rattle.sector_disk.specs.inside.Storage.{is_chain}
use Rattle.sector_disk.proofs.ImageBack.{chain-closed, chain-open}
use Rattle.sector_disk.proofs.choice.count_candidates.Goals as goal

pub returns-then-not-is_open-clause-count : goal.returns-then-not-is_open-clause-count
returns-then-not-is_open-clause-count c count within chain = grind (arith, chain-closed)

pub loop-index-preserved : goal.loop-index-preserved
loop-index-preserved c count chain =
    let before = c.loop-index.invariant count chain in
    let index = c.loop-index.index in
    let next =
    chain-open c.args.calls.now c.args.synced c.args.sector
    (count - index) c.loop-index.place before.1
    (sym c.is_open.ensures ∙ c.if-not-is_open.false) in
    let h = before.0 in
    let more = next.0 in (
      omega arith,
      ap (λ n. is_chain c.args.calls.now c.args.synced c.args.sector n c.before-place.result)
          (omega arith)
          ∙ ap (is_chain c.args.calls.now c.args.synced c.args.sector
          (count - index - 1)) c.before-place.ensures ∙ next.1,
    )
