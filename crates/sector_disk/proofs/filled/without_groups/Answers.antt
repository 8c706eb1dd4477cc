use Rattle.std.proofs.Common.{◌≡◌, ◌∙◌, ℕ, ◌+◌, ◌-◌, ◌≤◌, List, arith, drop, length, replicate, sym}
use Rattle.std.specs.Prelude.{slice_range}
use Rattle.std.proofs.lemmas.List.{replicate-append-replicate}
use Rattle.std.specs.Cmp.Lexicographic.{same_text}
use Rattle.std.proofs.lemmas.List.Folds.{drop_split}
use Rattle.sector_disk.proofs.filled.without_groups.Goals as goal

more : (bytes : List ℕ) (n end fill : ℕ) → n ≤ end → end ≤ length bytes
    → slice_range bytes (end - n) end ≡ replicate n fill
    → drop end bytes ≡ replicate (length bytes - end) fill
    → drop (end - n) bytes ≡ replicate (length bytes - (end - n)) fill
more bytes n end fill few within group rest =
    let count : n + (length bytes - end) ≡ length bytes - (end - n) = omega arith in
    let joined = replicate-append-replicate n (length bytes - end) fill in
    let parts = drop_split bytes (end - n) end (omega arith) in
    cc

pub loop-end-preserved : goal.loop-end-preserved
loop-end-preserved g c = (
  omega arith,
  more c.args.bytes.now g.row.N c.loop-end.end c.args.fill (omega arith)
      c.loop-end.invariant.0
      (same_text _ _ (sym c.if-eq.true ∙ c.eq.ensures) ∙ c.as_slice.ensures)
      c.loop-end.invariant.1,
)
