use Rattle.std.proofs.Common.{◌≡◌, ◌∙◌, ℕ, ◌≤◌, List, [], Some, ap, arith, length, replicate, sym, take}
use Rattle.std.specs.Prelude.{slice_get}
use Rattle.std.proofs.lemmas.List.{take-replicate}
use Rattle.std.proofs.lemmas.Option.{get_or_from_slice_get, slice_get-get_or}
use Rattle.std.proofs.lemmas.Result.{IfOk-weaker}
use Rattle.script_runner.proofs.write_data.first_of.Goals as goal

prefix : (row : List ℕ) (count byte : ℕ) → row ≡ replicate (length row) byte → count ≤ length row
    → take count row ≡ replicate count byte
prefix row count byte filled long =
    ap (take count) filled ∙ take-replicate count (length row) byte long

pub returns : goal.returns
returns c =
    let rows = c.args.rows.now in
    let row = c.index-rows-byte.result in
    let there : slice_get rows c.args.byte ≡ Some row =
    slice_get-get_or rows c.args.byte row c.requires.row.within ∙ ap Some (sym c.index-rows-byte.is) in
    let size = ap length (get_or_from_slice_get rows c.args.byte row [] there) in
    let long = c.requires.row.long in
    IfOk-weaker c.prefix.result _ _
    (λ bytes same. same ∙ prefix row c.args.count c.args.byte
    (c.requires.filled c.args.byte row there) (omega (arith, size, long))) c.prefix.ensures
