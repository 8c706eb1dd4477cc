use Rattle.std.proofs.Common.{◌≡◌, ◌∙◌, ap, length, rules, take, replicate}
use Rattle.std.proofs.lemmas.List.{take-replicate}
use Rattle.dmlw_files.proofs.holes.Holes.skips.Goals as goal

pub returns-then-bytes-len : goal.returns-then-bytes-len
returns-then-bytes-len g c = λ same.
    let zeroes = c.args.self.now.zeroes.items in
    let count = length c.args.bytes.now in
    let all : take count zeroes ≡ replicate count 0 =
    ap (take count) c.args.self.now.blank ∙ take-replicate count (length zeroes) 0 (search rules) in
    let equal : c.args.bytes.now ≡ take count c.deref.result.now = search rules in
    equal ∙ ap (take count) c.deref.ensures.value ∙ all
