use Rattle.std.proofs.Common.{ℕ, List, ◌≡◌, ◌+◌, ◌*◌, ◌++◌, ◌∙◌, append_assoc, arith, drop, take}
use Rattle.std.proofs.Math.Seq.{take-add}
use Rattle.sector_disk.proofs.packed.PackedSectors.append_to.Goals as goal

more : (old now all : List ℕ) (sector : ℕ) → now ≡ old ++ take (512 * sector) all
    → now ++ take 512 (drop (sector * 512) all) ≡ old ++ take (512 * (sector + 1)) all
more old now all sector earlier =
    let place : sector * 512 ≡ 512 * sector = omega arith in
    let next : 512 * (sector + 1) ≡ 512 * sector + 512 = omega arith in
    let split = take-add (512 * sector) 512 all in
    let joined =
    append_assoc old (take (512 * sector) all) (take 512 (drop (512 * sector) all)) in
    cc

pub loop-sector-preserved : goal.loop-sector-preserved
loop-sector-preserved c =
    c.in_ok-extend_from_slice.ensures.items ∙ rw c.read_sector.ensures (more c.args.to.now.items
    c.loop-sector.to.items c.args.self.now c.loop-sector.sector c.loop-sector.invariant)
