use Rattle.std.proofs.Common.{ℕ, List, ◌≡◌, ◌+◌, ◌-◌, ◌*◌, ◌∙◌, ap, arith, drop, length}
use Rattle.std.proofs.Common.{length-append, take}
use Rattle.std.proofs.lemmas.List.{length-take}
use Rattle.bio.specs.Content.{sector_of}
use Rattle.sector_disk.proofs.PackedParts.{packed_all, packed_more}
use Rattle.sector_disk.proofs.packed.PackedSectors.from_slice.Goals as goal

pub loop-sector-preserved : goal.loop-sector-preserved
loop-sector-preserved c =
    let image = c.args.bytes.now in
    let sector = c.loop-sector.sector in
    let held = c.loop-sector.held.items in
    let count = c.count_held.result in
    let room : sector * 512 + 512 - sector * 512 ≡ 512 = omega arith in
    let from : sector * 512 ≡ 512 * sector = omega arith in
    let read : List ℕ = take (sector * 512 + 512 - sector * 512) (drop (sector * 512) image) in
    let same : read ≡ sector_of image sector =
    ap (λ n. take n (drop (sector * 512) image)) room ∙ ap (λ n. take 512 (drop n image)) from in
    let few = c.count_held.ensures.within in
    let size = ap length c.in_ok-extend_from_slice.ensures.items
    ∙ length-append held (take count read) in
    rw (c.in_ok-extend_from_slice.ensures.items, c.in_ok-push-2.ensures.items) (
    packed_more image held c.loop-sector.bounds.items (take count read) c.len.result sector
    c.loop-sector.invariant (omega (arith, length-take count read))
    (c.count_held.ensures.filled ∙ same) (omega arith))

pub returns : goal.returns
returns c = grind (arith, packed_all)
