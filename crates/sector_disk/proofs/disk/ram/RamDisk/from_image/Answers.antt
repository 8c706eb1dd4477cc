use Rattle.std.proofs.Common.{◌/◌, ap, refl}
use Rattle.sector_disk.proofs.RamLaw.{image_held}
use Rattle.sector_disk.proofs.disk.ram.RamDisk.from_image.Goals as goal

pub returns : goal.returns
returns c = record {
  size = ap (λ n. n / 512) c.len.ensures;
  content =
      image_held c.args.image c.new-calls.result.items c.push.new.self.items
      c.in_ok-vec.field-0.items _ _ c.new-calls.ensures.items c.in_ok-push.ensures.items refl refl
      (c.in_ok-vec.ensures.items_if_clones_equal (λ y same. same));
  faults = refl;
}
