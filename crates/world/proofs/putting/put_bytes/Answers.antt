use Rattle.std.proofs.Common.{length, refl, ap, ◌∙◌}
use Rattle.world.proofs.Lists.{is_put}
use Rattle.world.proofs.putting.put_bytes.Goals as goal

pub returns : goal.returns
returns c patch value =
    let same = c.copy_from_slice.ensures.after in
    is_put patch c.args.sector c.args.image.now c.copy_from_slice.new.self _ c.requires.within
    (ap length same ∙ c.requires.part) refl
    (value ∙ rw (← same))
