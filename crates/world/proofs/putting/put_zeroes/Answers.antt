use Rattle.std.proofs.Common.{replicate}
use Rattle.bio.specs.Content.{discards}
use Rattle.world.proofs.Lists.{put_outside, range_value}
use Rattle.world.proofs.putting.put_zeroes.Goals as goal

pub returns-in-Some : goal.returns-in-Some
returns-in-Some c =
    let placed = c.in-Some.ensures in
    c.put_bytes.ensures (discards c.args.first c.args.count)
    (range_value c.args.first c.args.count
    (λ _. replicate 512 0) c.args.sector c.in-Some.field-0 c.as_slice.result.now placed.0
    placed.1 c.as_slice.ensures)

pub returns-in-None : goal.returns-in-None
returns-in-None c =
    put_outside c.args.first c.args.count
    (λ _. replicate 512 0) c.args.sector c.args.image.now c.in-None.ensures
