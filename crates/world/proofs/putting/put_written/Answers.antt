use Rattle.std.proofs.Common.{◌/◌, ◌*◌, length, drop, ap, ◌∙◌, arith, length-drop}
use Rattle.std.proofs.lemmas.List.{length-take-le}
use Rattle.bio.specs.Content.{sector_of, writes}
use Rattle.world.proofs.Lists.{put_outside, range_value}
use Rattle.world.proofs.putting.put_written.Goals as goal

pub put_bytes-requires-clause-part : goal.put_bytes-requires-clause-part
put_bytes-requires-clause-part c =
    let bytes = c.args.bytes.now in
    let placed = c.in-Some.ensures in
    let within = placed.1 in
    let rest = length-drop (512 * c.in-Some.place) bytes in
    ap length c.sector_bytes.ensures
    ∙ length-take-le 512 (drop (512 * c.in-Some.place) bytes) (omega arith)

pub returns-in-Some : goal.returns-in-Some
returns-in-Some c =
    let bytes = c.args.bytes.now in
    let placed = c.in-Some.ensures in
    c.put_bytes.ensures (writes c.args.first bytes)
    (range_value c.args.first (length bytes / 512)
    (sector_of bytes) c.args.sector c.in-Some.place c.sector_bytes.result.now placed.0 placed.1
    c.sector_bytes.ensures)

pub returns-in-None : goal.returns-in-None
returns-in-None c =
    put_outside c.args.first (length c.args.bytes.now / 512)
    (sector_of c.args.bytes.now) c.args.sector c.args.image.now c.in-None.ensures
