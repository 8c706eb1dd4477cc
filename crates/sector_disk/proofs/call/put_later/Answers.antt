use Rattle.std.proofs.Common.{◌≡◌, ◌+◌, ◌*◌, ◌∙◌, ap, arith, drop, length, sym, take}
use Rattle.sector_disk.specs.inside.Storage.{place_of, put_over}
use Rattle.sector_disk.proofs.ImageBack.{gather-kept, gather-next, left_first, left_later}
use Rattle.sector_disk.proofs.ImageBack.{length-value_at, rest-next, rest-put}
use Rattle.sector_disk.proofs.call.put_later.Goals as goal
use Rattle.sector_disk.proofs.call.put_later.Goals.{then-place-gt0, else-place-gt0}

pub loop-sector-preserved : goal.loop-sector-preserved
loop-sector-preserved c =
    let later = c.args.later.now in
    let places = c.args.places.now in
    let first = c.args.image.now in
    let sector = c.loop-sector.sector in
    let content = put_over later places first in
    let earlier = c.loop-sector.invariant in
    let kept = c.loop-sector.auto.image in
    let here = c.loop-sector-test.true in
    let from : sector ≡ 0 + sector = omega arith in
    let place = c.place_of-place.ensures in
    elim c.if-place-gt0.branch [
      | then-place-gt0 w ↦
          let later_is = w.if-place-gt0.true in
          let value = w.read_place.new.buffer in
          let read = grind (arith, w.read_place.ensures, place)
          ∙ sym (left_later later first (place_of places sector) sector (omega arith))
          ∙ ap content from in
          let size = ap length w.read_place.ensures ∙ length-value_at later _ sector in (
            gather-next content 0 sector c.loop-sector.image _ value
                (omega arith) size w.image-is read earlier.0,
            ap (drop (512 * (sector + 1))) w.image-is
                ∙ rest-put sector c.loop-sector.image first value (omega arith) size earlier.1,
          )
      | else-place-gt0 w ↦
          grind (arith, take, gather-kept, left_first, drop, rest-next)
    ]
