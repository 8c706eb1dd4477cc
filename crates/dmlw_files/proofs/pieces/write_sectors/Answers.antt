use Rattle.std.proofs.Common.{◌∙◌, ◌+◌, ◌*◌, ◌/◌, arith, length, refl, take, ◌≡◌}
use Rattle.std.proofs.lemmas.List.{length-take}
use Rattle.std.specs.Prelude.{min}
use Rattle.sector_disk.specs.DiskView.{shown_of}
use Rattle.dmlw_files.proofs.Ranges.{written_more}
use Rattle.dmlw_files.proofs.pieces.write_sectors.Goals as goal

pub loop-number-preserved : goal.loop-number-preserved
loop-number-preserved g c =
    let before = c.loop-number.invariant in
    let long = length-take (c.min-count.result * 512) c.loop-number.buffer in
    let held = c.loop-number.auto.buffer in
    let all : length (take (c.min-count.result * 512) c.loop-number.buffer) / 512
    ≡ c.min-count.result = omega (arith, long, held) in (
      c.write_piece.ensures.size ∙ before.0,
      c.write_piece.ensures.content ∙ before.1,
      written_more (shown_of c.args.disk.now).content
          (shown_of c.loop-number.disk).content _ _ _ _
          (min (c.loop-number.number * 128) c.args.sectors)
          (c.loop-number.number * 128)
          (length (take (c.min-count.result * 512) c.loop-number.buffer) / 512)
          c.min-count.result (min ((c.loop-number.number + 1) * 128) c.args.sectors)
          before.2 (omega arith) (omega arith) c.in_ok-write_piece.ensures.written
          refl before.1 all,
    )
