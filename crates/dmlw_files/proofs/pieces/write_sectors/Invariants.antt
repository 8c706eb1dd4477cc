use Rattle.std.proofs.Common.{◌≡◌, ◌*◌}
use Rattle.std.specs.Prelude.{min}
use Rattle.std.specs.Io.KnownBytes.{Appends}
use Rattle.bio.specs.Content.{gather}
use Rattle.sector_disk.specs.DiskView.{shown_of}
use Rattle.dmlw_files.proofs.pieces.write_sectors.Given as goal

abbrev pub invariant-loop-number : goal.invariant-loop-number
invariant-loop-number g l =
    ((shown_of l.disk).size ≡ (shown_of l.fn.disk).size)
    × ((shown_of l.disk).content ≡ (shown_of l.fn.disk).content)
    × Appends (g.W.Write.contents l.fn.out) (g.W.Write.contents l.out)
    (gather (shown_of l.fn.disk).content 0 (min (l.number * 128) l.sectors))
