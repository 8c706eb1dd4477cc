use Rattle.std.proofs.Common.{◌≡◌, ◌*◌, drop, take}
use Rattle.bio.specs.Content.{gather}
use Rattle.sector_disk.specs.inside.Storage.{put_over}
use Rattle.sector_disk.proofs.call.put_later.Given as goal

abbrev pub invariant-loop-sector : goal.invariant-loop-sector
invariant-loop-sector l =
    (take (512 * l.sector) l.image ≡ gather (put_over l.later l.places l.initial.image) 0 l.sector)
    × (drop (512 * l.sector) l.image ≡ drop (512 * l.sector) l.initial.image)
