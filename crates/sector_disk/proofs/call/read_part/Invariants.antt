use Rattle.std.proofs.Common.{◌≡◌, ◌*◌, take}
use Rattle.bio.specs.Content.{gather}
use Rattle.sector_disk.specs.inside.Storage.{content_at}
use Rattle.sector_disk.proofs.call.read_part.Given as goal

abbrev pub invariant-loop-index : goal.invariant-loop-index
invariant-loop-index l =
    take (512 * l.index) l.buffer ≡ gather (content_at l.calls l.places) l.first l.index
