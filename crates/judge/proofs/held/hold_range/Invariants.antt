use Rattle.std.proofs.Common.{Some}
use Rattle.bio.specs.Content.{sector_of}
use Rattle.judge.specs.inside.{AreFit}
use Rattle.judge.proofs.held.hold_range.Given as goal

abbrev pub invariant-loop-sector : goal.invariant-loop-sector
invariant-loop-sector l =
    AreFit (Some l.event) l.end l.last
    (sector_of l.image) l.place l.from l.sector l.fn.held.items l.held.items
