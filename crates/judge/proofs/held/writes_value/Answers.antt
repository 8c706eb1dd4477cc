use Rattle.std.proofs.Common.{◌/◌, length, ◌∙◌}
use Rattle.bio.specs.Content.{sector_of}
use Rattle.judge.proofs.HeldValues.{some_value}
use Rattle.judge.proofs.held.writes_value.Goals as goal

pub returns-in-Some : goal.returns-in-Some
returns-in-Some c =
    let placed = c.in-Some.ensures in
    c.eq.ensures
    ∙ some_value c.args.first (length c.args.bytes.now / 512) c.args.sector c.in-Some.place
    (sector_of c.args.bytes.now) c.args.value.now
    c.sector_bytes.result.now placed.0 placed.1 c.sector_bytes.ensures
