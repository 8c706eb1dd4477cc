use Rattle.std.proofs.Common.{◌/◌, length}
use Rattle.bio.specs.Content.{sector_of}
use Rattle.judge.specs.inside.{AreHeld}
use Rattle.judge.proofs.held.held_values.Given as goal

abbrev pub invariant-loop-place : goal.invariant-loop-place
invariant-loop-place l =
    AreHeld l.events (sector_of l.image) (length l.image / 512) l.place l.held.items
