use Rattle.std.proofs.Common.{◌≡◌, ◌-◌}
use Rattle.sector_disk.specs.inside.Storage.{walk}
use Rattle.sector_disk.proofs.choice.walk_back.Given as goal

abbrev pub invariant-loop-step : goal.invariant-loop-step
invariant-loop-step l =
    walk l.calls l.sector (l.steps - l._step) l.place ≡ walk l.calls l.sector l.steps l.newest
