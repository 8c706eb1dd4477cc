use Rattle.std.proofs.Common.{◌≡◌}
use Rattle.std.specs.Prelude.{option_copied}
use Rattle.dmlw_script.specs.inside.LineParser.{picks_of}
use Rattle.dmlw_script.proofs.WordLaws.{left_of, picks_after}
use Rattle.dmlw_script.proofs.values.picks_of.Given as goal

abbrev pub invariant-loop-rest : goal.invariant-loop-rest
invariant-loop-rest l =
    picks_after l.picks.items (picks_of (option_copied l.rest))
    ≡ picks_of (option_copied l.fn.words)

abbrev pub decreases-loop-rest : goal.decreases-loop-rest
decreases-loop-rest l = left_of (option_copied l.rest)
