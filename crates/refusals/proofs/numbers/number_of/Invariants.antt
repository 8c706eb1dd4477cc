use Rattle.std.proofs.Common.{◌≡◌, drop}
use Rattle.refusals.specs.Words.{number_of}
use Rattle.refusals.proofs.WordLemmas.{number_after_checked}
use Rattle.refusals.proofs.numbers.number_of.Given as goal

abbrev pub invariant-loop-digit : goal.invariant-loop-digit
invariant-loop-digit l = number_after_checked l.value (drop l.digit-index l.word) ≡ number_of l.word
