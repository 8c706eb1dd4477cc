use Rattle.refusals.specs.WordLaws.{decimal_number, zero_in_front}
use Rattle.refusals.proofs.word_laws.numbers_are_decimal.Goals as goal

pub returns-clause-digits : goal.returns-clause-digits
returns-clause-digits c = decimal_number

pub returns-clause-zero : goal.returns-clause-zero
returns-clause-zero c = zero_in_front
