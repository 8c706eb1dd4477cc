use Rattle.std.proofs.Common.{refl}
use Rattle.board.proofs.Moves.{begins}
use Rattle.board.proofs.Blank.new.Goals as goal

pub of_words-requires : goal.of_words-requires
of_words-requires c = begins 0 refl
