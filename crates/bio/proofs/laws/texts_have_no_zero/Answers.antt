use Rattle.bio.specs.RequestLaws.{is_text-nonzero}
use Rattle.bio.proofs.laws.texts_have_no_zero.Goals as goal

pub returns : goal.returns
returns c = is_text-nonzero
