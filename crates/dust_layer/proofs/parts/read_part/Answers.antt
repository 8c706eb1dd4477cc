use Rattle.std.proofs.Common.{arith}
use Rattle.std.proofs.lemmas.Slice.{drop-put_mid}
use Rattle.dust_layer.proofs.parts.read_part.Goals as goal

pub returns-clause-behind : goal.returns-clause-behind
returns-clause-behind g c = grind (arith, drop-put_mid)
