use Rattle.std.proofs.Common.{arith}
use Rattle.std.proofs.lemmas.List.{append-nil, drop_all}
use Rattle.dmlw_script.proofs.Spelling.{picks_spelled}
use Rattle.dmlw_script.proofs.printing.push_picks.Goals as goal

pub returns : goal.returns
returns c = grind (arith, append-nil, drop_all, picks_spelled)
