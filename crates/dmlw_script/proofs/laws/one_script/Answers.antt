use Rattle.dmlw_script.specs.Words.{lines_of}
use Rattle.dmlw_script.proofs.ReaderLaws.{one_script}
use Rattle.dmlw_script.proofs.RecorderLaws.{recorder}
use Rattle.dmlw_script.proofs.laws.one_script.Goals as goal

pub returns : goal.returns
returns c text plan other = one_script recorder (lines_of text) plan other
