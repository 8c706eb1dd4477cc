use Rattle.dmlw_script.specs.Words.{lines_of}
use Rattle.dmlw_script.specs.Language.{IsReadAs}
use Rattle.dmlw_script.proofs.FaultLaws.{fault_found}
use Rattle.dmlw_script.proofs.ReaderLaws.{found, only}
use Rattle.dmlw_script.proofs.RecorderFaults.{recorder_faults}
use Rattle.dmlw_script.proofs.RecorderLaws.{recorder}
use Rattle.dmlw_script.proofs.reader.read_script.Goals as goal

pub returns-clause-found : goal.returns-clause-found
returns-clause-found c = found recorder (lines_of c.args.text.now) c.read.result c.read.ensures

pub returns-clause-only : goal.returns-clause-only
returns-clause-only c plan spells =
    only recorder (IsReadAs plan) (lines_of c.args.text.now) plan c.read.result
    (λ script same. same) (λ fault memory. memory) c.read.ensures spells

pub returns-clause-fault : goal.returns-clause-fault
returns-clause-fault c =
    fault_found recorder recorder_faults (lines_of c.args.text.now) c.read.result c.read.ensures
