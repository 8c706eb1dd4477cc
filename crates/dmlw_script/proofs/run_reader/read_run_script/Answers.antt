use Rattle.dmlw_script.specs.Words.{lines_of}
use Rattle.dmlw_script.specs.Language.{IsReadAs}
use Rattle.dmlw_script.proofs.FaultLaws.{fault_found}
use Rattle.dmlw_script.proofs.ReaderLaws.{found, only}
use Rattle.dmlw_script.proofs.RunFaults.{runner_faults}
use Rattle.dmlw_script.proofs.RunLaws.{runner}
use Rattle.dmlw_script.proofs.run_reader.read_run_script.Goals as goal

pub returns-clause-found : goal.returns-clause-found
returns-clause-found c =
    found runner (lines_of c.args.text.now) c.read_run.result c.read_run.ensures

pub returns-clause-only : goal.returns-clause-only
returns-clause-only c plan spells =
    only runner (IsReadAs plan) (lines_of c.args.text.now) plan c.read_run.result
    (λ script same. same) (λ fault memory. memory) c.read_run.ensures spells

pub returns-clause-fault : goal.returns-clause-fault
returns-clause-fault c =
    fault_found runner runner_faults (lines_of c.args.text.now) c.read_run.result c.read_run.ensures
