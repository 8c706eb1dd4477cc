use Rattle.dmlw_script.proofs.FaultLaws.{no_fault, one_first_fault, script_or_fault}
use Rattle.dmlw_script.proofs.RunFaults.{runner_faults}
use Rattle.dmlw_script.proofs.RunLaws.{runner}
use Rattle.dmlw_script.proofs.laws.run_texts_have_one_first_fault.Goals as goal

pub returns-clause-each : goal.returns-clause-each
returns-clause-each c = script_or_fault runner runner_faults

pub returns-clause-one : goal.returns-clause-one
returns-clause-one c = one_first_fault runner runner_faults

pub returns-clause-none : goal.returns-clause-none
returns-clause-none c = no_fault runner runner_faults
