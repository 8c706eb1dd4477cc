use Rattle.dmlw_script.proofs.FaultLaws.{no_fault, one_first_fault, script_or_fault}
use Rattle.dmlw_script.proofs.RecorderFaults.{recorder_faults}
use Rattle.dmlw_script.proofs.RecorderLaws.{recorder}
use Rattle.dmlw_script.proofs.laws.texts_have_one_first_fault.Goals as goal

pub returns-clause-each : goal.returns-clause-each
returns-clause-each c = script_or_fault recorder recorder_faults

pub returns-clause-one : goal.returns-clause-one
returns-clause-one c = one_first_fault recorder recorder_faults

pub returns-clause-none : goal.returns-clause-none
returns-clause-none c = no_fault recorder recorder_faults
