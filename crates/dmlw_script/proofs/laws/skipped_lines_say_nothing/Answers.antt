use Rattle.dmlw_script.proofs.ScriptLaws.{spells_with, spells_without}
use Rattle.dmlw_script.proofs.laws.skipped_lines_say_nothing.Goals as goal

pub returns-clause-put_in : goal.returns-clause-put_in
returns-clause-put_in c = spells_with

pub returns-clause-left_out : goal.returns-clause-left_out
returns-clause-left_out c = spells_without
