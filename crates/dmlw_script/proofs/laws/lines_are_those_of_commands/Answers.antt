use Rattle.dmlw_script.proofs.ScriptLaws.{line_found, line_says, lined, one_line}
use Rattle.dmlw_script.proofs.laws.lines_are_those_of_commands.Goals as goal

pub returns-clause-says : goal.returns-clause-says
returns-clause-says c = line_says

pub returns-clause-found : goal.returns-clause-found
returns-clause-found c = line_found

pub returns-clause-one : goal.returns-clause-one
returns-clause-one c = one_line

pub returns-clause-none : goal.returns-clause-none
returns-clause-none c = lined
