use Rattle.fault_layers.specs.Verdicts.{rule_honest, rule_keeps_reads, rule_stays}
use Rattle.fault_layers.proofs.laws.fault_rules_drop_only_writes.Goals as goal

pub returns-clause-reads : goal.returns-clause-reads
returns-clause-reads c = rule_keeps_reads

pub returns-clause-honest : goal.returns-clause-honest
returns-clause-honest c = rule_honest

pub returns-clause-stays : goal.returns-clause-stays
returns-clause-stays c = rule_stays
