use Rattle.flow_tree.proofs.Words.{alternative_idle, disabled_idle, condition_idle}
use Rattle.flow_tree.proofs.laws.idle_law.Goals as goal

pub returns-clause-beside : goal.returns-clause-beside
returns-clause-beside c = alternative_idle

pub returns-clause-disabled : goal.returns-clause-disabled
returns-clause-disabled c = disabled_idle

pub returns-clause-condition : goal.returns-clause-condition
returns-clause-condition c = condition_idle
