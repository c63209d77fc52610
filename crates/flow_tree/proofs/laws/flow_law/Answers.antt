use Rattle.flow_tree.proofs.Words.{flow_acting, flow_offered}
use Rattle.flow_tree.proofs.laws.flow_law.Goals as goal

pub returns-clause-acting : goal.returns-clause-acting
returns-clause-acting c = flow_acting

pub returns-clause-offered : goal.returns-clause-offered
returns-clause-offered c = flow_offered
