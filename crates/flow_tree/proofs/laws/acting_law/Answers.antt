use Rattle.flow_tree.proofs.Words.{required_acts, conditional_acts, alternative_rests, disabled_rests}
use Rattle.flow_tree.proofs.laws.acting_law.Goals as goal

pub returns-clause-required : goal.returns-clause-required
returns-clause-required c = required_acts

pub returns-clause-conditional : goal.returns-clause-conditional
returns-clause-conditional c = conditional_acts

pub returns-clause-alternative : goal.returns-clause-alternative
returns-clause-alternative c = alternative_rests

pub returns-clause-disabled : goal.returns-clause-disabled
returns-clause-disabled c = disabled_rests
