use Rattle.std.proofs.Common.{ap}
use Rattle.conditions.specs.declared.setup.Setup.{Setup}
use Rattle.conditions.proofs.Setting.{setup_leaf, setup_flow, configured_required, configured_offered}
use Rattle.conditions.proofs.laws.configured_law.Goals as goal

pub returns-clause-required : goal.returns-clause-required
returns-clause-required c = configured_required

pub returns-clause-offered : goal.returns-clause-offered
returns-clause-offered c = configured_offered

pub returns-clause-leaf : goal.returns-clause-leaf
returns-clause-leaf c = λ a e kind is. ap (λ (s : Setup). s.configured) (setup_leaf a e kind is)

pub returns-clause-subflow : goal.returns-clause-subflow
returns-clause-subflow c = λ a e es is. ap (λ (s : Setup). s.configured) (setup_flow a e es is)
