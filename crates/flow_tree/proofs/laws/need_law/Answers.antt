use Rattle.std.proofs.Common.{◌∙◌, ◌∷◌, [], cond, ap}
use Rattle.flow_tree.specs.Flow.{Judged, holds_over}
use Rattle.flow_tree.proofs.Judging.{judged_leaf, judged_flow, same_verdicts}
use Rattle.flow_tree.proofs.Words.{flow_needs_nothing}
use Rattle.flow_tree.proofs.laws.need_law.Goals as goal

pub returns-clause-leaf : goal.returns-clause-leaf
returns-clause-leaf c = λ t e kind is. ap (λ (j : Judged). j.verdict.holds) (judged_leaf t e kind is)

pub returns-clause-leaf_needs : goal.returns-clause-leaf_needs
returns-clause-leaf_needs c = λ t e kind is not_here. ap (λ (j : Judged). j.needs) (judged_leaf t e kind is) ∙ ap (λ b. cond b [] (e.id ∷ [])) not_here

pub returns-clause-subflow : goal.returns-clause-subflow
returns-clause-subflow c = λ t e es is. ap (λ (j : Judged). j.verdict.holds) (judged_flow t e es is) ∙ ap holds_over (same_verdicts t es)

pub returns-clause-subflow_needs : goal.returns-clause-subflow_needs
returns-clause-subflow_needs c = λ t e es is. ap (λ (j : Judged). j.needs) (judged_flow t e es is)

pub returns-clause-nothing : goal.returns-clause-nothing
returns-clause-nothing c = flow_needs_nothing
