use Rattle.flow_tree.specs.declared.exec.Cond.TheVariants.{Role, Configured, Level}
use Rattle.conditions.specs.Setup.{configured}
use Rattle.flow_truths.specs.Truth.{cookie_holds}
use Rattle.flow_truths.proofs.Telling.{told_leaf, told_test, told_flow}
use Rattle.flow_truths.proofs.laws.truths_law.Goals as goal

pub returns-clause-leaf : goal.returns-clause-leaf
returns-clause-leaf c = λ v tree siblings e kind is. told_leaf v (cookie_holds v tree) (configured v.account siblings) e kind is

pub returns-clause-role : goal.returns-clause-role
returns-clause-role c = λ v tree siblings e role negate is. told_test v (cookie_holds v tree) (configured v.account siblings) e (Role role negate) is

pub returns-clause-configured : goal.returns-clause-configured
returns-clause-configured c = λ v tree siblings e is. told_test v (cookie_holds v tree) (configured v.account siblings) e Configured is

pub returns-clause-level : goal.returns-clause-level
returns-clause-level c = λ v tree siblings e level age is. told_test v (cookie_holds v tree) (configured v.account siblings) e (Level level age) is

pub returns-clause-subflow : goal.returns-clause-subflow
returns-clause-subflow c = λ v tree siblings e es is. told_flow v (cookie_holds v tree) (configured v.account siblings) e es is
