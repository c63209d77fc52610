use Rattle.std.proofs.Common.{[]}
use Rattle.flow_tree.specs.Places.{places}
use Rattle.flow_tree.proofs.Keeping.{none_deep, none_double, none_level, not_double, not_deep, not_levels}
use Rattle.flow_tree.proofs.Ruling.{few_places}
use Rattle.flow_tree.proofs.laws.tree_law.Goals as goal

pub returns-clause-few : goal.returns-clause-few
returns-clause-few c = few_places

pub returns-clause-shallow : goal.returns-clause-shallow
returns-clause-shallow c = λ es none. none_deep [] (places es) (not_deep es none)

pub returns-clause-apart : goal.returns-clause-apart
returns-clause-apart c = λ es none. none_double [] (places es) (not_double es none)

pub returns-clause-levels : goal.returns-clause-levels
returns-clause-levels c = λ es none. none_level [] (places es) (not_levels es none)
