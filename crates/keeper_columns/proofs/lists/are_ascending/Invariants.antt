use Rattle.std.proofs.Common.{◌≡◌, length}
use Rattle.keeper_columns.specs.Lists.{are_ascending}
use Rattle.keeper_columns.proofs.lists.are_ascending.Given as goal

abbrev pub invariant-loop-rest : goal.invariant-loop-rest
invariant-loop-rest g l = are_ascending g.T.ListItem.before l.items ≡ are_ascending g.T.ListItem.before l.rest

abbrev pub decreases-loop-rest : goal.decreases-loop-rest
decreases-loop-rest g l = length l.rest
