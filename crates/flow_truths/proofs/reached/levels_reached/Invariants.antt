use Rattle.std.proofs.Common.{◌≡◌}
use Rattle.flow_truths.specs.Granted.{levels_reached}
use Rattle.flow_truths.proofs.reached.levels_reached.Given as goal

abbrev pub invariant-loop-below : goal.invariant-loop-below
invariant-loop-below l = l.levels ≡ levels_reached l.truths.held l.below l.tree
