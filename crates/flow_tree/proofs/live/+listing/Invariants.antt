use Rattle.std.proofs.Common.{◌≡◌, ◌++◌, take}
use Rattle.flow_tree.specs.Levels.{lent_levels}
use Rattle.flow_tree.proofs.live.+listing.Given as goal

abbrev pub invariant-add_levels-loop-exec : goal.invariant-add_levels-loop-exec
invariant-add_levels-loop-exec l = l.levels ≡ l.fn.levels ++ lent_levels l.requirement (take l.exec-index l.execs)
