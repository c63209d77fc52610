use Rattle.std.proofs.Common.{◌≡◌, false, take}
use Rattle.flow_tree.specs.Flow.{level_holds}
use Rattle.flow_tree.proofs.reach.+reaching.Given as goal

abbrev pub invariant-some_reaches-loop-exec : goal.invariant-some_reaches-loop-exec
invariant-some_reaches-loop-exec l = level_holds l.held l.level (take l.exec-index l.execs) ≡ false
