use Rattle.std.proofs.Common.{◌≡◌, take}
use Rattle.flow_tree.proofs.same.+comparing.Given as goal

abbrev pub invariant-same_execs-loop-i : goal.invariant-same_execs-loop-i
invariant-same_execs-loop-i l = take l.i l.a ≡ take l.i l.b
