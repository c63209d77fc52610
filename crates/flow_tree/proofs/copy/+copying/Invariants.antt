use Rattle.std.proofs.Common.{◌≡◌, take}
use Rattle.flow_tree.proofs.copy.+copying.Given as goal

abbrev pub invariant-copy_execs-loop-exec : goal.invariant-copy_execs-loop-exec
invariant-copy_execs-loop-exec l = l.copies ≡ take l.exec-index l.execs
