use Rattle.std.proofs.Common.{◌≡◌, take}
use Rattle.login_progress.specs.Evidence.{passed_of}
use Rattle.login_progress.proofs.evidence.passed_of.Given as goal

abbrev pub invariant-loop-leaf : goal.invariant-loop-leaf
invariant-loop-leaf g l = l.passed ≡ passed_of l.facts l.tab l.who (take l.leaf-index l.leaves)
