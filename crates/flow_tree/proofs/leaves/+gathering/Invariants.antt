use Rattle.std.proofs.Common.{◌≡◌, ◌++◌, ℕ, take}
use Rattle.flow_tree.specs.Places.{places_at}
use Rattle.flow_tree.specs.Leaves.{leaves_among}
use Rattle.flow_tree.proofs.leaves.+gathering.Given as goal

abbrev pub invariant-add_leaves-loop-exec : goal.invariant-add_leaves-loop-exec
invariant-add_leaves-loop-exec l = (d : ℕ) → l.leaves ≡ l.fn.leaves ++ leaves_among (places_at d (take l.exec-index l.execs))
