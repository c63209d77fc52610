use Rattle.std.proofs.Common.{◌≡◌, ℕ, ◌-◌, length, take}
use Rattle.flow_tree.specs.Places.{places_at}
use Rattle.flow_tree.proofs.before.+counting.Given as goal

abbrev pub invariant-left_after-loop-exec : goal.invariant-left_after-loop-exec
invariant-left_after-loop-exec l = (d : ℕ) → l.left ≡ l.number - length (places_at d (take l.exec-index l.execs))
