use Rattle.std.proofs.Common.{◌≡◌, ℕ, length, take}
use Rattle.flow_tree.specs.Places.{places_at}
use Rattle.realm_check.specs.Check.{capped}
use Rattle.realm_check.proofs.flow_size.+counting.Given as goal

abbrev pub invariant-count_among-loop-exec : goal.invariant-count_among-loop-exec
invariant-count_among-loop-exec l = (d : ℕ) → l.count ≡ capped (length (places_at d (take l.exec-index l.execs)))
