use Rattle.std.proofs.Common.{◌≡◌, ℕ, take}
use Rattle.flow_tree.specs.Places.{places_at}
use Rattle.realm_check.specs.Check.{capped, greatest, depths}
use Rattle.realm_check.proofs.flow_size.+measuring.Given as goal

abbrev pub invariant-depth_among-loop-exec : goal.invariant-depth_among-loop-exec
invariant-depth_among-loop-exec l = (d : ℕ) → l.depth ≡ capped d → l.deepest ≡ capped (greatest (depths (places_at d (take l.exec-index l.execs))))
