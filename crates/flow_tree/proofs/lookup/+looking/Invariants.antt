use Rattle.std.proofs.Common.{◌≡◌, ℕ, None, take}
use Rattle.flow_tree.specs.Places.{places_at, kind_among}
use Rattle.flow_tree.proofs.lookup.+looking.Given as goal

abbrev pub invariant-kind_among-loop-exec : goal.invariant-kind_among-loop-exec
invariant-kind_among-loop-exec l = (d : ℕ) → kind_among l.id (places_at d (take l.exec-index l.execs)) ≡ None
