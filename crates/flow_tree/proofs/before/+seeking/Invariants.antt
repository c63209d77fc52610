use Rattle.std.proofs.Common.{◌≡◌, ℕ, false, take}
use Rattle.std.specs.List.{list_any}
use Rattle.flow_tree.specs.Places.{places_at}
use Rattle.flow_tree.specs.Standing.{is_sought}
use Rattle.flow_tree.proofs.before.+seeking.Given as goal

abbrev pub invariant-is_among-loop-exec : goal.invariant-is_among-loop-exec
invariant-is_among-loop-exec l = (d : ℕ) → list_any (is_sought l.sought) (places_at d (take l.exec-index l.execs)) ≡ false
