use Rattle.std.proofs.Common.{◌≡◌, ℕ, List, false, take}
use Rattle.std.specs.List.{list_any}
use Rattle.flow_tree.specs.declared.exec.Exec.{Exec}
use Rattle.flow_tree.specs.Flow.{judged}
use Rattle.flow_tree.proofs.reach.some_tests.Given as goal

abbrev pub invariant-loop-exec : goal.invariant-loop-exec
invariant-loop-exec l = (t : List (List ℕ)) → list_any (λ (e : Exec). (judged t e).tests l.level) (take l.exec-index l.execs) ≡ false
