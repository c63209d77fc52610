use Rattle.std.proofs.Common.{◌≡◌, ◌++◌, map, take, drop}
use Rattle.flow_tree.specs.Flow.{judged, first_needs, offered_needs}
use Rattle.flow_tree.proofs.needs.+needing.Given as goal

abbrev pub invariant-add_first_needs-loop-exec : goal.invariant-add_first_needs-loop-exec
invariant-add_first_needs-loop-exec l = record {
  same : l.needs ≡ l.fn.needs;
  rest : first_needs (map (judged l.held) (drop l.exec-index l.execs)) ≡ first_needs (map (judged l.held) l.execs);
}

abbrev pub invariant-add_offered_needs-loop-exec : goal.invariant-add_offered_needs-loop-exec
invariant-add_offered_needs-loop-exec l = l.needs ≡ l.fn.needs ++ offered_needs (map (judged l.held) (take l.exec-index l.execs))
