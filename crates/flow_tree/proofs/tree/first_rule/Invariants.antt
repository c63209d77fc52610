use Rattle.std.proofs.Common.{◌≡◌, drop}
use Rattle.flow_tree.specs.Faults.{fault_among, fault_of}
use Rattle.flow_tree.proofs.tree.first_rule.Given as goal

abbrev pub invariant-loop-rule : goal.invariant-loop-rule
invariant-loop-rule l = fault_among (drop l.rule-index l.rule-items) l.execs ≡ fault_of l.execs
