use Rattle.flow_tree.proofs.Judging.{verdict_leaf, verdict_test, verdict_flow}
use Rattle.flow_tree.proofs.judge.+judging.Goals as goal

pub judge-returns-in-Auth : goal.judge-returns-in-Auth
judge-returns-in-Auth t c = verdict_leaf _ _ c.in-Auth.field-0 _ _ c.in-Auth.is c.has.ensures c.of_leaf.ensures

pub judge-returns-in-Cond : goal.judge-returns-in-Cond
judge-returns-in-Cond t c = verdict_test _ _ c.in-Cond.field-0 _ _ c.in-Cond.is c.has-in-Cond.ensures c.of_condition.ensures

pub judge-returns-in-Sub : goal.judge-returns-in-Sub
judge-returns-in-Sub t c = verdict_flow _ _ c.in-Sub.execs _ _ c.in-Sub.is (rw c.as_slice.ensures at c.tally.ensures) c.of_flow.ensures
