use Rattle.std.proofs.Common.{◌+◌, ◌∙◌, ap, sym}
use Rattle.flow_tree.specs.Places.{places_at}
use Rattle.flow_tree.specs.Leaves.{leaves_among}
use Rattle.flow_tree.proofs.Adding.{adds, adds_none}
use Rattle.flow_tree.proofs.Leaving.{leaves_leaf, leaves_test, leaves_flow}
use Rattle.flow_tree.proofs.leaves.+gathering.Goals as goal

pub add_leaves_in-returns-in-Auth : goal.add_leaves_in-returns-in-Auth
add_leaves_in-returns-in-Auth t c = λ d. adds _ _ _ _ _ (sym (leaves_leaf d c.args.exec.now c.in-Auth.kind c.in-Auth.is)) c.add_leaf.ensures

pub add_leaves_in-returns-in-Cond : goal.add_leaves_in-returns-in-Cond
add_leaves_in-returns-in-Cond t c = λ d. adds_none _ _ (leaves_test d c.args.exec.now c.in-Cond.field-0 c.in-Cond.is)

pub add_leaves_in-returns-in-Sub : goal.add_leaves_in-returns-in-Sub
add_leaves_in-returns-in-Sub t c = λ d. adds _ _ _ _ _ (ap (λ es. leaves_among (places_at (d + 1) es)) c.as_slice.ensures ∙ sym (leaves_flow d c.args.exec.now c.in-Sub.execs c.in-Sub.is)) (c.add_leaves.ensures (d + 1))
