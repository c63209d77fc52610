use Rattle.std.proofs.Common.{◌+◌, length, arith, ap}
use Rattle.flow_tree.specs.Places.{places_at}
use Rattle.flow_tree.proofs.Placing.{placed_leaf, placed_test, placed_flow}
use Rattle.flow_tree.proofs.before.+counting.Goals as goal

pub left_after_one-returns-in-Auth : goal.left_after_one-returns-in-Auth
left_after_one-returns-in-Auth t c = λ d. let h = ap length (placed_leaf d c.args.exec.now c.in-Auth.field-0 c.in-Auth.is) in omega (arith, h)

pub left_after_one-returns-in-Cond : goal.left_after_one-returns-in-Cond
left_after_one-returns-in-Cond t c = λ d. let h = ap length (placed_test d c.args.exec.now c.in-Cond.field-0 c.in-Cond.is) in omega (arith, h)

pub left_after_one-returns-in-Sub : goal.left_after_one-returns-in-Sub
left_after_one-returns-in-Sub t c = λ d.
    let h = ap length (placed_flow d c.args.exec.now c.in-Sub.execs c.in-Sub.is) in
    let inner = ap (λ es. length (places_at (d + 1) es)) c.as_slice.ensures in
    omega (arith, h, inner, c.left_after.ensures (d + 1))
