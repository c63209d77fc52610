use Rattle.std.proofs.Common.{◌+◌, length, arith, ap}
use Rattle.flow_tree.specs.Places.{places_at}
use Rattle.flow_tree.proofs.Placing.{placed_leaf, placed_test, placed_flow}
use Rattle.realm_check.proofs.flow_size.+counting.Goals as goal

pub count_in-returns-in-Auth : goal.count_in-returns-in-Auth
count_in-returns-in-Auth t c = λ d. let h = ap length (placed_leaf d c.args.exec.now c.in-Auth.field-0 c.in-Auth.is) in omega (arith, h)

pub count_in-returns-in-Cond : goal.count_in-returns-in-Cond
count_in-returns-in-Cond t c = λ d. let h = ap length (placed_test d c.args.exec.now c.in-Cond.field-0 c.in-Cond.is) in omega (arith, h)

pub count_in-returns-in-Sub : goal.count_in-returns-in-Sub
count_in-returns-in-Sub t c = λ d.
    let h = ap length (placed_flow d c.args.exec.now c.in-Sub.execs c.in-Sub.is) in
    let inner = ap (λ es. length (places_at (d + 1) es)) c.as_slice.ensures in
    omega (arith, h, inner, c.count_among.ensures (d + 1), c.saturating_add.ensures)
