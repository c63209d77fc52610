use Rattle.std.proofs.Common.{◌+◌, arith, ap}
use Rattle.flow_tree.specs.Places.{places_at}
use Rattle.flow_tree.proofs.Placing.{placed_leaf, placed_test, placed_flow}
use Rattle.realm_check.specs.Check.{greatest, depths}
use Rattle.realm_check.proofs.SizeLemmas.{greatest_one, greatest_first, greatest_more}
use Rattle.realm_check.proofs.flow_size.+measuring.Goals as goal

pub depth_in-returns-in-Auth : goal.depth_in-returns-in-Auth
depth_in-returns-in-Auth t c = λ d e. let h = greatest_one _ d _ (placed_leaf d c.args.exec.now c.in-Auth.field-0 c.in-Auth.is) in omega (arith, h, e)

pub depth_in-returns-in-Cond : goal.depth_in-returns-in-Cond
depth_in-returns-in-Cond t c = λ d e. let h = greatest_one _ d _ (placed_test d c.args.exec.now c.in-Cond.field-0 c.in-Cond.is) in omega (arith, h, e)

pub depth_in-returns-in-Sub : goal.depth_in-returns-in-Sub
depth_in-returns-in-Sub t c = λ d e.
    let h = greatest_first _ d _ _ (placed_flow d c.args.exec.now c.in-Sub.execs c.in-Sub.is) in
    let inner = ap (λ es. greatest (depths (places_at (d + 1) es))) c.as_slice.ensures in
    let below = c.depth_among.ensures (d + 1) (omega (arith, e, c.saturating_add.ensures)) in
    omega (arith, h, inner, below, c.max.ensures, e)

pub depth_among-loop-exec-init : goal.depth_among-loop-exec-init
unfolding greatest
depth_among-loop-exec-init t c = λ d e. omega arith

pub depth_among-loop-exec-preserved : goal.depth_among-loop-exec-preserved
depth_among-loop-exec-preserved t c = λ d e.
    let more = greatest_more d c.args.execs.now c.loop-exec.exec-index c.exec-item.result c.loop-exec-test.true c.exec-item.is in
    omega (arith, more, c.loop-exec.invariant d e, c.depth_in.ensures d e, c.max-deepest.ensures)
