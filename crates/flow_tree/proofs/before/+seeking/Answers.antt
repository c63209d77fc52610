use Rattle.std.proofs.Common.{◌+◌, ◌||◌, false, ap, sym, ◌∙◌}
use Rattle.std.specs.List.{list_any}
use Rattle.flow_tree.specs.Places.{places_at}
use Rattle.flow_tree.specs.Standing.{is_sought}
use Rattle.flow_tree.proofs.Placing.{placed_leaf, placed_test, placed_flow, placed_first}
use Rattle.flow_tree.proofs.Earlier.{places_found}
use Rattle.flow_tree.proofs.before.+seeking.Goals as goal

pub is_among-returns-then-is_in-clause-value : goal.is_among-returns-then-is_in-clause-value
is_among-returns-then-is_in-clause-value t c = λ d. sym (places_found (is_sought c.args.sought.now) d c.args.execs.now c.loop-exec.exec-index c.exec-item.result c.loop-exec-test.true c.exec-item.is (sym (c.is_in.ensures.value d) ∙ c.if-is_in.true))

pub is_in-returns-then-is_itself-clause-value : goal.is_in-returns-then-is_itself-clause-value
is_in-returns-then-is_itself-clause-value t c = λ d.
    let first = placed_first d c.args.exec.now in
    let here = sym (c.is_itself.ensures.value d) ∙ c.if-is_itself.true in
    sym (ap (list_any (is_sought c.args.sought.now)) first.1 ∙ ap (λ b. b || list_any (is_sought c.args.sought.now) first.0) here)

pub is_in-returns-in-Auth-clause-value : goal.is_in-returns-in-Auth-clause-value
is_in-returns-in-Auth-clause-value t c = λ d.
    let here = sym (c.is_itself.ensures.value d) ∙ c.if-is_itself.false in
    sym (ap (list_any (is_sought c.args.sought.now)) (placed_leaf d c.args.exec.now c.in-Auth.field-0 c.in-Auth.is) ∙ ap (λ b. b || false) here)

pub is_in-returns-in-Cond-clause-value : goal.is_in-returns-in-Cond-clause-value
is_in-returns-in-Cond-clause-value t c = λ d.
    let here = sym (c.is_itself.ensures.value d) ∙ c.if-is_itself.false in
    sym (ap (list_any (is_sought c.args.sought.now)) (placed_test d c.args.exec.now c.in-Cond.field-0 c.in-Cond.is) ∙ ap (λ b. b || false) here)

pub is_in-returns-in-Sub-clause-value : goal.is_in-returns-in-Sub-clause-value
is_in-returns-in-Sub-clause-value t c = λ d.
    let here = sym (c.is_itself.ensures.value d) ∙ c.if-is_itself.false in
    let sought = is_sought c.args.sought.now in
    c.is_among.ensures.value (d + 1) ∙ ap (λ es. list_any sought (places_at (d + 1) es)) c.as_slice.ensures
    ∙ sym (ap (list_any sought) (placed_flow d c.args.exec.now c.in-Sub.execs c.in-Sub.is) ∙ ap (λ b. b || list_any sought (places_at (d + 1) c.in-Sub.execs)) here)
