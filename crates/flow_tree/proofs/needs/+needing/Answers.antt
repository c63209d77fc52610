use Rattle.std.proofs.Common.{◌∙◌, ap, sym, refl, map}
use Rattle.std.proofs.Math.ListN.{drop_of_length-le}
use Rattle.std.proofs.lemmas.Bool.{not-true}
use Rattle.flow_tree.specs.Flow.{judged, flow_needs, first_needs, Judged}
use Rattle.flow_tree.proofs.Judging.{judged_leaf, judged_test, judged_flow}
use Rattle.flow_tree.proofs.Adding.{adds, adds_none}
use Rattle.flow_tree.proofs.Needing.{first_found, needs_by_tally}
use Rattle.flow_tree.proofs.needs.+needing.Goals as goal

pub add_first_needs-returns-then-not-verdict : goal.add_first_needs-returns-then-not-verdict
add_first_needs-returns-then-not-verdict t c =
    let held = c.args.held.now in
    let acts = ap (λ v. v.acts) (sym c.judge-verdict.ensures) ∙ c.if-verdict.true in
    let fails = ap (λ v. v.holds) (sym c.judge-verdict.ensures) ∙ not-true _ c.if-not-verdict.true in
    let found = sym (first_found held c.args.execs.now c.loop-exec.exec-index c.exec-item.result c.loop-exec-test.true c.exec-item.is acts fails) ∙ c.loop-exec.invariant.rest in
    adds _ c.args.needs.now _ _ _ found (rw c.loop-exec.invariant.same at c.add_needs.ensures)

pub add_first_needs-returns : goal.add_first_needs-returns
add_first_needs-returns t c =
    let over = ap (λ es. first_needs (map (judged c.args.held.now) es)) (sym (drop_of_length-le c.args.execs.now c.loop-exec-test.false)) ∙ c.loop-exec.invariant.rest in
    c.loop-exec.invariant.same ∙ adds_none _ _ (sym over)

pub add_flow_needs-returns-then-holds : goal.add_flow_needs-returns-then-holds
add_flow_needs-returns-then-holds t c =
    adds_none _ _ (needs_by_tally _ _ _ c.tally-all.ensures ∙ rw (sym c.holds.ensures ∙ c.if-holds.true) refl)

pub add_flow_needs-returns-then-all : goal.add_flow_needs-returns-then-all
add_flow_needs-returns-then-all t c =
    adds _ _ _ _ _ (sym (needs_by_tally _ _ _ c.tally-all.ensures ∙ rw (sym c.holds.ensures ∙ c.if-holds.false, c.if-all.true) refl)) c.add_first_needs.ensures

pub add_flow_needs-returns-else-all : goal.add_flow_needs-returns-else-all
add_flow_needs-returns-else-all t c =
    adds _ _ _ _ _ (sym (needs_by_tally _ _ _ c.tally-all.ensures ∙ rw (sym c.holds.ensures ∙ c.if-holds.false, c.if-all.false) refl)) c.add_offered_needs.ensures

pub add_needs-returns-in-Auth : goal.add_needs-returns-in-Auth
add_needs-returns-in-Auth t c =
    adds _ _ _ _ _ (sym (ap (λ (j : Judged). j.needs) (judged_leaf c.args.held.now c.args.exec.now c.in-Auth.field-0 c.in-Auth.is))) c.add_leaf.ensures

pub add_needs-returns-in-Cond : goal.add_needs-returns-in-Cond
add_needs-returns-in-Cond t c =
    adds_none _ _ (ap (λ (j : Judged). j.needs) (judged_test c.args.held.now c.args.exec.now c.in-Cond.field-0 c.in-Cond.is))

pub add_needs-returns-in-Sub : goal.add_needs-returns-in-Sub
add_needs-returns-in-Sub t c =
    let execs = ap (flow_needs c.args.held.now) c.as_slice.ensures in
    adds _ _ _ _ _ (execs ∙ sym (ap (λ (j : Judged). j.needs) (judged_flow c.args.held.now c.args.exec.now c.in-Sub.execs c.in-Sub.is))) c.add_flow_needs.ensures
