use Rattle.std.proofs.Common.{◌+◌, ◌∙◌, Some, None, cond, ap, sym}
use Rattle.flow_tree.specs.Places.{places_at, kind_among}
use Rattle.flow_tree.proofs.Looking.{end, kind_leaf, kind_test, kind_flow, kind_next, kind_found}
use Rattle.flow_tree.proofs.lookup.+looking.Goals as goal

pub kind_in-returns-in-Cond : goal.kind_in-returns-in-Cond
kind_in-returns-in-Cond t c = λ d. sym (kind_test c.args.id.now d c.args.exec.now c.in-Cond.field-0 c.in-Cond.is)

pub kind_in-returns-in-Sub : goal.kind_in-returns-in-Sub
kind_in-returns-in-Sub t c = λ d. c.kind_among.ensures (d + 1) ∙ ap (λ es. kind_among c.args.id.now (places_at (d + 1) es)) c.as_slice.ensures ∙ sym (kind_flow c.args.id.now d c.args.exec.now c.in-Sub.execs c.in-Sub.is)

pub kind_among-returns-in-Some : goal.kind_among-returns-in-Some
kind_among-returns-in-Some t c = λ d.
    let here = kind_next c.args.id.now d c.args.execs.now c.loop-exec.exec-index c.exec-item.result c.loop-exec-test.true c.exec-item.is (c.loop-exec.invariant d) ∙ sym (c.kind_in.ensures d) ∙ c.in-Some.is in
    sym (kind_found c.args.id.now d c.args.execs.now (c.loop-exec.exec-index + 1) c.in-Some.kind here)

pub kind_among-loop-exec-preserved : goal.kind_among-loop-exec-preserved
kind_among-loop-exec-preserved t c = λ d.
    kind_next c.args.id.now d c.args.execs.now c.loop-exec.exec-index c.exec-item.result c.loop-exec-test.true c.exec-item.is (c.loop-exec.invariant d) ∙ sym (c.kind_in.ensures d) ∙ c.in_default.is

pub kind_among-loop-exec-init : goal.kind_among-loop-exec-init
kind_among-loop-exec-init t c = λ d. end c.args.id.now

pub kind_in-returns-then-eq : goal.kind_in-returns-then-eq
kind_in-returns-then-eq t c = λ d. sym (kind_leaf c.args.id.now d c.args.exec.now c.in-Auth.kind c.in-Auth.is ∙ ap (λ b. cond b (Some c.in-Auth.kind) None) (sym c.eq.ensures ∙ c.if-eq.true))

pub kind_in-returns-else-eq : goal.kind_in-returns-else-eq
kind_in-returns-else-eq t c = λ d. sym (kind_leaf c.args.id.now d c.args.exec.now c.in-Auth.kind c.in-Auth.is ∙ ap (λ b. cond b (Some c.in-Auth.kind) None) (sym c.eq.ensures ∙ c.if-eq.false))
