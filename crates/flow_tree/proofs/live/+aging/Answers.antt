use Rattle.std.proofs.Common.{◌∙◌, ap, sym}
use Rattle.flow_tree.specs.Levels.{age_among}
use Rattle.flow_tree.proofs.Living.{lent_leaf, lent_test, lent_flow, age_found, age_later}
use Rattle.flow_tree.proofs.live.+aging.Goals as goal

pub lent_age-returns-in-Auth : goal.lent_age-returns-in-Auth
lent_age-returns-in-Auth t c = sym (ap (age_among c.args.level) (lent_leaf c.args.requirement c.args.exec.now c.in-Auth.field-0 c.in-Auth.is))

pub lent_age-returns-in-Cond : goal.lent_age-returns-in-Cond
lent_age-returns-in-Cond t c = (rw c.lent_level.ensures at c.age_of.ensures) ∙ sym (ap (age_among c.args.level) (lent_test c.args.requirement c.args.exec.now c.in-Cond.cond c.in-Cond.is))

pub lent_age-returns-then-is_disabled : goal.lent_age-returns-then-is_disabled
lent_age-returns-then-is_disabled t c =
    let disabled = sym c.if-is_disabled.true ∙ c.is_disabled.ensures.value in
    sym (ap (age_among c.args.level) (lent_flow c.args.requirement c.args.exec.now c.in-Sub.execs _ c.in-Sub.is disabled))

pub lent_age-returns-else-is_disabled : goal.lent_age-returns-else-is_disabled
lent_age-returns-else-is_disabled t c =
    let enabled = sym c.if-is_disabled.false ∙ c.is_disabled.ensures.value in
    (rw c.as_slice.ensures at c.first_age.ensures) ∙ sym (ap (age_among c.args.level) (lent_flow c.args.requirement c.args.exec.now c.in-Sub.execs _ c.in-Sub.is enabled))

pub first_age-returns-in-Some : goal.first_age-returns-in-Some
first_age-returns-in-Some t c =
    sym (age_found c.args.level c.args.requirement c.args.execs.now c.loop-exec.exec-index c.exec-item.result c.in-Some.age c.loop-exec-test.true c.exec-item.is c.in-Some.ensures) ∙ c.loop-exec.invariant

pub first_age-loop-exec-preserved : goal.first_age-loop-exec-preserved
first_age-loop-exec-preserved t c =
    sym (age_later c.args.level c.args.requirement c.args.execs.now c.loop-exec.exec-index c.exec-item.result c.loop-exec-test.true c.exec-item.is (sym c.in_default.is ∙ c.lent_age.ensures)) ∙ c.loop-exec.invariant
