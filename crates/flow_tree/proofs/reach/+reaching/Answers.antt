use Rattle.std.proofs.Common.{◌∙◌, ap, sym, refl, false, true, not}
use Rattle.flow_tree.proofs.Reaching.{reaches_leaf, reaches_test, reaches_flow}
use Rattle.flow_tree.proofs.reach.+reaching.Goals as goal

pub reaches-returns-then-is_reached_by : goal.reaches-returns-then-is_reached_by
reaches-returns-then-is_reached_by t c =
    let here = sym c.if-is_reached_by.true ∙ (rw c.as_slice-execs.ensures at c.is_reached_by.ensures) in
    let enabled = sym c.if-not-is_disabled.true ∙ c.is_disabled.ensures.value in
    c.if-is_reached_by.true ∙ reaches_flow c.args.held.now c.args.exec.now c.in-Sub.execs c.args.level false true _ c.in-Sub.is enabled here refl

pub reaches-returns-else-is_reached_by : goal.reaches-returns-else-is_reached_by
reaches-returns-else-is_reached_by t c =
    let here = sym c.if-is_reached_by.false ∙ (rw c.as_slice-execs.ensures at c.is_reached_by.ensures) in
    let enabled = sym c.if-not-is_disabled.true ∙ c.is_disabled.ensures.value in
    let within = rw c.as_slice-execs.ensures at c.some_reaches.ensures in
    reaches_flow c.args.held.now c.args.exec.now c.in-Sub.execs c.args.level false false _ c.in-Sub.is enabled here within

pub reaches-returns-else-not-is_disabled : goal.reaches-returns-else-not-is_disabled
reaches-returns-else-not-is_disabled t c =
    let disabled = sym c.if-not-is_disabled.false ∙ c.is_disabled.ensures.value in
    let no = ap not c.if-not-is_disabled.false in
    no ∙ reaches_flow c.args.held.now c.args.exec.now c.in-Sub.execs c.args.level true _ _ c.in-Sub.is disabled refl refl

pub reaches-returns-in-Auth : goal.reaches-returns-in-Auth
reaches-returns-in-Auth t c = reaches_leaf c.args.held.now c.args.exec.now c.in-Auth.field-0 c.args.level c.in-Auth.is

pub reaches-returns-in-Cond : goal.reaches-returns-in-Cond
reaches-returns-in-Cond t c = reaches_test c.args.held.now c.args.exec.now c.in-Cond.field-0 c.args.level c.in-Cond.is
