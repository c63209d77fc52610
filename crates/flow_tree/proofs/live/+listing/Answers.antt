use Rattle.std.proofs.Common.{◌∙◌, ap, sym}
use Rattle.std.specs.Prelude.{option_to_list}
use Rattle.flow_tree.specs.Levels.{lent_levels}
use Rattle.flow_tree.proofs.Living.{lent_leaf, lent_test, lent_flow}
use Rattle.flow_tree.proofs.Adding.{adds, adds_none}
use Rattle.flow_tree.proofs.live.+listing.Goals as goal

pub add_lent-returns-in-Auth : goal.add_lent-returns-in-Auth
add_lent-returns-in-Auth t c = adds_none _ _ (lent_leaf c.args.requirement c.args.exec.now c.in-Auth.field-0 c.in-Auth.is)

pub add_lent-returns-in-Cond : goal.add_lent-returns-in-Cond
add_lent-returns-in-Cond t c = adds _ _ _ _ _ (ap option_to_list c.lent_level.ensures ∙ sym (lent_test c.args.requirement c.args.exec.now c.in-Cond.cond c.in-Cond.is)) c.add_level.ensures

pub add_lent-returns-then-is_disabled : goal.add_lent-returns-then-is_disabled
add_lent-returns-then-is_disabled t c =
    let disabled = sym c.if-is_disabled.true ∙ c.is_disabled.ensures.value in
    adds_none _ _ (lent_flow c.args.requirement c.args.exec.now c.in-Sub.execs _ c.in-Sub.is disabled)

pub add_lent-returns-else-is_disabled : goal.add_lent-returns-else-is_disabled
add_lent-returns-else-is_disabled t c =
    let enabled = sym c.if-is_disabled.false ∙ c.is_disabled.ensures.value in
    adds _ _ _ _ _ (ap (lent_levels c.args.exec.now.requirement) c.as_slice.ensures ∙ sym (lent_flow c.args.requirement c.args.exec.now c.in-Sub.execs _ c.in-Sub.is enabled)) c.add_levels.ensures
