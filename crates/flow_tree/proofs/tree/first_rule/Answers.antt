use Rattle.std.proofs.Common.{◌∙◌, sym, refl}
use Rattle.flow_tree.specs.Faults.{all_rules, fault_of}
use Rattle.flow_tree.proofs.Ruling.{rule_at, rule_broken, rule_first, rule_later, rules_over}
use Rattle.flow_tree.proofs.tree.first_rule.Goals as goal

pub returns-then-is_some : goal.returns-then-is_some
returns-then-is_some c =
    let i = c.loop-rule.rule-index in
    let here = sym (rule_broken (rule_at all_rules i) c.args.execs.now _ c.first_broken.ensures) ∙ sym c.is_some.ensures ∙ c.if-is_some.true in
    record { first = sym c.loop-rule.invariant ∙ rule_first all_rules i c.args.execs.now c.loop-rule-test.true here; is_broken = here }

pub loop-rule-preserved : goal.loop-rule-preserved
loop-rule-preserved c =
    let i = c.loop-rule.rule-index in
    let not_here = sym (rule_broken (rule_at all_rules i) c.args.execs.now _ c.first_broken.ensures) ∙ sym c.is_some.ensures ∙ c.if-is_some.false in
    sym (rule_later all_rules i c.args.execs.now c.loop-rule-test.true not_here) ∙ c.loop-rule.invariant

pub returns : goal.returns
returns c = sym c.loop-rule.invariant ∙ rules_over all_rules c.loop-rule.rule-index c.args.execs.now c.loop-rule-test.false

pub loop-rule-init : goal.loop-rule-init
unfolding fault_of
loop-rule-init c = refl
