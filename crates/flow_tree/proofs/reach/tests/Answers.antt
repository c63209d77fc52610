use Rattle.std.proofs.Common.{◌∙◌, sym, refl, true, false}
use Rattle.flow_tree.proofs.Reaching.{tests_leaf, tests_flow, tests_test}
use Rattle.flow_tree.proofs.reach.tests.Goals as goal

pub returns-then-is_required : goal.returns-then-is_required
returns-then-is_required c = λ t. tests_test t c.args.exec.now c.in-Cond.cond c.args.level true _ c.in-Cond.is (sym c.if-is_required.true ∙ c.is_required.ensures.value) c.is_level.ensures.value

pub returns-else-is_required : goal.returns-else-is_required
returns-else-is_required c = λ t. c.if-is_required.false ∙ tests_test t c.args.exec.now c.in-Cond.cond c.args.level false _ c.in-Cond.is (sym c.if-is_required.false ∙ c.is_required.ensures.value) refl

pub returns-in-Auth : goal.returns-in-Auth
returns-in-Auth c = λ t. tests_leaf t c.args.exec.now c.in-Auth.field-0 c.args.level c.in-Auth.is

pub returns-in-Sub : goal.returns-in-Sub
returns-in-Sub c = λ t. tests_flow t c.args.exec.now c.in-Sub.field-0 c.args.level c.in-Sub.is
