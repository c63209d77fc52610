use Rattle.std.proofs.Common.{◌∙◌, ap, sym}
use Rattle.flow_truths.specs.Truths.{ids_where, truths_among}
use Rattle.flow_tree.proofs.Adding.{adds}
use Rattle.flow_truths.proofs.Telling.{told_leaf, told_test, told_flow}
use Rattle.flow_truths.proofs.truths.+telling.Goals as goal

pub add_truths_in-returns-in-Auth : goal.add_truths_in-returns-in-Auth
add_truths_in-returns-in-Auth t c =
    let here = ap (λ b. ids_where b c.args.exec.now.id) c.is_leaf_true-is_true.ensures in
    let told = told_leaf c.args.view.now c.args.cookie c.args.beside c.args.exec.now c.in-Auth.kind c.in-Auth.is in
    adds _ _ _ _ _ (here ∙ sym told) c.add_where.ensures

pub add_truths_in-returns-in-Cond : goal.add_truths_in-returns-in-Cond
add_truths_in-returns-in-Cond t c =
    let here = ap (λ b. ids_where b c.args.exec.now.id) c.is_condition_true-is_true.ensures in
    let told = told_test c.args.view.now c.args.cookie c.args.beside c.args.exec.now c.in-Cond.cond c.in-Cond.is in
    adds _ _ _ _ _ (here ∙ sym told) c.add_where-in-Cond.ensures

pub add_truths_in-returns-in-Sub : goal.add_truths_in-returns-in-Sub
add_truths_in-returns-in-Sub t c =
    let here = ap (truths_among c.args.view.now c.args.cookie) c.as_slice.ensures in
    let told = told_flow c.args.view.now c.args.cookie c.args.beside c.args.exec.now c.in-Sub.execs c.in-Sub.is in
    adds _ _ _ _ _ (here ∙ sym told) c.add_truths.ensures
