use Rattle.std.proofs.Common.{◌∙◌, ap, sym, refl}
use Rattle.std.specs.Prelude.{is_some}
use Rattle.flow_tree.specs.Standing.{before_of}
use Rattle.flow_tree.proofs.Breaking.{breaks_here, breaks_leaf, breaks_test, breaks_next, found_in_flow, first_end, none_of}
use Rattle.flow_tree.proofs.search.+searching.Goals as goal

pub is_broken_in-returns-then-breaks : goal.is_broken_in-returns-then-breaks
is_broken_in-returns-then-breaks t c = sym (ap is_some (breaks_here c.args.rule _ _ c.args.exec.now (sym c.breaks.ensures ∙ c.if-breaks.true)))

pub is_broken_in-returns-in-Auth : goal.is_broken_in-returns-in-Auth
is_broken_in-returns-in-Auth t c = sym (ap is_some (breaks_leaf c.args.rule _ _ c.args.exec.now c.in-Auth.field-0 c.in-Auth.is (sym c.breaks.ensures ∙ c.if-breaks.false)))

pub is_broken_in-returns-in-Cond : goal.is_broken_in-returns-in-Cond
is_broken_in-returns-in-Cond t c = sym (ap is_some (breaks_test c.args.rule _ _ c.args.exec.now c.in-Cond.field-0 c.in-Cond.is (sym c.breaks.ensures ∙ c.if-breaks.false)))

pub is_broken_in-returns-in-Sub : goal.is_broken_in-returns-in-Sub
is_broken_in-returns-in-Sub t c = c.is_some.ensures ∙ found_in_flow c.args.rule c.args.exec.now c.in-Sub.execs _ c.args.before _ _ c.first_broken.ensures c.as_slice.ensures refl c.in-Sub.is (sym c.breaks.ensures ∙ c.if-breaks.false)

pub first_broken-returns-then-is_broken_in : goal.first_broken-returns-then-is_broken_in
first_broken-returns-then-is_broken_in t c = record {
  within = c.loop-i-test.true;
  none = c.loop-i.invariant;
  some = ap is_some (breaks_next c.args.rule c.args.execs.now c.loop-i.i c.index-execs-i.result c.args.before c.split_at.result.0 _ refl c.split_at.ensures.front c.loop-i-test.true c.index-execs-i.is c.loop-i.invariant) ∙ sym c.is_broken_in.ensures ∙ c.if-is_broken_in.true;
}

pub first_broken-loop-i-preserved : goal.first_broken-loop-i-preserved
first_broken-loop-i-preserved t c =
    breaks_next c.args.rule c.args.execs.now c.loop-i.i c.index-execs-i.result c.args.before c.split_at.result.0 _ refl c.split_at.ensures.front c.loop-i-test.true c.index-execs-i.is c.loop-i.invariant
    ∙ none_of _ (sym c.is_broken_in.ensures ∙ c.if-is_broken_in.false)

pub first_broken-loop-i-init : goal.first_broken-loop-i-init
first_broken-loop-i-init t c = first_end c.args.rule (before_of c.args.before.now)
