use Rattle.std.proofs.Common.{◌+◌, take, ◌∙◌, ap, sym, refl}
use Rattle.std.proofs.lemmas.Option.{get_or_from_slice_get}
use Rattle.flow_tree.specs.Standing.{depth_of, before_of}
use Rattle.flow_tree.proofs.Breaking.{breaks_here, breaks_leaf, breaks_test, breaks_flow, breaks_next, breaks_whole, front_kept, told_at}
use Rattle.flow_tree.proofs.search.+taking.Goals as goal

pub take_in-returns-then-broken : goal.take_in-returns-then-broken
take_in-returns-then-broken t c = sym (breaks_here c.args.rule _ _ c.args.exec (sym c.breaks-broken.ensures ∙ c.if-broken.true))

pub take_in-returns-in-Auth : goal.take_in-returns-in-Auth
take_in-returns-in-Auth t c = sym (breaks_leaf c.args.rule _ _ c.args.exec c.in-Auth.field-0 c.in-Auth.is (sym c.breaks-broken.ensures ∙ c.if-broken.false))

pub take_in-returns-in-Cond : goal.take_in-returns-in-Cond
take_in-returns-in-Cond t c = sym (breaks_test c.args.rule _ _ c.args.exec c.in-Cond.field-0 c.in-Cond.is (sym c.breaks-broken.ensures ∙ c.if-broken.false))

pub take_in-returns : goal.take_in-returns
take_in-returns t c = c.take_first.ensures ∙ sym (breaks_flow c.args.rule c.args.exec c.in-Sub.execs c.args.before _ _ refl refl c.in-Sub.is (sym c.breaks-broken.ensures ∙ c.if-broken.false))

pub take_first-returns : goal.take_first-returns
take_first-returns t c =
    let es = c.args.execs in
    let i = c.in_ok-index.index in
    let found = told_at _ _ _ i c.in_ok-index.was (rw c.as_slice.ensures at c.first_broken.ensures) in
    let item = sym (get_or_from_slice_get es i c.remove-exec.result c.remove-exec.result c.remove-exec.ensures.item) in
    let rest = c.as_slice-2.ensures ∙ c.remove-exec.ensures.rest in
    let front = c.split_at.ensures.front ∙ ap (take i) rest ∙ front_kept es i found.within in
    c.take_in.ensures
    ∙ sym (breaks_whole c.args.rule (before_of c.args.before.now) (depth_of c.args.before.now) es (i + 1) found.some
    ∙ breaks_next c.args.rule es i c.remove-exec.result c.args.before c.split_at.result.0 _ refl front found.within item found.none)
