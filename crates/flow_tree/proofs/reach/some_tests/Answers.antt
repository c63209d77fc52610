use Rattle.std.proofs.Common.{◌∙◌, ap, sym}
use Rattle.std.specs.List.{list_any}
use Rattle.std.proofs.lemmas.List.{take_all}
use Rattle.std.proofs.lemmas.List.Folds.{list_any_more}
use Rattle.flow_tree.specs.declared.exec.Exec.{Exec}
use Rattle.flow_tree.specs.Flow.{judged}
use Rattle.flow_tree.proofs.reach.some_tests.Goals as goal

pub loop-exec-preserved : goal.loop-exec-preserved
loop-exec-preserved c = λ t.
    let test = λ (e : Exec). (judged t e).tests c.args.level in
    list_any_more test c.args.execs.now c.loop-exec.exec-index c.exec-item.result c.loop-exec-test.true ∙ (rw (c.loop-exec.invariant t) (ap test (sym c.exec-item.is) ∙ sym (c.tests.ensures t) ∙ c.if-tests.false))

pub returns : goal.returns
returns c = λ t. sym (c.loop-exec.invariant t) ∙ ap (list_any (λ (e : Exec). (judged t e).tests c.args.level)) (take_all c.loop-exec.exec-index c.args.execs.now c.loop-exec-test.false)
