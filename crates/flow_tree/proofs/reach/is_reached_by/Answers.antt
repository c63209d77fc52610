use Rattle.std.proofs.Common.{◌∙◌, ◌&&◌, ap, sym, true}
use Rattle.std.specs.List.{list_any}
use Rattle.flow_tree.specs.declared.exec.Exec.{Exec}
use Rattle.flow_tree.specs.Flow.{judged, is_conditional, stands}
use Rattle.flow_tree.proofs.reach.is_reached_by.Goals as goal

pub returns-then-stands : goal.returns-then-stands
returns-then-stands c =
    let held = c.args.held.now in
    let conditional = sym c.if-not-is_conditional.false ∙ c.is_conditional.ensures.value in
    let standing = sym c.if-stands.true ∙ c.stands.ensures ∙ ap stands c.judge.ensures in
    let some = list_any (λ (e : Exec). (judged held e).tests c.args.level) c.args.execs.now in
    c.some_tests.ensures held ∙ ap (λ b. b && (true && some)) conditional ∙ ap (λ b. is_conditional c.args.flow.now.requirement && (b && some)) standing
