use Rattle.std.proofs.Common.{◌||◌, [], ◌∷◌, ap, sym, ◌∙◌}
use Rattle.std.specs.List.{list_any}
use Rattle.flow_tree.specs.Places.{places_at}
use Rattle.flow_tree.specs.Standing.{is_sought, depth_of, before_of}
use Rattle.flow_tree.proofs.Earlier.{before_nothing, before_flow, before_all, any_append, flow_place, sought_flow}
use Rattle.flow_tree.proofs.before.Before.+has.Goals as goal

pub returns-in-Nothing : goal.returns-in-Nothing
returns-in-Nothing t c = sym (ap (list_any (is_sought c.args.sought.now)) (before_nothing _ c.in-Nothing.is))

pub returns-then-has : goal.returns-then-has
returns-then-has t c =
    let sought = is_sought c.args.sought.now in
    let parts = ap (list_any sought) (before_flow _ _ _ _ c.in-Flow.is) ∙ any_append sought (before_of c.in-Flow.before.now) _ in
    c.if-has.true ∙ sym (parts ∙ ap (λ b. b || list_any sought (flow_place (depth_of c.in-Flow.before.now) c.in-Flow.id.now c.in-Flow.requirement ∷ [])) (sym c.has.ensures ∙ c.if-has.true))

pub returns-else-has : goal.returns-else-has
returns-else-has t c =
    let sought = is_sought c.args.sought.now in
    let parts = ap (list_any sought) (before_flow _ _ _ _ c.in-Flow.is) ∙ any_append sought (before_of c.in-Flow.before.now) _ in
    c.is_named.ensures ∙ sym (parts ∙ ap (λ b. b || list_any sought (flow_place (depth_of c.in-Flow.before.now) c.in-Flow.id.now c.in-Flow.requirement ∷ [])) (sym c.has.ensures ∙ c.if-has.false) ∙ sought_flow c.args.sought.now _ _ _)

pub returns-then-has-2 : goal.returns-then-has-2
returns-then-has-2 t c =
    let sought = is_sought c.args.sought.now in
    let parts = ap (list_any sought) (before_all _ _ _ c.in-All.is) ∙ any_append sought (before_of c.in-All.before.now) _ in
    c.if-has-2.true ∙ sym (parts ∙ ap (λ b. b || list_any sought (places_at (depth_of c.in-All.before.now) c.in-All.execs.now)) (sym c.has-in-All.ensures ∙ c.if-has-2.true))

pub returns-else-has-2 : goal.returns-else-has-2
returns-else-has-2 t c =
    let sought = is_sought c.args.sought.now in
    let parts = ap (list_any sought) (before_all _ _ _ c.in-All.is) ∙ any_append sought (before_of c.in-All.before.now) _ in
    c.is_among.ensures.value (depth_of c.in-All.before.now) ∙ sym (parts ∙ ap (λ b. b || list_any sought (places_at (depth_of c.in-All.before.now) c.in-All.execs.now)) (sym c.has-in-All.ensures ∙ c.if-has-2.false))
