-- The equations of `setup_of`.
use Rattle.std.proofs.Common.{◌≡◌, Bool, true, false, not, ◌&&◌, ◌||◌, cond, List, [], ◌∷◌, map, refl, ap, sym, ◌∙◌}
use Rattle.std.specs.List.{list_any, list_all}
use Rattle.flow_tree.specs.declared.exec.Requirement.{Requirement}
use Rattle.flow_tree.specs.Faults.{is_condition}
use Rattle.flow_tree.specs.Flow.{is_required, is_alternative}
use Rattle.flow_tree.specs.Places.{shape_in}
use Rattle.flow_tree.specs.Words.{is_offered}
use Rattle.flow_tree.specs.declared.exec.Exec.{Exec, out-Exec, fold_out-Exec}
use Rattle.flow_tree.specs.declared.exec.Kind.{Kind}
use Rattle.flow_tree.specs.declared.exec.Cond.{Cond}
use Rattle.flow_tree.specs.declared.exec.Body.TheVariants as body
use Rattle.flow_tree.specs.declared.exec.Body.TheVariants.{Auth, Sub, outs-Auth, outs-Cond, outs-Sub}
use Rattle.flow_tree.specs.declared.exec.Body.{Body, out-Body, fold-Body, fold_out-Body, map-Body}
use Rattle.flow_tree.specs.declared.exec.Body.TheOpen.{Body-F}
use Rattle.conditions.specs.declared.account.AccountView.{AccountView}
use Rattle.conditions.specs.declared.setup.Setup.{Setup}
use Rattle.conditions.specs.Setup.{Inner, Leaf, Test, Flow, setup_in, inner_body, setup_step, setup_of, step_setup, kind_configured, configured_over, is_set_up, is_required_step}

unfoldable inner_of : AccountView → Body → Inner
inner_of a b = fold-Body Inner Setup inner_body (setup_step a) b

setup_out : (a : AccountView) (e : Exec) → setup_of a e ≡ setup_in a (out-Exec e).requirement (inner_of a (out-Exec e).body)
unfolding setup_of inner_of
setup_out a e = fold_out-Exec Inner Setup inner_body (setup_step a) e

abbrev inner_at : AccountView → Body-F Body Exec → Inner
inner_at a (Body-F.Auth kind) = Leaf kind
inner_at a (Body-F.Cond c) = Test
inner_at a (Body-F.Sub es) = Flow (map (setup_of a) es)

inner_step : (a : AccountView) (x : Body-F Body Exec) → inner_body (map-Body Body Exec Inner Setup (inner_of a) (setup_of a) x) ≡ inner_at a x
inner_step a (Body-F.Auth kind) = refl
inner_step a (Body-F.Cond c) = refl
inner_step a (Body-F.Sub es) = refl

inner_out : (a : AccountView) (b : Body) → inner_of a b ≡ inner_at a (out-Body b)
unfolding setup_of inner_of
inner_out a b = fold_out-Body Inner Setup inner_body (setup_step a) b ∙ inner_step a (out-Body b)

setup_body : (a : AccountView) (e : Exec) (b : Body) (x : Body-F Body Exec) → e.body ≡ b → out-Body b ≡ x → setup_of a e ≡ setup_in a e.requirement (inner_at a x)
setup_body a e b x is out = setup_out a e ∙ ap (λ y. setup_in a e.requirement (inner_of a y)) is ∙ ap (setup_in a e.requirement) (inner_out a b ∙ ap (inner_at a) out)

-- the three kinds of executions
pub setup_leaf : (a : AccountView) (e : Exec) (k : Kind) → e.body ≡ Auth k → setup_of a e ≡ step_setup e.requirement (kind_configured a k)
setup_leaf a e k is = setup_body a e (Auth k) _ is (outs-Auth k)

pub setup_test : (a : AccountView) (e : Exec) (k : Cond) → e.body ≡ body.Cond k → setup_of a e ≡ setup_in a e.requirement Test
setup_test a e k is = setup_body a e (body.Cond k) _ is (outs-Cond k)

pub setup_flow : (a : AccountView) (e : Exec) (es : List Exec) → e.body ≡ Sub es → setup_of a e ≡ step_setup e.requirement (configured_over (map (setup_of a) es))
setup_flow a e es is = setup_body a e (Sub es) _ is (outs-Sub es)

-- ---- the executions in words

and_true : (b : Bool) → (b && true) ≡ b
and_true true = refl
and_true false = refl

and_false : (b : Bool) → (b && false) ≡ false
and_false true = refl
and_false false = refl

required_at : (a : AccountView) (r : Requirement) (x : Body-F Body Exec) → (setup_in a r (inner_at a x)).required ≡ (is_required r && not (is_condition (shape_in x)))
required_at a r (Body-F.Auth k) = sym (and_true (is_required r))
required_at a r (Body-F.Cond c) = sym (and_false (is_required r))
required_at a r (Body-F.Sub es) = sym (and_true (is_required r))

offered_at : (a : AccountView) (r : Requirement) (x : Body-F Body Exec) → (setup_in a r (inner_at a x)).offered ≡ (is_alternative r && not (is_condition (shape_in x)))
offered_at a r (Body-F.Auth k) = sym (and_true (is_alternative r))
offered_at a r (Body-F.Cond c) = sym (and_false (is_alternative r))
offered_at a r (Body-F.Sub es) = sym (and_true (is_alternative r))

required_is : (a : AccountView) (e : Exec) → (setup_of a e).required ≡ is_required_step e
required_is a e = ap (λ (s : Setup). s.required) (setup_body a e e.body (out-Body e.body) refl refl) ∙ required_at a e.requirement (out-Body e.body)

offered_is : (a : AccountView) (e : Exec) → (setup_of a e).offered ≡ is_offered e
offered_is a e = ap (λ (s : Setup). s.offered) (setup_body a e e.body (out-Body e.body) refl refl) ∙ offered_at a e.requirement (out-Body e.body)

any_setup : (p : Setup → Bool) (q : Exec → Bool) (a : AccountView) (es : List Exec) → ((e : Exec) → p (setup_of a e) ≡ q e) → list_any p (map (setup_of a) es) ≡ list_any q es
any_setup p q a [] h = refl
any_setup p q a (e ∷ es) h = ap (λ b. b || list_any p (map (setup_of a) es)) (h e) ∙ ap (λ b. q e || b) (any_setup p q a es h)

all_setup : (p : Setup → Bool) (q : Exec → Bool) (a : AccountView) (es : List Exec) → ((e : Exec) → p (setup_of a e) ≡ q e) → list_all p (map (setup_of a) es) ≡ list_all q es
all_setup p q a [] h = refl
all_setup p q a (e ∷ es) h = ap (λ b. b && list_all p (map (setup_of a) es)) (h e) ∙ ap (λ b. q e && b) (all_setup p q a es h)

configured_by : (a : AccountView) (es : List Exec) → configured_over (map (setup_of a) es) ≡ cond (list_any is_required_step es) (list_all (λ (e : Exec). not (is_required_step e) || is_set_up a e) es) (list_any (λ (e : Exec). is_offered e && is_set_up a e) es)
configured_by a es =
    let ss = map (setup_of a) es in
    let each = list_all (λ (s : Setup). not s.required || s.configured) ss in
    let some = list_any (λ (s : Setup). s.offered && s.configured) ss in
    ap (λ b. cond b each some) (any_setup (λ (s : Setup). s.required) is_required_step a es (required_is a))
    ∙ ap (λ b. cond (list_any is_required_step es) b some) (all_setup (λ (s : Setup). not s.required || s.configured) (λ (e : Exec). not (is_required_step e) || is_set_up a e) a es (λ e. ap (λ b. not b || is_set_up a e) (required_is a e)))
    ∙ ap (cond (list_any is_required_step es) (list_all (λ (e : Exec). not (is_required_step e) || is_set_up a e) es)) (any_setup (λ (s : Setup). s.offered && s.configured) (λ (e : Exec). is_offered e && is_set_up a e) a es (λ e. ap (λ b. b && is_set_up a e) (offered_is a e)))

pub configured_required : (a : AccountView) (es : List Exec) → list_any is_required_step es ≡ true → configured_over (map (setup_of a) es) ≡ list_all (λ (e : Exec). not (is_required_step e) || is_set_up a e) es
configured_required a es some = configured_by a es ∙ ap (λ b. cond b (list_all (λ (e : Exec). not (is_required_step e) || is_set_up a e) es) (list_any (λ (e : Exec). is_offered e && is_set_up a e) es)) some

pub configured_offered : (a : AccountView) (es : List Exec) → list_any is_required_step es ≡ false → configured_over (map (setup_of a) es) ≡ list_any (λ (e : Exec). is_offered e && is_set_up a e) es
configured_offered a es none = configured_by a es ∙ ap (λ b. cond b (list_all (λ (e : Exec). not (is_required_step e) || is_set_up a e) es) (list_any (λ (e : Exec). is_offered e && is_set_up a e) es)) none
