-- The equations of `told`.
use Rattle.std.proofs.Common.{◌≡◌, Bool, List, [], ◌∷◌, ◌++◌, map, refl, ap, sym, ◌∙◌}
use Rattle.std.specs.List.{flat_map}
use Rattle.flow_tree.specs.declared.exec.Exec.{Exec, out-Exec, roll-out-Exec, para-roll-Exec}
use Rattle.flow_tree.specs.declared.exec.Kind.{Kind}
use Rattle.flow_tree.specs.declared.exec.Cond.{Cond}
use Rattle.flow_tree.specs.declared.exec.Body.TheVariants as body
use Rattle.flow_tree.specs.declared.exec.Body.TheVariants.{Auth, Sub, outs-Auth, outs-Cond, outs-Sub}
use Rattle.flow_tree.specs.declared.exec.Body.{Body, out-Body, roll-out-Body, para-Body, para-roll-Body, map-Body}
use Rattle.flow_tree.specs.declared.exec.Body.TheOpen.{Body-F}
use Rattle.conditions.specs.Setup.{configured}
use Rattle.flow_truths.specs.declared.view.LoginView.{LoginView}
use Rattle.flow_truths.specs.Truth.{is_leaf_true, is_condition_true}
use Rattle.flow_truths.specs.Truths.{Told, Inner, Leaf, Test, Flow, ids_in, ids_where, inner_body, execs_of, told, told_exec, told_together, truths_in, truths_among}

unfoldable inner_of : LoginView → Bool → Body → Inner
inner_of v k b = para-Body Inner Told inner_body (told_exec v k) b

told_out : (v : LoginView) (k : Bool) (e : Exec) → told v k e ≡ ids_in v k (out-Exec e).id (inner_of v k (out-Exec e).body)
unfolding told inner_of
told_out v k e = ap (told v k) (sym (roll-out-Exec e)) ∙ para-roll-Exec Inner Told inner_body (told_exec v k) (out-Exec e)

abbrev beside : LoginView → Bool → Exec → Exec × Told
beside v k e = (e, told v k e)

abbrev inner_at : LoginView → Bool → Body-F Body Exec → Inner
inner_at v k (Body-F.Auth kind) = Leaf kind
inner_at v k (Body-F.Cond c) = Test c
inner_at v k (Body-F.Sub es) = Flow (map (beside v k) es)

inner_step : (v : LoginView) (k : Bool) (x : Body-F Body Exec) → inner_body (map-Body Body Exec (Body × Inner) (Exec × Told) (λ b. (b, inner_of v k b)) (beside v k) x) ≡ inner_at v k x
inner_step v k (Body-F.Auth kind) = refl
inner_step v k (Body-F.Cond c) = refl
inner_step v k (Body-F.Sub es) = refl

inner_out : (v : LoginView) (k : Bool) (b : Body) → inner_of v k b ≡ inner_at v k (out-Body b)
unfolding told inner_of
inner_out v k b = ap (inner_of v k) (sym (roll-out-Body b)) ∙ para-roll-Body Inner Told inner_body (told_exec v k) (out-Body b) ∙ inner_step v k (out-Body b)

told_body : (v : LoginView) (k : Bool) (e : Exec) (b : Body) (x : Body-F Body Exec) → e.body ≡ b → out-Body b ≡ x → told v k e ≡ ids_in v k e.id (inner_at v k x)
told_body v k e b x is out = told_out v k e ∙ ap (λ y. ids_in v k e.id (inner_of v k y)) is ∙ ap (ids_in v k e.id) (inner_out v k b ∙ ap (inner_at v k) out)

-- the executions themselves
firsts : (v : LoginView) (k : Bool) (es : List Exec) → execs_of (map (beside v k) es) ≡ es
firsts v k [] = refl
firsts v k (e ∷ es) = ap (λ xs. e ∷ xs) (firsts v k es)

-- what is true in each
seconds : (v : LoginView) (k b : Bool) (es : List Exec) → flat_map (λ (x : Exec × Told). x.1 b) (map (beside v k) es) ≡ flat_map (truths_in v k b) es
seconds v k b [] = refl
seconds v k b (e ∷ es) = ap (λ ids. told v k e b ++ ids) (seconds v k b es)

together : (v : LoginView) (k : Bool) (es : List Exec) → told_together v (map (beside v k) es) ≡ truths_among v k es
together v k es =
    ap (λ xs. flat_map (λ (x : Exec × Told). x.1 (configured v.account xs)) (map (beside v k) es)) (firsts v k es)
    ∙ seconds v k (configured v.account es) es

-- the three kinds of executions
pub told_leaf : (v : LoginView) (k b : Bool) (e : Exec) (kind : Kind) → e.body ≡ Auth kind → truths_in v k b e ≡ ids_where (is_leaf_true v k e.id kind) e.id
told_leaf v k b e kind is = ap (λ (t : Told). t b) (told_body v k e (Auth kind) _ is (outs-Auth kind))

pub told_test : (v : LoginView) (k b : Bool) (e : Exec) (c : Cond) → e.body ≡ body.Cond c → truths_in v k b e ≡ ids_where (is_condition_true v b c) e.id
told_test v k b e c is = ap (λ (t : Told). t b) (told_body v k e (body.Cond c) _ is (outs-Cond c))

pub told_flow : (v : LoginView) (k b : Bool) (e : Exec) (es : List Exec) → e.body ≡ Sub es → truths_in v k b e ≡ truths_among v k es
told_flow v k b e es is = ap (λ (t : Told). t b) (told_body v k e (Sub es) _ is (outs-Sub es)) ∙ together v k es
