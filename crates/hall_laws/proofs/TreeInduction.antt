-- Induction over executions.
use Rattle.std.proofs.Common.{◌≡◌, List, [], ◌∷◌, map, sym, subst, ◌∙◌}
use Rattle.flow_tree.specs.declared.exec.Cond.{Cond}
use Rattle.flow_tree.specs.declared.exec.Exec.{Exec, roll-Exec, ind-Exec}
use Rattle.flow_tree.specs.declared.exec.Kind.{Kind}
use Rattle.flow_tree.specs.declared.exec.Body.{Body, out-Body, roll-Body, out-roll-Body, roll-out-Body, map-Body}
use Rattle.flow_tree.specs.declared.exec.Body.TheOpen.{Body-F}
use Rattle.flow_tree.specs.declared.exec.Body.TheVariants as body
use Rattle.flow_tree.specs.declared.exec.Body.TheVariants.{Auth, Sub, rolls-Auth, rolls-Cond, rolls-Sub}

abbrev pub Each : (Exec → Type 0) → List Exec → Type 0
Each Q [] = Unit {0}
Each Q (e ∷ es) = Q e × Each Q es

pub each_of : (Q : Exec → Type 0) → ((e : Exec) → Q e) → (es : List Exec) → Each Q es
each_of Q all [] = tt
each_of Q all (e ∷ es) = (all e, each_of Q all es)

module _ (Q : Exec → Type 0) where
  -- it holds of each execution in a body
  abbrev Within : Body-F Body Exec → Type 0
  Within (Body-F.Auth kind) = Unit {0}
  Within (Body-F.Cond c) = Unit {0}
  Within (Body-F.Sub es) = Each Q es

  proved : (es : List ((e : Exec) × Q e)) → Each Q (map (λ e. e.0) es)
  proved [] = tt
  proved (e ∷ es) = (e.1, proved es)

  within_of : {B : Type 0} (f : B → Body) (y : Body-F B ((e : Exec) × Q e)) → Within (map-Body B ((e : Exec) × Q e) Body Exec f (λ e. e.0) y)
  within_of f (Body-F.Auth kind) = tt
  within_of f (Body-F.Cond c) = tt
  within_of f (Body-F.Sub es) = proved es

  module _ (leaf : (e : Exec) (kind : Kind) → e.body ≡ Auth kind → Q e) (test : (e : Exec) (c : Cond) → e.body ≡ body.Cond c → Q e)
      (flow : (e : Exec) (es : List Exec) → e.body ≡ Sub es → Each Q es → Q e) where
    by_body : (e : Exec) (x : Body-F Body Exec) → e.body ≡ roll-Body x → Within x → Q e
    by_body e (Body-F.Auth kind) is all = leaf e kind (is ∙ rolls-Auth kind)
    by_body e (Body-F.Cond c) is all = test e c (is ∙ rolls-Cond c)
    by_body e (Body-F.Sub es) is all = flow e es (is ∙ rolls-Sub es) all

    -- an execution is a leaf, a condition, or a flow of executions of which it holds
    pub exec_induction : (e : Exec) → Q e
    exec_induction =
        ind-Exec (λ b. Within (out-Body b)) Q
        (λ x y is. subst Within (sym (out-roll-Body x)) (subst Within is (within_of (λ b. b.0) y)))
        (λ x y is.
        let all = subst (λ z. Within (out-Body z.body)) is y.body.1 in
        by_body (roll-Exec x) (out-Body (roll-Exec x).body) (sym (roll-out-Body (roll-Exec x).body)) all)
