-- Which leaves and conditions of a tree are true.
use Rattle.std.specs.Prelude.{ℕ, Bool, if◌then◌else◌, List, [], ◌∷◌, map}
use Rattle.std.specs.List.{flat_map}
use Rattle.flow_tree.specs.declared.exec.Cond.{Cond}
use Rattle.flow_tree.specs.declared.exec.Kind.{Kind}
use Rattle.flow_tree.specs.declared.exec.Exec.{Exec, Exec-F, para-Exec}
use Rattle.flow_tree.specs.declared.exec.Body.{Body}
use Rattle.flow_tree.specs.declared.exec.Body.TheOpen.{Body-F}
use Rattle.conditions.specs.Setup.{configured}
use Rattle.flow_truths.specs.declared.view.LoginView.{LoginView}
use Rattle.flow_truths.specs.Truth.{cookie_holds, is_leaf_true, is_condition_true}

-- the id, where what has it is true
abbrev pub ids_where : Bool → List ℕ → List (List ℕ)
ids_where is_true id = if is_true then id ∷ [] else []

-- the ids that are true in an execution, by whether what stands beside it is configured
abbrev pub Told : Type 0
Told = Bool → List (List ℕ)

-- a body; a subflow's executions each with what is true in it
pub data Inner : Type 0 where
  Leaf : Kind → Inner
  Test : Cond → Inner
  Flow : List (Exec × Told) → Inner

abbrev pub execs_of : List (Exec × Told) → List Exec
execs_of es = map (λ (e : Exec × Told). e.0) es

-- what is true in a flow's executions, each beside the others
abbrev pub told_together : LoginView → List (Exec × Told) → List (List ℕ)
told_together view es = flat_map (λ (e : Exec × Told). e.1 (configured view.account (execs_of es))) es

-- a leaf or a condition where it is true; of a subflow what is true in its executions
abbrev pub ids_in : LoginView → Bool → List ℕ → Inner → Told
ids_in view cookie id (Leaf kind) beside = ids_where (is_leaf_true view cookie id kind) id
ids_in view cookie id (Test c) beside = ids_where (is_condition_true view beside c) id
ids_in view cookie id (Flow es) beside = told_together view es

abbrev pub inner_body : Body-F (Body × Inner) (Exec × Told) → Inner
inner_body (Body-F.Auth kind) = Leaf kind
inner_body (Body-F.Cond c) = Test c
inner_body (Body-F.Sub es) = Flow es

abbrev pub told_exec : LoginView → Bool → Exec-F (Body × Inner) (Exec × Told) → Told
told_exec view cookie e = ids_in view cookie e.id e.body.1

unfoldable pub told : LoginView → Bool → Exec → Told
told view cookie e = para-Exec Inner Told inner_body (told_exec view cookie) e

-- the ids that are true in an execution, where a cookie is true or isn't, and what stands beside
-- the execution is configured or isn't
abbrev pub truths_in : LoginView → Bool → Bool → Exec → List (List ℕ)
truths_in view cookie beside e = told view cookie e beside

-- the ids that are true in the flow of these executions, each beside the others
abbrev pub truths_among : LoginView → Bool → List Exec → List (List ℕ)
truths_among view cookie es = flat_map (truths_in view cookie (configured view.account es)) es

-- the ids that are true in an execution of a tree, beside these executions of its flow
abbrev pub truths_beside : LoginView → List Exec → List Exec → Exec → List (List ℕ)
truths_beside view tree siblings e = truths_in view (cookie_holds view tree) (configured view.account siblings) e

-- the ids of the leaves and conditions of a tree that are true, in document order, disabled ones too
abbrev pub truths : LoginView → List Exec → List (List ℕ)
truths view tree = truths_among view (cookie_holds view tree) tree
