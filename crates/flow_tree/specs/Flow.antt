-- When executions act, when flows hold, what is needed, and which levels are reached, over a list
-- of the ids that are true.
use Rattle.std.specs.Prelude.{ℕ, Bool, true, false, not, ◌==◌, ◌&&◌, ◌||◌, if◌then◌else◌, List, [], ◌∷◌, map}
use Rattle.std.specs.List.{list_all, list_any, flat_map}
use Rattle.std.specs.Str.{bytes_eq}
use Rattle.flow_tree.specs.declared.exec.Requirement.{Requirement}
use Rattle.flow_tree.specs.declared.exec.Requirement.TheVariants.{Required, Alternative, Conditional, Disabled}
use Rattle.flow_tree.specs.declared.exec.Cond.{Cond}
use Rattle.flow_tree.specs.declared.exec.Cond.TheVariants as cond
use Rattle.flow_tree.specs.declared.exec.Exec.{Exec, Exec-F, fold-Exec}
use Rattle.flow_tree.specs.declared.exec.Body.TheOpen.{Body-F}
use Rattle.flow_tree.specs.declared.verdict.Verdict.{Verdict}

-- the id is in the list
abbrev pub has : List (List ℕ) → List ℕ → Bool
has t id = list_any (λ held. bytes_eq held id) t

abbrev pub is_required : Requirement → Bool
is_required Required = true
is_required Alternative = false
is_required Conditional = false
is_required Disabled = false

abbrev pub is_alternative : Requirement → Bool
is_alternative Required = false
is_alternative Alternative = true
is_alternative Conditional = false
is_alternative Disabled = false

abbrev pub is_conditional : Requirement → Bool
is_conditional Required = false
is_conditional Alternative = false
is_conditional Conditional = true
is_conditional Disabled = false

abbrev pub is_disabled : Requirement → Bool
is_disabled Required = false
is_disabled Alternative = false
is_disabled Conditional = false
is_disabled Disabled = true

-- the condition is one of this level
abbrev pub is_level : ℕ → Cond → Bool
is_level level (cond.Role role negate) = false
is_level level cond.Configured = false
is_level level (cond.Level own age) = own == level

-- an execution with what is asked of it: what it is to its flow, what it needs, whether it is an
-- enabled condition of a level, and whether a level is reached in it
pub record Judged : Type 0 where
  pub verdict : Verdict
  pub needs : List (List ℕ)
  pub tests : ℕ → Bool
  pub reaches : ℕ → Bool

-- a body whose executions are judged
pub data Judging : Type 0 where
  Leaf : Judging
  Test : Cond → Judging
  Flow : List Judged → Judging

abbrev pub verdicts : List Judged → List Verdict
verdicts js = map (λ (j : Judged). j.verdict) js

abbrev pub some_acts : List Verdict → Bool
some_acts vs = list_any (λ (v : Verdict). v.acts) vs

-- some execution acts and each that acts holds; or none acts and some alternative holds
abbrev pub holds_over : List Verdict → Bool
holds_over vs =
    if some_acts vs then list_all (λ (v : Verdict). not v.acts || v.holds) vs
    else list_any (λ (v : Verdict). v.offers && v.holds) vs

-- there is an enabled condition, and each of them is true
abbrev pub opens_over : List Verdict → Bool
opens_over vs = list_any (λ (v : Verdict). v.opens) vs && not (list_any (λ (v : Verdict). v.blocks) vs)

-- the needs of the first that acts and doesn't hold
abbrev pub first_needs : List Judged → List (List ℕ)
first_needs [] = []
first_needs (j ∷ js) = if j.verdict.acts && not j.verdict.holds then j.needs else first_needs js

-- the needs of the alternatives, in order
abbrev pub offered_needs : List Judged → List (List ℕ)
offered_needs js = flat_map (λ (j : Judged). if j.verdict.offers then j.needs else []) js

-- none where the flow holds; else those of the first that acts and doesn't hold; where none acts,
-- those of its alternatives
abbrev pub needs_over : List Judged → List (List ℕ)
needs_over js =
    if holds_over (verdicts js) then []
    else (if some_acts (verdicts js) then first_needs js else offered_needs js)

-- a leaf, which is true or not
abbrev pub leaf_verdict : Requirement → Bool → Verdict
leaf_verdict r here = record { acts = is_required r; offers = is_alternative r; opens = false; blocks = false; holds = here }

-- a condition neither acts nor offers: it opens or blocks the flow that it stands in
abbrev pub test_verdict : Requirement → Bool → Verdict
test_verdict r here = record { acts = false; offers = false; opens = is_required r && here; blocks = is_required r && not here; holds = false }

-- a subflow acts where it is required, or where it is conditional and its conditions let it
abbrev pub flow_verdict : Requirement → List Verdict → Verdict
flow_verdict r vs = record { acts = is_required r || (is_conditional r && opens_over vs); offers = is_alternative r; opens = false; blocks = false; holds = holds_over vs }

-- it takes part and is satisfied
abbrev pub stands : Verdict → Bool
stands v = v.acts && v.holds

-- a level is reached in a conditional subflow that acts and holds and has an enabled condition of
-- it, and wherever it is reached further in; nothing counts in a disabled one
abbrev pub flow_reaches : Requirement → List Judged → ℕ → Bool
flow_reaches r js level =
    not (is_disabled r) && ((is_conditional r && (stands (flow_verdict r (verdicts js)) && list_any (λ (j : Judged). j.tests level) js)) || list_any (λ (j : Judged). j.reaches level) js)

abbrev pub judge : List (List ℕ) → List ℕ → Requirement → Judging → Judged
judge t id r Leaf = record { verdict = leaf_verdict r (has t id); needs = if has t id then [] else id ∷ []; tests = λ level. false; reaches = λ level. false }
judge t id r (Test c) = record { verdict = test_verdict r (has t id); needs = []; tests = λ level. is_required r && is_level level c; reaches = λ level. false }
judge t id r (Flow js) = record { verdict = flow_verdict r (verdicts js); needs = needs_over js; tests = λ level. false; reaches = flow_reaches r js }

abbrev pub body_step : Body-F Judging Judged → Judging
body_step (Body-F.Auth kind) = Leaf
body_step (Body-F.Cond c) = Test c
body_step (Body-F.Sub js) = Flow js

abbrev pub exec_step : List (List ℕ) → Exec-F Judging Judged → Judged
exec_step t e = judge t e.id e.requirement e.body

-- an execution with all below it
unfoldable pub judged : List (List ℕ) → Exec → Judged
judged t e = fold-Exec Judging Judged body_step (exec_step t) e

-- the execution takes part in its flow
abbrev pub acts : List (List ℕ) → Exec → Bool
acts t e = (judged t e).verdict.acts

-- the execution is satisfied
abbrev pub holds : List (List ℕ) → Exec → Bool
holds t e = (judged t e).verdict.holds

-- what the execution is missing, in order
abbrev pub needs : List (List ℕ) → Exec → List (List ℕ)
needs t e = (judged t e).needs

abbrev pub judgements : List (List ℕ) → List Exec → List Verdict
judgements t es = map (λ (e : Exec). (judged t e).verdict) es

-- the flow of these executions is satisfied
abbrev pub flow_holds : List (List ℕ) → List Exec → Bool
flow_holds t es = holds_over (judgements t es)

-- what the flow of these executions is missing, in order
abbrev pub flow_needs : List (List ℕ) → List Exec → List (List ℕ)
flow_needs t es = needs_over (map (judged t) es)

-- the level has a live condition whose subflow acts and holds
abbrev pub level_holds : List (List ℕ) → ℕ → List Exec → Bool
level_holds t level es = list_any (λ (e : Exec). (judged t e).reaches level) es
