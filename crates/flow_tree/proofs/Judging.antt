-- The equations of `judged`.
use Rattle.std.proofs.Common.{◌≡◌, ℕ, Bool, List, [], ◌∷◌, map, refl, ap, sym, ◌∙◌}
use Rattle.flow_tree.specs.declared.exec.Exec.{Exec, out-Exec, fold_out-Exec}
use Rattle.flow_tree.specs.declared.exec.Kind.{Kind}
use Rattle.flow_tree.specs.declared.exec.Cond.{Cond}
use Rattle.flow_tree.specs.declared.exec.Body.TheVariants as body
use Rattle.flow_tree.specs.declared.exec.Body.TheVariants.{Auth, Sub, outs-Auth, outs-Cond, outs-Sub}
use Rattle.flow_tree.specs.declared.exec.Body.{Body, out-Body, fold-Body, fold_out-Body, map-Body}
use Rattle.flow_tree.specs.declared.exec.Body.TheOpen.{Body-F}
use Rattle.flow_tree.specs.declared.verdict.Verdict.{Verdict}
use Rattle.flow_tree.specs.declared.verdict.Tally.{Tally}
use Rattle.flow_tree.specs.Flow.{has, judged, judge, Judging, Judged, Leaf, Test, Flow, body_step, exec_step, verdicts, judgements, leaf_verdict, test_verdict, flow_verdict}
use Rattle.flow_tree.specs.Tally.{tally_of, tally_verdict}

unfoldable judging_of : List (List ℕ) → Body → Judging
judging_of t b = fold-Body Judging Judged body_step (exec_step t) b

-- an execution by its parts
judged_out : (t : List (List ℕ)) (e : Exec) → judged t e ≡ judge t (out-Exec e).id (out-Exec e).requirement (judging_of t (out-Exec e).body)
unfolding judged judging_of
judged_out t e = fold_out-Exec Judging Judged body_step (exec_step t) e

abbrev pub judging_at : List (List ℕ) → Body-F Body Exec → Judging
judging_at t (Body-F.Auth kind) = Leaf
judging_at t (Body-F.Cond c) = Test c
judging_at t (Body-F.Sub es) = Flow (map (judged t) es)

judging_step : (t : List (List ℕ)) (x : Body-F Body Exec) → body_step (map-Body Body Exec Judging Judged (judging_of t) (judged t) x) ≡ judging_at t x
judging_step t (Body-F.Auth kind) = refl
judging_step t (Body-F.Cond c) = refl
judging_step t (Body-F.Sub es) = refl

judging_out : (t : List (List ℕ)) (b : Body) → judging_of t b ≡ judging_at t (out-Body b)
unfolding judged judging_of
judging_out t b = fold_out-Body Judging Judged body_step (exec_step t) b ∙ judging_step t (out-Body b)

pub judged_body : (t : List (List ℕ)) (e : Exec) (b : Body) (x : Body-F Body Exec) → e.body ≡ b → out-Body b ≡ x → judged t e ≡ judge t e.id e.requirement (judging_at t x)
judged_body t e b x is out = judged_out t e ∙ ap (λ y. judge t e.id e.requirement (judging_of t y)) is ∙ ap (judge t e.id e.requirement) (judging_out t b ∙ ap (judging_at t) out)

-- the three kinds of executions
pub judged_leaf : (t : List (List ℕ)) (e : Exec) (k : Kind) → e.body ≡ Auth k → judged t e ≡ judge t e.id e.requirement Leaf
judged_leaf t e k is = judged_body t e (Auth k) _ is (outs-Auth k)

pub judged_test : (t : List (List ℕ)) (e : Exec) (k : Cond) → e.body ≡ body.Cond k → judged t e ≡ judge t e.id e.requirement (Test k)
judged_test t e k is = judged_body t e (body.Cond k) _ is (outs-Cond k)

pub judged_flow : (t : List (List ℕ)) (e : Exec) (es : List Exec) → e.body ≡ Sub es → judged t e ≡ judge t e.id e.requirement (Flow (map (judged t) es))
judged_flow t e es is = judged_body t e (Sub es) _ is (outs-Sub es)

pub same_verdicts : (t : List (List ℕ)) (es : List Exec) → verdicts (map (judged t) es) ≡ judgements t es
same_verdicts t [] = refl
same_verdicts t (e ∷ es) = ap (λ vs. (judged t e).verdict ∷ vs) (same_verdicts t es)

pub verdict_leaf : (t : List (List ℕ)) (e : Exec) (k : Kind) (h : Bool) (v : Verdict) → e.body ≡ Auth k → h ≡ has t e.id → v ≡ leaf_verdict e.requirement h → v ≡ (judged t e).verdict
verdict_leaf t e k h v is here was = was ∙ ap (leaf_verdict e.requirement) here ∙ sym (ap (λ (j : Judged). j.verdict) (judged_leaf t e k is))

pub verdict_test : (t : List (List ℕ)) (e : Exec) (k : Cond) (h : Bool) (v : Verdict) → e.body ≡ body.Cond k → h ≡ has t e.id → v ≡ test_verdict e.requirement h → v ≡ (judged t e).verdict
verdict_test t e k h v is here was = was ∙ ap (test_verdict e.requirement) here ∙ sym (ap (λ (j : Judged). j.verdict) (judged_test t e k is))

pub verdict_flow : (t : List (List ℕ)) (e : Exec) (es : List Exec) (all : Tally) (v : Verdict) → e.body ≡ Sub es → all ≡ tally_of (judgements t es) → v ≡ tally_verdict e.requirement all → v ≡ (judged t e).verdict
verdict_flow t e es all v is are was = was ∙ ap (tally_verdict e.requirement) are ∙ ap (flow_verdict e.requirement) (sym (same_verdicts t es)) ∙ sym (ap (λ (j : Judged). j.verdict) (judged_flow t e es is))
