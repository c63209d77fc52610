-- What is needed, step by step.
use Rattle.std.proofs.Common.{◌≡◌, ℕ, suc, ◌<◌, true, false, cond, List, [], ◌∷◌, length, get_or, drop, map, refl, ap, sym, ◌∙◌, drop-cons}
use Rattle.flow_tree.specs.declared.exec.Exec.{Exec}
use Rattle.flow_tree.specs.declared.verdict.Tally.{Tally}
use Rattle.flow_tree.specs.Flow.{judged, judgements, holds_over, some_acts, first_needs, offered_needs, flow_needs}
use Rattle.flow_tree.specs.Tally.{tally_of, tally_holds}
use Rattle.flow_tree.proofs.Judging.{same_verdicts}

pub first_found : (t : List (List ℕ)) (es : List Exec) (i : ℕ) (e : Exec) → i < length es → e ≡ get_or es i e → (judged t e).verdict.acts ≡ true → (judged t e).verdict.holds ≡ false → first_needs (map (judged t) (drop i es)) ≡ (judged t e).needs
first_found t es i e lt at acts fails = ap (λ xs. first_needs (map (judged t) xs)) (drop-cons es i e lt ∙ ap (λ x. x ∷ drop (suc i) es) (sym at)) ∙ rw (acts, fails) refl

-- the needs of a flow, by its tally
pub needs_by_tally : (t : List (List ℕ)) (es : List Exec) (all : Tally) → all ≡ tally_of (judgements t es) → flow_needs t es ≡ cond (tally_holds all) [] (cond all.acts (first_needs (map (judged t) es)) (offered_needs (map (judged t) es)))
needs_by_tally t es all is =
    ap (λ vs. cond (holds_over vs) [] (cond (some_acts vs) (first_needs (map (judged t) es)) (offered_needs (map (judged t) es)))) (same_verdicts t es)
    ∙ ap (λ (a : Tally). cond (tally_holds a) [] (cond a.acts (first_needs (map (judged t) es)) (offered_needs (map (judged t) es)))) (sym is)
