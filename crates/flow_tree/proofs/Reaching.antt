-- Which levels are reached, by the three kinds of executions.
use Rattle.std.proofs.Common.{◌≡◌, ℕ, Bool, false, not, ◌&&◌, ◌||◌, List, [], ◌∷◌, map, refl, ap, sym, ◌∙◌}
use Rattle.std.specs.List.{list_any}
use Rattle.flow_tree.specs.declared.exec.Exec.{Exec}
use Rattle.flow_tree.specs.declared.exec.Kind.{Kind}
use Rattle.flow_tree.specs.declared.exec.Cond.{Cond}
use Rattle.flow_tree.specs.declared.exec.Body.TheVariants as body
use Rattle.flow_tree.specs.declared.exec.Body.TheVariants.{Auth, Sub}
use Rattle.flow_tree.specs.Flow.{is_required, is_conditional, is_disabled, is_level, stands, judged, Judged, verdicts, flow_verdict, level_holds}
use Rattle.flow_tree.proofs.Judging.{judged_leaf, judged_test, judged_flow}

pub any_map : {X Y : Type 0} (p : Y → Bool) (f : X → Y) (xs : List X) → list_any p (map f xs) ≡ list_any (λ x. p (f x)) xs
any_map p f [] = refl
any_map p f (x ∷ xs) = ap (λ b. p (f x) || b) (any_map p f xs)

pub tests_leaf : (t : List (List ℕ)) (e : Exec) (k : Kind) (level : ℕ) → e.body ≡ Auth k → false ≡ (judged t e).tests level
tests_leaf t e k level is = sym (ap (λ (j : Judged). j.tests level) (judged_leaf t e k is))

pub tests_flow : (t : List (List ℕ)) (e : Exec) (es : List Exec) (level : ℕ) → e.body ≡ Sub es → false ≡ (judged t e).tests level
tests_flow t e es level is = sym (ap (λ (j : Judged). j.tests level) (judged_flow t e es is))

pub tests_test : (t : List (List ℕ)) (e : Exec) (k : Cond) (level : ℕ) (enabled same : Bool) → e.body ≡ body.Cond k → enabled ≡ is_required e.requirement → same ≡ is_level level k → (enabled && same) ≡ (judged t e).tests level
tests_test t e k level enabled same is was own = rw (was, own) (sym (ap (λ (j : Judged). j.tests level) (judged_test t e k is)))

pub reaches_leaf : (t : List (List ℕ)) (e : Exec) (k : Kind) (level : ℕ) → e.body ≡ Auth k → false ≡ (judged t e).reaches level
reaches_leaf t e k level is = sym (ap (λ (j : Judged). j.reaches level) (judged_leaf t e k is))

pub reaches_test : (t : List (List ℕ)) (e : Exec) (k : Cond) (level : ℕ) → e.body ≡ body.Cond k → false ≡ (judged t e).reaches level
reaches_test t e k level is = sym (ap (λ (j : Judged). j.reaches level) (judged_test t e k is))

-- a subflow, by whether it is disabled, reaches the level itself, and has it reached further in
pub reaches_flow : (t : List (List ℕ)) (e : Exec) (es : List Exec) (level : ℕ) (d here within : Bool) → e.body ≡ Sub es → d ≡ is_disabled e.requirement → here ≡ (is_conditional e.requirement && (stands (judged t e).verdict && list_any (λ (x : Exec). (judged t x).tests level) es)) → within ≡ level_holds t level es → (not d && (here || within)) ≡ (judged t e).reaches level
reaches_flow t e es level d here within is was h w =
    let flow = judged_flow t e es is in
    let verdict = ap (λ (j : Judged). j.verdict) flow in
    let tests = any_map (λ (j : Judged). j.tests level) (judged t) es in
    let reached = any_map (λ (j : Judged). j.reaches level) (judged t) es in
    rw (was, h, w)
    (ap (λ v. not (is_disabled e.requirement) && ((is_conditional e.requirement && (stands v && list_any (λ (x : Exec). (judged t x).tests level) es)) || level_holds t level es)) verdict
    ∙ ap (λ b. not (is_disabled e.requirement) && ((is_conditional e.requirement && (stands (flow_verdict e.requirement (verdicts (map (judged t) es))) && b)) || level_holds t level es)) (sym tests)
    ∙ ap (λ b. not (is_disabled e.requirement) && ((is_conditional e.requirement && (stands (flow_verdict e.requirement (verdicts (map (judged t) es))) && list_any (λ (j : Judged). j.tests level) (map (judged t) es))) || b)) (sym reached)
    ∙ sym (ap (λ (j : Judged). j.reaches level) flow))
