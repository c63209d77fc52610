-- The first execution that breaks a rule, step by step.
use Rattle.std.proofs.Common.{◌≡◌, ℕ, suc, ◌+◌, ◌<◌, Bool, true, false, cond, List, [], ◌∷◌, ◌++◌, length, get_or, take, drop, Option, Some, None, refl, ap, sym, subst, ◌∙◌, arith, Bor, append_assoc}
use Rattle.std.specs.Prelude.{is_some, MatchOption}
use Rattle.std.specs.Option.{option_or}
use Rattle.std.specs.List.{remove}
use Rattle.std.proofs.Math.Seq.{take-append_seam}
use Rattle.std.proofs.lemmas.List.{append-nil, take-append-drop, length-take, take_more}
use Rattle.std.proofs.lemmas.Grind.{flat_map-append}
use Rattle.flow_tree.specs.declared.exec.Exec.{Exec}
use Rattle.flow_tree.specs.declared.exec.Kind.{Kind}
use Rattle.flow_tree.specs.declared.exec.Cond.{Cond}
use Rattle.flow_tree.specs.declared.exec.Body.TheVariants as body
use Rattle.flow_tree.specs.declared.exec.Body.TheVariants.{Auth, Sub}
use Rattle.flow_tree.specs.declared.before.Before.{Before}
use Rattle.flow_tree.specs.declared.before.Before.TheViews as view
use Rattle.flow_tree.specs.declared.fault.TreeRule.{TreeRule}
use Rattle.flow_tree.specs.Faults.{breaks, first_breaking}
use Rattle.flow_tree.specs.Places.{Place, place_of, placed_at, places_at}
use Rattle.flow_tree.specs.Standing.{depth_of, before_of, IsFirstBroken}
use Rattle.flow_tree.proofs.Placing.{placed_leaf, placed_test, placed_flow, placed_first, shape_flow}
use Rattle.flow_tree.proofs.Earlier.{depth_flow, depth_all, before_flow, before_all, flow_place}
use Rattle.login_base.specs.declared.name.Name.{Name}

pub none_of : {X : Type 0} (o : Option X) → is_some o ≡ false → o ≡ None
none_of None h = refl
none_of (Some x) h = absurd cc

pub first_step : (rule : TreeRule) (b : List Place) (p : Place) (ps : List Place) → first_breaking rule b (p ∷ ps) ≡ cond (breaks rule b p) (Some p.id) (first_breaking rule (b ++ p ∷ []) ps)
unfolding first_breaking
first_step rule b p ps = refl

pub first_end : (rule : TreeRule) (b : List Place) → first_breaking rule b [] ≡ None
unfolding first_breaking
first_end rule b = refl

or_of_cond : {X : Type 0} (t : Bool) (x : X) (o p : Option X) → cond t (Some x) (option_or o p) ≡ option_or (cond t (Some x) o) p
or_of_cond true x o p = refl
or_of_cond false x o p = refl

-- in one list, or else in the next
first_append : (rule : TreeRule) (b ps qs : List Place) → first_breaking rule b (ps ++ qs) ≡ option_or (first_breaking rule b ps) (first_breaking rule (b ++ ps) qs)
first_append rule b [] qs =
    ap (λ x. first_breaking rule x qs) (sym (append-nil b)) ∙ ap (λ o. option_or o (first_breaking rule (b ++ []) qs)) (sym (first_end rule b))
first_append rule b (p ∷ ps) qs =
    first_step rule b p (ps ++ qs)
    ∙ ap (cond (breaks rule b p) (Some p.id)) (first_append rule (b ++ p ∷ []) ps qs ∙ ap (λ x. option_or (first_breaking rule (b ++ p ∷ []) ps) (first_breaking rule x qs)) (append_assoc b (p ∷ []) ps))
    ∙ or_of_cond (breaks rule b p) p.id (first_breaking rule (b ++ p ∷ []) ps) (first_breaking rule (b ++ p ∷ ps) qs)
    ∙ ap (λ o. option_or o (first_breaking rule (b ++ p ∷ ps) qs)) (sym (first_step rule b p ps))

-- the execution itself breaks the rule
pub breaks_here : (rule : TreeRule) (b : List Place) (d : ℕ) (e : Exec) → breaks rule b (place_of d e) ≡ true → first_breaking rule b (placed_at d e) ≡ Some e.id
breaks_here rule b d e here =
    let first = placed_first d e in
    ap (first_breaking rule b) first.1 ∙ first_step rule b (place_of d e) first.0 ∙ ap (λ t. cond t (Some e.id) (first_breaking rule (b ++ place_of d e ∷ []) first.0)) here

alone : (rule : TreeRule) (b : List Place) (d : ℕ) (e : Exec) → placed_at d e ≡ place_of d e ∷ [] → breaks rule b (place_of d e) ≡ false → first_breaking rule b (placed_at d e) ≡ None
alone rule b d e is not_here =
    ap (first_breaking rule b) is ∙ first_step rule b (place_of d e) [] ∙ ap (λ t. cond t (Some e.id) (first_breaking rule (b ++ place_of d e ∷ []) [])) not_here ∙ first_end rule (b ++ place_of d e ∷ [])

pub breaks_leaf : (rule : TreeRule) (b : List Place) (d : ℕ) (e : Exec) (k : Kind) → e.body ≡ Auth k → breaks rule b (place_of d e) ≡ false → first_breaking rule b (placed_at d e) ≡ None
breaks_leaf rule b d e k is not_here = alone rule b d e (placed_leaf d e k is) not_here

pub breaks_test : (rule : TreeRule) (b : List Place) (d : ℕ) (e : Exec) (k : Cond) → e.body ≡ body.Cond k → breaks rule b (place_of d e) ≡ false → first_breaking rule b (placed_at d e) ≡ None
breaks_test rule b d e k is not_here = alone rule b d e (placed_test d e k is) not_here

-- a subflow that doesn't break the rule itself
pub breaks_flow : (rule : TreeRule) (e : Exec) (es : List Exec) (before : Bor Before) (id : Bor Name) (x : Before) → x ≡ view.Flow before id e.requirement → id.now ≡ e.id → e.body ≡ Sub es → breaks rule (before_of before.now) (place_of (depth_of before.now) e) ≡ false → first_breaking rule (before_of before.now) (placed_at (depth_of before.now) e) ≡ first_breaking rule (before_of x) (places_at (depth_of x) es)
breaks_flow rule e es before id x at named is not_here =
    let d = depth_of before.now in
    let b = before_of before.now in
    let same : place_of d e ≡ flow_place d id.now e.requirement = ap (λ s. record { id = e.id; requirement = e.requirement; shape = s; depth = d }) (shape_flow e es is) ∙ ap (λ n. flow_place d n e.requirement) (sym named) in
    ap (first_breaking rule b) (placed_flow d e es is)
    ∙ first_step rule b (place_of d e) (places_at (d + 1) es)
    ∙ ap (λ t. cond t (Some e.id) (first_breaking rule (b ++ place_of d e ∷ []) (places_at (d + 1) es))) not_here
    ∙ ap (λ p. first_breaking rule (b ++ p ∷ []) (places_at (d + 1) es)) same
    ∙ ap (λ ps. first_breaking rule ps (places_at (d + 1) es)) (sym (before_flow x before id e.requirement at))
    ∙ ap (λ n. first_breaking rule (before_of x) (places_at n es)) (sym (depth_flow x before id e.requirement at))

places_append : (d : ℕ) (es fs : List Exec) → places_at d (es ++ fs) ≡ places_at d es ++ places_at d fs
places_append d es fs = flat_map-append (placed_at d) es fs

-- one execution more, where none before it breaks the rule
pub breaks_next : (rule : TreeRule) (es : List Exec) (i : ℕ) (e : Exec) (before : Bor Before) (front : Bor (List Exec)) (x : Before) → x ≡ view.All before front → front.now ≡ take i es → i < length es → e ≡ get_or es i e → first_breaking rule (before_of before.now) (places_at (depth_of before.now) (take i es)) ≡ None → first_breaking rule (before_of before.now) (places_at (depth_of before.now) (take (i + 1) es)) ≡ first_breaking rule (before_of x) (placed_at (depth_of x) e)
breaks_next rule es i e before front x at is lt item none =
    let d = depth_of before.now in
    let b = before_of before.now in
    let one : take (i + 1) es ≡ take i es ++ e ∷ [] = take_more es i e lt ∙ ap (λ y. take i es ++ y ∷ []) (sym item) in
    let places : places_at d (take (i + 1) es) ≡ places_at d (take i es) ++ placed_at d e = ap (places_at d) one ∙ places_append d (take i es) (e ∷ []) ∙ ap (λ ps. places_at d (take i es) ++ ps) (append-nil (placed_at d e)) in
    ap (first_breaking rule b) places
    ∙ first_append rule b (places_at d (take i es)) (placed_at d e)
    ∙ ap (λ o. option_or o (first_breaking rule (b ++ places_at d (take i es)) (placed_at d e))) none
    ∙ ap (λ fs. first_breaking rule (b ++ places_at d fs) (placed_at d e)) (sym is)
    ∙ ap (λ ps. first_breaking rule ps (placed_at d e)) (sym (before_all x before front at))
    ∙ ap (λ n. first_breaking rule (before_of x) (placed_at n e)) (sym (depth_all x before front at))

or_some : {X : Type 0} (o p : Option X) → is_some o ≡ true → option_or o p ≡ o
or_some None p h = absurd cc
or_some (Some x) p h = refl

-- the rest doesn't matter
pub breaks_whole : (rule : TreeRule) (b : List Place) (d : ℕ) (es : List Exec) (n : ℕ) → is_some (first_breaking rule b (places_at d (take n es))) ≡ true → first_breaking rule b (places_at d es) ≡ first_breaking rule b (places_at d (take n es))
breaks_whole rule b d es n some =
    ap (λ xs. first_breaking rule b (places_at d xs)) (sym (take-append-drop n es))
    ∙ ap (first_breaking rule b) (places_append d (take n es) (drop n es))
    ∙ first_append rule b (places_at d (take n es)) (places_at d (drop n es))
    ∙ or_some _ _ some

-- what stood before a removed item stands before its place
pub front_kept : {X : Type 0} (xs : List X) (i : ℕ) → i < length xs → take i (remove xs i) ≡ take i xs
front_kept xs i lt =
    let len : length (take i xs) ≡ i = length-take i xs ∙ omega arith in
    ap (λ n. take n (remove xs i)) (sym len) ∙ take-append_seam (take i xs) (drop (suc i) xs)

pub told_at : {X : Type 0} (o : Option X) (P : Type 0) (Q : X → Type 0) (x : X) → o ≡ Some x → MatchOption o P Q → Q x
told_at None P Q x is h = absurd cc
told_at (Some y) P Q x is h = let e : y ≡ x = cc in subst Q e h

pub told_none : {X : Type 0} (o : Option X) (P : Type 0) (Q : X → Type 0) → o ≡ None → MatchOption o P Q → P
told_none None P Q is h = h
told_none (Some y) P Q is h = absurd cc

-- the index is found where something breaks the rule
pub found_same : (rule : TreeRule) (b : Before) (es : List Exec) (o : Option ℕ) → MatchOption o (first_breaking rule (before_of b) (places_at (depth_of b) es) ≡ None) (λ i. IsFirstBroken rule b es i) → is_some o ≡ is_some (first_breaking rule (before_of b) (places_at (depth_of b) es))
found_same rule b es None h = sym (ap is_some h)
found_same rule b es (Some i) h = sym (ap is_some (breaks_whole rule (before_of b) (depth_of b) es (i + 1) h.some) ∙ h.some)

pub found_in_flow : (rule : TreeRule) (e : Exec) (es fs : List Exec) (before : Bor Before) (id : Bor Name) (o : Option ℕ) → MatchOption o (first_breaking rule (before_of (view.Flow before id e.requirement)) (places_at (depth_of (view.Flow before id e.requirement)) fs) ≡ None) (λ i. IsFirstBroken rule (view.Flow before id e.requirement) fs i) → fs ≡ es → id.now ≡ e.id → e.body ≡ Sub es → breaks rule (before_of before.now) (place_of (depth_of before.now) e) ≡ false → is_some o ≡ is_some (first_breaking rule (before_of before.now) (placed_at (depth_of before.now) e))
found_in_flow rule e es fs before id o h same named is not_here =
    let x = view.Flow before id e.requirement in
    found_same rule x fs o h
    ∙ ap (λ ys. is_some (first_breaking rule (before_of x) (places_at (depth_of x) ys))) same
    ∙ sym (ap is_some (breaks_flow rule e es before id x refl named is not_here))
