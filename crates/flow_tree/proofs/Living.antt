-- The equations of `levelled`.
use Rattle.std.proofs.Common.{◌≡◌, ℕ, ◌<◌, Bool, true, false, ◌&&◌, cond, List, [], ◌∷◌, ◌++◌, length, get_or, drop, map, ◌==◌, Option, Some, None, refl, ap, sym, ◌∙◌, ◌+◌}
use Rattle.std.specs.Prelude.{find, option_map, option_to_list}
use Rattle.std.specs.Option.{option_or}
use Rattle.std.proofs.lemmas.List.{drop_more}
use Rattle.std.proofs.lemmas.List.{append-nil}
use Rattle.std.proofs.lemmas.List.Folds.{find-append}
use Rattle.std.specs.List.{flat_map}
use Rattle.flow_tree.specs.declared.exec.Requirement.{Requirement}
use Rattle.flow_tree.specs.declared.exec.Exec.{Exec, out-Exec, fold_out-Exec}
use Rattle.flow_tree.specs.declared.exec.Kind.{Kind}
use Rattle.flow_tree.specs.declared.exec.Cond.{Cond}
use Rattle.flow_tree.specs.declared.exec.Body.TheVariants as body
use Rattle.flow_tree.specs.declared.exec.Body.TheVariants.{Auth, Sub, outs-Auth, outs-Cond, outs-Sub}
use Rattle.flow_tree.specs.declared.exec.Body.{Body, out-Body, fold-Body, fold_out-Body, map-Body}
use Rattle.flow_tree.specs.declared.exec.Body.TheOpen.{Body-F}
use Rattle.flow_tree.specs.declared.live.LiveLevel.{LiveLevel}
use Rattle.flow_tree.specs.Flow.{is_required, is_conditional, is_disabled}
use Rattle.flow_tree.specs.Levels.{Levelled, Levelling, Leaf, Test, Flow, levels_in, level_body, level_exec, levelled, lent_by, lent_level, lent_levels, level_of, age_among}

unfoldable levelling_of : Body → Levelling
levelling_of b = fold-Body Levelling Levelled level_body level_exec b

levelled_out : (e : Exec) → levelled e ≡ levels_in (out-Exec e).requirement (levelling_of (out-Exec e).body)
unfolding levelled levelling_of
levelled_out e = fold_out-Exec Levelling Levelled level_body level_exec e

abbrev levelling_at : Body-F Body Exec → Levelling
levelling_at (Body-F.Auth kind) = Leaf
levelling_at (Body-F.Cond c) = Test c
levelling_at (Body-F.Sub es) = Flow (map levelled es)

levelling_step : (x : Body-F Body Exec) → level_body (map-Body Body Exec Levelling Levelled levelling_of levelled x) ≡ levelling_at x
levelling_step (Body-F.Auth kind) = refl
levelling_step (Body-F.Cond c) = refl
levelling_step (Body-F.Sub es) = refl

levelling_out : (b : Body) → levelling_of b ≡ levelling_at (out-Body b)
unfolding levelled levelling_of
levelling_out b = fold_out-Body Levelling Levelled level_body level_exec b ∙ levelling_step (out-Body b)

levelled_body : (e : Exec) (b : Body) (x : Body-F Body Exec) → e.body ≡ b → out-Body b ≡ x → levelled e ≡ levels_in e.requirement (levelling_at x)
levelled_body e b x is out = levelled_out e ∙ ap (λ y. levels_in e.requirement (levelling_of y)) is ∙ ap (levels_in e.requirement) (levelling_out b ∙ ap levelling_at out)

nothing : {X : Type 0} (b : Bool) → cond b (option_to_list {X = X} None) [] ++ [] ≡ []
nothing true = refl
nothing false = refl

-- the three kinds of executions, to a flow of requirement r
pub lent_leaf : (r : Requirement) (e : Exec) (k : Kind) → e.body ≡ Auth k → lent_by r (levelled e) ≡ []
lent_leaf r e k is = ap (lent_by r) (levelled_body e (Auth k) _ is (outs-Auth k)) ∙ nothing (is_conditional r)

one_level : (a b : Bool) (o : Option LiveLevel) → cond a (option_to_list (cond b o None)) [] ++ [] ≡ option_to_list (cond (a && b) o None)
one_level true b o = append-nil _
one_level false b o = refl

pub lent_test : (r : Requirement) (e : Exec) (k : Cond) → e.body ≡ body.Cond k → lent_by r (levelled e) ≡ option_to_list (lent_level r e.requirement k)
lent_test r e k is = ap (lent_by r) (levelled_body e (body.Cond k) _ is (outs-Cond k)) ∙ one_level (is_conditional r) (is_required e.requirement) (level_of k)

lists_of : (r : Requirement) (es : List Exec) → flat_map (lent_by r) (map levelled es) ≡ lent_levels r es
lists_of r [] = refl
lists_of r (e ∷ es) = ap (λ ls. lent_by r (levelled e) ++ ls) (lists_of r es)

within : (b d : Bool) (ls : List LiveLevel) → cond b (option_to_list None) [] ++ cond d [] ls ≡ cond d [] ls
within true d ls = refl
within false d ls = refl

pub lent_flow : (r : Requirement) (e : Exec) (es : List Exec) (d : Bool) → e.body ≡ Sub es → d ≡ is_disabled e.requirement → lent_by r (levelled e) ≡ cond d [] (lent_levels e.requirement es)
lent_flow r e es d is was =
    ap (lent_by r) (levelled_body e (Sub es) _ is (outs-Sub es))
    ∙ within (is_conditional r) (is_disabled e.requirement) (flat_map (lent_by e.requirement) (map levelled es))
    ∙ ap (λ ls. cond (is_disabled e.requirement) [] ls) (lists_of e.requirement es)
    ∙ ap (λ b. cond b [] (lent_levels e.requirement es)) (sym was)

-- ---- the age of a level

or_else : {X : Type 0} (o p : Option X) (f : X → ℕ) (x : ℕ) → option_map f o ≡ Some x → option_map f (option_or o p) ≡ Some x
or_else None p f x h = absurd cc
or_else (Some y) p f x h = h

or_none : {X : Type 0} (o p : Option X) (f : X → ℕ) → option_map f o ≡ None → option_map f (option_or o p) ≡ option_map f p
or_none None p f h = refl
or_none (Some y) p f h = absurd cc

age_step : (level : ℕ) (r : Requirement) (es : List Exec) (i : ℕ) (e : Exec) → i < length es → e ≡ get_or es i e → age_among level (lent_levels r (drop i es)) ≡ option_map (λ (l : LiveLevel). l.age) (option_or (find (λ (l : LiveLevel). l.level == level) (lent_by r (levelled e))) (find (λ (l : LiveLevel). l.level == level) (lent_levels r (drop (i + 1) es))))
age_step level r es i e lt at =
    ap (λ xs. age_among level (lent_levels r xs)) (drop_more es i e lt ∙ ap (λ x. x ∷ drop (i + 1) es) (sym at))
    ∙ ap (option_map (λ (l : LiveLevel). l.age)) (find-append (λ (l : LiveLevel). l.level == level) (lent_by r (levelled e)) (lent_levels r (drop (i + 1) es)))

pub age_found : (level : ℕ) (r : Requirement) (es : List Exec) (i : ℕ) (e : Exec) (age : ℕ) → i < length es → e ≡ get_or es i e → Some age ≡ age_among level (lent_by r (levelled e)) → age_among level (lent_levels r (drop i es)) ≡ Some age
age_found level r es i e age lt at here = age_step level r es i e lt at ∙ or_else _ _ _ age (sym here)

pub age_later : (level : ℕ) (r : Requirement) (es : List Exec) (i : ℕ) (e : Exec) → i < length es → e ≡ get_or es i e → None ≡ age_among level (lent_by r (levelled e)) → age_among level (lent_levels r (drop i es)) ≡ age_among level (lent_levels r (drop (i + 1) es))
age_later level r es i e lt at none = age_step level r es i e lt at ∙ or_none _ _ _ (sym none)
