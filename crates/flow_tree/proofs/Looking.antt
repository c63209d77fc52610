-- The kind of an id, step by step.
use Rattle.std.proofs.Common.{◌≡◌, ℕ, ◌+◌, ◌<◌, Bool, true, false, cond, List, [], ◌∷◌, ◌++◌, length, get_or, take, drop, Option, Some, None, refl, ap, sym, ◌∙◌}
use Rattle.std.specs.Option.{option_or}
use Rattle.std.specs.Str.{bytes_eq}
use Rattle.std.proofs.lemmas.List.{append-nil, take-append-drop, take_more}
use Rattle.std.proofs.lemmas.Grind.{flat_map-append}
use Rattle.flow_tree.specs.declared.exec.Exec.{Exec}
use Rattle.flow_tree.specs.declared.exec.Kind.{Kind}
use Rattle.flow_tree.specs.declared.exec.Cond.{Cond}
use Rattle.flow_tree.specs.declared.exec.Body.TheVariants as body
use Rattle.flow_tree.specs.declared.exec.Body.TheVariants.{Auth, Sub}
use Rattle.flow_tree.specs.Places.{Place, place_of, placed_at, places_at, leaf_kind, kind_among}
use Rattle.flow_tree.proofs.Placing.{placed_leaf, placed_test, placed_flow, shape_leaf, shape_test, shape_flow}

step : (id : List ℕ) (p : Place) (ps : List Place) → kind_among id (p ∷ ps) ≡ option_or (cond (bytes_eq p.id id) (leaf_kind p.shape) None) (kind_among id ps)
unfolding kind_among
step id p ps = refl

pub end : (id : List ℕ) → kind_among id [] ≡ None
unfolding kind_among
end id = refl

or_assoc : {X : Type 0} (o p q : Option X) → option_or o (option_or p q) ≡ option_or (option_or o p) q
or_assoc None p q = refl
or_assoc (Some x) p q = refl

kind_append : (id : List ℕ) (ps qs : List Place) → kind_among id (ps ++ qs) ≡ option_or (kind_among id ps) (kind_among id qs)
kind_append id [] qs = ap (λ o. option_or o (kind_among id qs)) (sym (end id))
kind_append id (p ∷ ps) qs =
    step id p (ps ++ qs) ∙ ap (option_or (cond (bytes_eq p.id id) (leaf_kind p.shape) None)) (kind_append id ps qs)
    ∙ or_assoc (cond (bytes_eq p.id id) (leaf_kind p.shape) None) (kind_among id ps) (kind_among id qs)
    ∙ ap (λ o. option_or o (kind_among id qs)) (sym (step id p ps))

past : (b : Bool) (o : Option Kind) → option_or (cond b None None) o ≡ o
past true o = refl
past false o = refl

or_none : {X : Type 0} (o : Option X) → option_or o None ≡ o
or_none None = refl
or_none (Some x) = refl

pub kind_leaf : (id : List ℕ) (d : ℕ) (e : Exec) (k : Kind) → e.body ≡ Auth k → kind_among id (placed_at d e) ≡ cond (bytes_eq e.id id) (Some k) None
kind_leaf id d e k is =
    ap (kind_among id) (placed_leaf d e k is) ∙ step id (place_of d e) [] ∙ ap (option_or (cond (bytes_eq e.id id) (leaf_kind (place_of d e).shape) None)) (end id)
    ∙ or_none (cond (bytes_eq e.id id) (leaf_kind (place_of d e).shape) None)
    ∙ ap (λ s. cond (bytes_eq e.id id) (leaf_kind s) None) (shape_leaf e k is)

pub kind_test : (id : List ℕ) (d : ℕ) (e : Exec) (k : Cond) → e.body ≡ body.Cond k → kind_among id (placed_at d e) ≡ None
kind_test id d e k is =
    ap (kind_among id) (placed_test d e k is) ∙ step id (place_of d e) [] ∙ ap (option_or (cond (bytes_eq e.id id) (leaf_kind (place_of d e).shape) None)) (end id)
    ∙ ap (λ s. option_or (cond (bytes_eq e.id id) (leaf_kind s) None) None) (shape_test e k is)
    ∙ past (bytes_eq e.id id) None

pub kind_flow : (id : List ℕ) (d : ℕ) (e : Exec) (es : List Exec) → e.body ≡ Sub es → kind_among id (placed_at d e) ≡ kind_among id (places_at (d + 1) es)
kind_flow id d e es is =
    ap (kind_among id) (placed_flow d e es is) ∙ step id (place_of d e) (places_at (d + 1) es)
    ∙ ap (λ s. option_or (cond (bytes_eq e.id id) (leaf_kind s) None) (kind_among id (places_at (d + 1) es))) (shape_flow e es is)
    ∙ past (bytes_eq e.id id) (kind_among id (places_at (d + 1) es))

-- one execution more, where none before it has the kind
pub kind_next : (id : List ℕ) (d : ℕ) (es : List Exec) (i : ℕ) (e : Exec) → i < length es → e ≡ get_or es i e → kind_among id (places_at d (take i es)) ≡ None → kind_among id (places_at d (take (i + 1) es)) ≡ kind_among id (placed_at d e)
kind_next id d es i e lt at none =
    ap (λ xs. kind_among id (places_at d xs)) (take_more es i e lt ∙ ap (λ y. take i es ++ y ∷ []) (sym at))
    ∙ ap (kind_among id) (flat_map-append (placed_at d) (take i es) (e ∷ []) ∙ ap (λ ps. places_at d (take i es) ++ ps) (append-nil (placed_at d e)))
    ∙ kind_append id (places_at d (take i es)) (placed_at d e)
    ∙ ap (λ o. option_or o (kind_among id (placed_at d e))) none

-- the rest doesn't matter
pub kind_found : (id : List ℕ) (d : ℕ) (es : List Exec) (n : ℕ) (k : Kind) → kind_among id (places_at d (take n es)) ≡ Some k → kind_among id (places_at d es) ≡ Some k
kind_found id d es n k here =
    ap (λ xs. kind_among id (places_at d xs)) (sym (take-append-drop n es))
    ∙ ap (kind_among id) (flat_map-append (placed_at d) (take n es) (drop n es))
    ∙ kind_append id (places_at d (take n es)) (places_at d (drop n es))
    ∙ ap (λ o. option_or o (kind_among id (places_at d (drop n es)))) here
