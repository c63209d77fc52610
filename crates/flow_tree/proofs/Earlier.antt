-- What stands before an execution, by its three cases.
use Rattle.std.proofs.Common.{◌≡◌, ℕ, ◌+◌, ◌<◌, Bool, true, false, not, ◌&&◌, ◌||◌, List, [], ◌∷◌, ◌++◌, length, get_or, refl, ap, sym, ◌∙◌, Bor}
use Rattle.std.specs.List.{list_all, list_any, flat_map}
use Rattle.std.specs.Str.{bytes_eq}
use Rattle.std.proofs.lemmas.List.Folds.{list_any_at}
use Rattle.flow_tree.specs.declared.before.Sought.{Sought}
use Rattle.flow_tree.specs.declared.before.Sought.TheVariants.{Id, Level, Kind, Condition, OutOfRange, Unnamed}
use Rattle.flow_tree.specs.declared.exec.Exec.{Exec}
use Rattle.flow_tree.specs.declared.exec.Requirement.{Requirement}
use Rattle.flow_tree.specs.declared.before.Before.{Before}
use Rattle.flow_tree.specs.declared.before.Before.TheViews as view
use Rattle.flow_tree.specs.declared.before.Before.{Nothing}
use Rattle.flow_tree.specs.Places.{Place, Flow, placed_at, places_at}
use Rattle.flow_tree.specs.Standing.{depth_of, before_of, is_sought, is_named}
use Rattle.login_base.specs.Names.{is_name}
use Rattle.login_base.specs.declared.name.Name.{Name}

pub depth_nothing : (b : Before) → b ≡ Nothing → depth_of b ≡ 1
unfolding depth_of
depth_nothing b is = ap depth_of is

pub depth_flow : (b : Before) (before : Bor Before) (id : Bor Name) (r : Requirement) → b ≡ view.Flow before id r → depth_of b ≡ depth_of before.now + 1
unfolding depth_of
depth_flow b before id r is = ap depth_of is

pub depth_all : (b : Before) (before : Bor Before) (es : Bor (List Exec)) → b ≡ view.All before es → depth_of b ≡ depth_of before.now
unfolding depth_of
depth_all b before es is = ap depth_of is

pub before_nothing : (b : Before) → b ≡ Nothing → before_of b ≡ []
unfolding before_of
before_nothing b is = ap before_of is

abbrev pub flow_place : ℕ → List ℕ → Requirement → Place
flow_place d id r = record { id = id; requirement = r; shape = Flow; depth = d }

pub before_flow : (b : Before) (before : Bor Before) (id : Bor Name) (r : Requirement) → b ≡ view.Flow before id r → before_of b ≡ before_of before.now ++ flow_place (depth_of before.now) id.now r ∷ []
unfolding before_of
before_flow b before id r is = ap before_of is

pub before_all : (b : Before) (before : Bor Before) (es : Bor (List Exec)) → b ≡ view.All before es → before_of b ≡ before_of before.now ++ places_at (depth_of before.now) es.now
unfolding before_of
before_all b before es is = ap before_of is

pub any_append : {X : Type 0} (p : X → Bool) (xs ys : List X) → list_any p (xs ++ ys) ≡ (list_any p xs || list_any p ys)
any_append p [] ys = refl
any_append p (x ∷ xs) ys = ap (λ b. p x || b) (any_append p xs ys) ∙ sym (or_assoc (p x) (list_any p xs) (list_any p ys))
  where
    or_assoc : (a b c : Bool) → ((a || b) || c) ≡ (a || (b || c))
    or_assoc true b c = refl
    or_assoc false b c = refl

or_false : (b : Bool) → (b || false) ≡ b
or_false true = refl
or_false false = refl

and_true : (b : Bool) → (b && true) ≡ b
and_true true = refl
and_true false = refl

any_concat : {X Y : Type 0} (p : Y → Bool) (f : X → List Y) (xs : List X) → list_any p (flat_map f xs) ≡ list_any (λ x. list_any p (f x)) xs
any_concat p f [] = refl
any_concat p f (x ∷ xs) = any_append p (f x) (flat_map f xs) ∙ ap (λ b. list_any p (f x) || b) (any_concat p f xs)

-- a subflow has what is sought where it has the name
pub sought_flow : (s : Sought) (d : ℕ) (id : List ℕ) (r : Requirement) → list_any (is_sought s) (flow_place d id r ∷ []) ≡ is_named s id
sought_flow (Id name) d id r = or_false (bytes_eq id name.now)
sought_flow (Level level) d id r = refl
sought_flow (Kind kind) d id r = refl
sought_flow Condition d id r = refl
sought_flow OutOfRange d id r = refl
sought_flow Unnamed d id r = or_false (not (is_name id && true)) ∙ ap not (and_true (is_name id))

-- one of the executions settles it
pub places_found : (p : Place → Bool) (d : ℕ) (es : List Exec) (i : ℕ) (e : Exec) → i < length es → e ≡ get_or es i e → list_any p (placed_at d e) ≡ true → list_any p (places_at d es) ≡ true
places_found p d es i e lt at here = any_concat p (placed_at d) es ∙ list_any_at (λ x. list_any p (placed_at d x)) es i e lt (ap (λ x. list_any p (placed_at d x)) (sym at) ∙ here)

-- none fails a test exactly where all pass it
pub all_pass : {X : Type 0} (p : X → Bool) (xs : List X) → not (list_any (λ x. not (p x)) xs) ≡ list_all p xs
all_pass p [] = refl
all_pass p (x ∷ xs) = either (p x) (list_any (λ y. not (p y)) xs) ∙ ap (λ b. p x && b) (all_pass p xs)
  where
    either : (a b : Bool) → not (not a || b) ≡ (a && not b)
    either true b = refl
    either false b = refl
