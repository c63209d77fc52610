-- The equations of `placed_at`.
use Rattle.std.proofs.Common.{◌≡◌, ℕ, ◌+◌, List, [], ◌∷◌, ◌++◌, map, refl, ap, sym, ◌∙◌}
use Rattle.std.specs.List.{flat_map}
use Rattle.flow_tree.specs.declared.exec.Exec.{Exec, out-Exec, fold_out-Exec}
use Rattle.flow_tree.specs.declared.exec.Kind.{Kind}
use Rattle.flow_tree.specs.declared.exec.Cond.{Cond}
use Rattle.flow_tree.specs.declared.exec.Body.TheVariants as body
use Rattle.flow_tree.specs.declared.exec.Body.TheVariants.{Auth, Sub, outs-Auth, outs-Cond, outs-Sub}
use Rattle.flow_tree.specs.declared.exec.Body.{Body, out-Body, fold-Body, fold_out-Body, map-Body}
use Rattle.flow_tree.specs.declared.exec.Body.TheOpen.{Body-F}
use Rattle.flow_tree.specs.Places.{Shape, Leaf, Test, Flow, Place, Placing, shape_in, place_of, place_body, place_exec, placed_at, places_at}

unfoldable placing_of : Body → Placing
placing_of b = fold-Body Placing (ℕ → List Place) place_body place_exec b

abbrev placed_with : ℕ → Exec → Placing → List Place
placed_with d e p = record { id = e.id; requirement = e.requirement; shape = p.shape; depth = d } ∷ p.below (d + 1)

placed_out : (d : ℕ) (e : Exec) → placed_at d e ≡ placed_with d e (placing_of (out-Exec e).body)
unfolding placed_at placing_of
placed_out d e = ap (λ f. f d) (fold_out-Exec Placing (ℕ → List Place) place_body place_exec e)

abbrev placing_at : Body-F Body Exec → Placing
placing_at (Body-F.Auth kind) = record { shape = Leaf kind; below = λ d. [] }
placing_at (Body-F.Cond c) = record { shape = Test c; below = λ d. [] }
placing_at (Body-F.Sub es) = record { shape = Flow; below = λ d. flat_map (λ (f : ℕ → List Place). f d) (map (λ e d. placed_at d e) es) }

placing_step : (x : Body-F Body Exec) → place_body (map-Body Body Exec Placing (ℕ → List Place) placing_of (λ e d. placed_at d e) x) ≡ placing_at x
placing_step (Body-F.Auth kind) = refl
placing_step (Body-F.Cond c) = refl
placing_step (Body-F.Sub es) = refl

placing_out : (b : Body) → placing_of b ≡ placing_at (out-Body b)
unfolding placed_at placing_of
placing_out b = fold_out-Body Placing (ℕ → List Place) place_body place_exec b ∙ placing_step (out-Body b)

placed_body : (d : ℕ) (e : Exec) (b : Body) (x : Body-F Body Exec) → e.body ≡ b → out-Body b ≡ x → placed_at d e ≡ placed_with d e (placing_at x)
placed_body d e b x is out = placed_out d e ∙ ap (λ y. placed_with d e (placing_of y)) is ∙ ap (placed_with d e) (placing_out b ∙ ap placing_at out)

shape_at : (e : Exec) (b : Body) (x : Body-F Body Exec) → e.body ≡ b → out-Body b ≡ x → shape_in (out-Body e.body) ≡ shape_in x
shape_at e b x is out = ap (λ y. shape_in (out-Body y)) is ∙ ap shape_in out

-- what each kind of execution is
pub shape_leaf : (e : Exec) (k : Kind) → e.body ≡ Auth k → shape_in (out-Body e.body) ≡ Leaf k
shape_leaf e k is = shape_at e (Auth k) _ is (outs-Auth k)

pub shape_test : (e : Exec) (k : Cond) → e.body ≡ body.Cond k → shape_in (out-Body e.body) ≡ Test k
shape_test e k is = shape_at e (body.Cond k) _ is (outs-Cond k)

pub shape_flow : (e : Exec) (es : List Exec) → e.body ≡ Sub es → shape_in (out-Body e.body) ≡ Flow
shape_flow e es is = shape_at e (Sub es) _ is (outs-Sub es)

abbrev alone : ℕ → Exec → Shape → List Place → List Place
alone d e s ps = record { id = e.id; requirement = e.requirement; shape = s; depth = d } ∷ ps

each : (d : ℕ) (es : List Exec) → flat_map (λ (f : ℕ → List Place). f d) (map (λ e d. placed_at d e) es) ≡ places_at d es
each d [] = refl
each d (e ∷ es) = ap (λ ps. placed_at d e ++ ps) (each d es)

-- the three kinds of executions
pub placed_leaf : (d : ℕ) (e : Exec) (k : Kind) → e.body ≡ Auth k → placed_at d e ≡ place_of d e ∷ []
placed_leaf d e k is = placed_body d e (Auth k) _ is (outs-Auth k) ∙ ap (λ s. alone d e s []) (sym (shape_leaf e k is))

pub placed_test : (d : ℕ) (e : Exec) (k : Cond) → e.body ≡ body.Cond k → placed_at d e ≡ place_of d e ∷ []
placed_test d e k is = placed_body d e (body.Cond k) _ is (outs-Cond k) ∙ ap (λ s. alone d e s []) (sym (shape_test e k is))

pub placed_flow : (d : ℕ) (e : Exec) (es : List Exec) → e.body ≡ Sub es → placed_at d e ≡ place_of d e ∷ places_at (d + 1) es
placed_flow d e es is = placed_body d e (Sub es) _ is (outs-Sub es) ∙ ap (alone d e Flow) (each (d + 1) es) ∙ ap (λ s. alone d e s (places_at (d + 1) es)) (sym (shape_flow e es is))

-- an execution comes first, then what stands in it
pub placed_first : (d : ℕ) (e : Exec) → (below : List Place) × (placed_at d e ≡ place_of d e ∷ below)
placed_first d e = ((placing_at (out-Body e.body)).below (d + 1), placed_out d e ∙ ap (placed_with d e) (placing_out e.body) ∙ ap (λ s. alone d e s ((placing_at (out-Body e.body)).below (d + 1))) (same_shape (out-Body e.body)))
  where
    same_shape : (x : Body-F Body Exec) → (placing_at x).shape ≡ shape_in x
    same_shape (Body-F.Auth kind) = refl
    same_shape (Body-F.Cond c) = refl
    same_shape (Body-F.Sub es) = refl
