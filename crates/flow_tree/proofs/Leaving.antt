-- The leaves of an execution, by its three kinds.
use Rattle.std.proofs.Common.{◌≡◌, ℕ, ◌+◌, List, [], ◌∷◌, ◌++◌, ap, ◌∙◌}
use Rattle.std.specs.Prelude.{option_map, option_to_list}
use Rattle.flow_tree.specs.declared.exec.Exec.{Exec}
use Rattle.flow_tree.specs.declared.exec.Kind.{Kind}
use Rattle.flow_tree.specs.declared.exec.Cond.{Cond}
use Rattle.flow_tree.specs.declared.exec.Body.TheVariants as body
use Rattle.flow_tree.specs.declared.exec.Body.TheVariants.{Auth, Sub}
use Rattle.flow_tree.specs.declared.leaves.Leaf.{Leaf}
use Rattle.flow_tree.specs.Leaves.{leaf_named, leaves_among}
use Rattle.flow_tree.specs.Places.{Shape, placed_at, places_at, leaf_kind}
use Rattle.flow_tree.proofs.Placing.{placed_leaf, placed_test, placed_flow, shape_leaf, shape_test, shape_flow}

abbrev shaped : (e : Exec) (s : Shape) → List Leaf
shaped e s = option_to_list (option_map (leaf_named e.id) (leaf_kind s))

pub leaves_leaf : (d : ℕ) (e : Exec) (k : Kind) → e.body ≡ Auth k → leaves_among (placed_at d e) ≡ leaf_named e.id k ∷ []
leaves_leaf d e k is = ap leaves_among (placed_leaf d e k is) ∙ ap (λ s. shaped e s ++ []) (shape_leaf e k is)

pub leaves_test : (d : ℕ) (e : Exec) (k : Cond) → e.body ≡ body.Cond k → leaves_among (placed_at d e) ≡ []
leaves_test d e k is = ap leaves_among (placed_test d e k is) ∙ ap (λ s. shaped e s ++ []) (shape_test e k is)

pub leaves_flow : (d : ℕ) (e : Exec) (es : List Exec) → e.body ≡ Sub es → leaves_among (placed_at d e) ≡ leaves_among (places_at (d + 1) es)
leaves_flow d e es is = ap leaves_among (placed_flow d e es is) ∙ ap (λ s. shaped e s ++ leaves_among (places_at (d + 1) es)) (shape_flow e es is)
