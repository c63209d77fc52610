-- The authenticators of a tree.
use Rattle.std.specs.Prelude.{ℕ, List, option_map, option_to_list}
use Rattle.std.specs.List.{flat_map}
use Rattle.flow_tree.specs.declared.exec.Exec.{Exec}
use Rattle.flow_tree.specs.declared.exec.Kind.{Kind}
use Rattle.flow_tree.specs.declared.leaves.Leaf.{Leaf}
use Rattle.flow_tree.specs.Places.{Place, places, leaf_kind}

abbrev pub leaf_named : List ℕ → Kind → Leaf
leaf_named id kind = record { id = id; kind = kind }

-- one leaf for an authenticator; nothing for a condition or a subflow
abbrev pub leaf_of : Place → List Leaf
leaf_of p = option_to_list (option_map (leaf_named p.id) (leaf_kind p.shape))

abbrev pub leaves_among : List Place → List Leaf
leaves_among ps = flat_map leaf_of ps

-- the authenticators in document order, those in subflows and disabled ones too
abbrev pub leaves_of : List Exec → List Leaf
leaves_of es = leaves_among (places es)
