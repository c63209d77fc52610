-- Words for what a flow is made of.
use Rattle.std.specs.Prelude.{Bool, true, not, ◌&&◌, List, [], ◌∷◌}
use Rattle.std.specs.List.{list_any}
use Rattle.std.specs.Str.{bytes_eq}
use Rattle.flow_tree.specs.declared.exec.Exec.{Exec}
use Rattle.flow_tree.specs.Faults.{is_condition, repeats_level}
use Rattle.flow_tree.specs.Flow.{is_required, is_alternative}
use Rattle.flow_tree.specs.Places.{Place, shape_of}

-- a condition that counts
abbrev pub is_enabled_condition : Exec → Bool
is_enabled_condition e = is_condition (shape_of e) && is_required e.requirement

-- an alternative that counts
abbrev pub is_offered : Exec → Bool
is_offered e = is_alternative e.requirement && not (is_condition (shape_of e))

-- no two have the same id
abbrev pub are_apart : List Place → Bool
are_apart [] = true
are_apart (p ∷ ps) = not (list_any (λ (q : Place). bytes_eq p.id q.id) ps) && are_apart ps

-- no two are conditions of the same level
abbrev pub have_own_levels : List Place → Bool
have_own_levels [] = true
have_own_levels (p ∷ ps) = not (list_any (λ (q : Place). repeats_level (p ∷ []) q.shape) ps) && have_own_levels ps
