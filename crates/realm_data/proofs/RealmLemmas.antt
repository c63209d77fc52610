-- The built-in realm keeps the rules.
use Rattle.std.proofs.Common.{◌≡◌, IsTrue, [], ◌∷◌, None, refl, codes}
use Rattle.flow_tree.specs.declared.exec.Exec.{Exec}
use Rattle.flow_tree.specs.declared.exec.Body.TheVariants.{Auth}
use Rattle.flow_tree.specs.declared.exec.Kind.TheVariants.{Form}
use Rattle.flow_tree.specs.declared.exec.Requirement.TheVariants.{Required}
use Rattle.flow_tree.specs.Faults.{fault_of, first_breaking}
use Rattle.flow_tree.specs.Places.{Leaf, Place, places}
use Rattle.flow_tree.proofs.Placing.{placed_leaf, shape_leaf}
use Rattle.realm_data.specs.Realm.{are_apart, are_ascending, is_realm}
use Rattle.realm_data.specs.RealmBuiltin.{builtin_flow, builtin_realm}

abbrev form : Exec
form = record { id = codes "form"; requirement = Required; body = Auth Form }

abbrev form_place : Place
form_place = record { id = codes "form"; requirement = Required; shape = Leaf Form; depth = 1 }

builtin_places : places builtin_flow ≡ form_place ∷ []
builtin_places = rw (placed_leaf 1 form Form refl, shape_leaf form Form refl) refl

pub builtin_is_tree : fault_of builtin_flow ≡ None
unfolding fault_of first_breaking
builtin_is_tree = rw builtin_places refl

pub builtin_is_realm : IsTrue (is_realm builtin_realm)
unfolding is_realm are_ascending are_apart builtin_realm
builtin_is_realm = rw builtin_places refl
