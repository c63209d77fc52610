-- The names in a tree.
use Rattle.std.specs.Prelude.{Bool, true, ◌&&◌, List}
use Rattle.std.specs.List.{list_all}
use Rattle.login_base.specs.Names.{is_name}
use Rattle.flow_tree.specs.declared.exec.Cond.{Cond}
use Rattle.flow_tree.specs.declared.exec.Cond.TheVariants as cond
use Rattle.flow_tree.specs.declared.exec.Exec.{Exec}
use Rattle.flow_tree.specs.Places.{Shape, Leaf, Test, Flow, Place, places}

-- where the condition asks for a role, the role is a name
abbrev pub asks_by_name : Cond → Bool
asks_by_name (cond.Role role negate) = is_name role
asks_by_name cond.Configured = true
asks_by_name (cond.Level level age) = true

abbrev pub is_role_named : Shape → Bool
is_role_named (Leaf kind) = true
is_role_named (Test c) = asks_by_name c
is_role_named Flow = true

-- the execution's own id is a name, and its role, where it is a condition of one
abbrev pub has_own_names : Place → Bool
has_own_names p = is_name p.id && is_role_named p.shape

-- every id is a name, and every role
abbrev pub has_names : List Exec → Bool
has_names es = list_all has_own_names (places es)
