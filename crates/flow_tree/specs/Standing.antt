-- What stands before an execution.
use Rattle.std.specs.Prelude.{◌≡◌, ℕ, Bool, true, false, not, ◌+◌, ◌<◌, is_some, None, length, take, List, [], ◌∷◌, ◌++◌}
use Rattle.std.specs.Str.{bytes_eq}
use Rattle.flow_tree.specs.Places.{Place, Flow, places_at, is_of_kind}
use Rattle.flow_tree.specs.Faults.{is_of_level, is_condition, first_breaking}
use Rattle.flow_tree.specs.Names.{has_own_names}
use Rattle.flow_tree.specs.Ranges.{is_level_in_range}
use Rattle.login_base.specs.Names.{is_name}
use Rattle.flow_tree.specs.declared.exec.Exec.{Exec}
use Rattle.flow_tree.specs.declared.fault.TreeRule.{TreeRule}
use Rattle.flow_tree.specs.declared.before.Before.{Before, Nothing, Flow', All'}
use Rattle.flow_tree.specs.declared.before.Sought.{Sought}
use Rattle.flow_tree.specs.declared.before.Sought.TheVariants.{Id, Level, Kind, Condition, OutOfRange, Unnamed}

-- the depth at which the next one stands
unfoldable pub depth_of : Before → ℕ
depth_of Nothing = 1
depth_of (Flow' p before id requirement) = depth_of before + 1
depth_of (All' p before execs) = depth_of before

unfoldable pub before_of : Before → List Place
before_of Nothing = []
before_of (Flow' p before id requirement) = before_of before ++ record { id = id.now; requirement = requirement; shape = Flow; depth = depth_of before } ∷ []
before_of (All' p before execs) = before_of before ++ places_at (depth_of before) execs.now

-- the place has what is sought
abbrev pub is_sought : Sought → Place → Bool
is_sought (Id id) p = bytes_eq p.id id.now
is_sought (Level level) p = is_of_level level p.shape
is_sought (Kind kind) p = is_of_kind kind p.shape
is_sought Condition p = is_condition p.shape
is_sought OutOfRange p = not (is_level_in_range p.shape)
is_sought Unnamed p = not (has_own_names p)

abbrev pub is_named : Sought → List ℕ → Bool
is_named (Id id) name = bytes_eq name id.now
is_named (Level level) name = false
is_named (Kind kind) name = false
is_named Condition name = false
is_named OutOfRange name = false
is_named Unnamed name = not (is_name name)

-- the first i have none that breaks the rule, and the first i + 1 have one
pub record IsFirstBroken (rule : TreeRule) (before : Before) (es : List Exec) (i : ℕ) : Type 0 where
  pub within : i < length es
  pub none : first_breaking rule (before_of before) (places_at (depth_of before) (take i es)) ≡ None
  pub some : is_some (first_breaking rule (before_of before) (places_at (depth_of before) (take (i + 1) es))) ≡ true
