-- The live level conditions of a tree.
use Rattle.std.specs.Prelude.{ℕ, ◌==◌, ◌&&◌, ◌++◌, if◌then◌else◌, List, [], Option, Some, None, find, option_map, option_to_list}
use Rattle.std.specs.List.{flat_map}
use Rattle.flow_tree.specs.declared.exec.Requirement.{Requirement}
use Rattle.flow_tree.specs.declared.exec.Cond.{Cond}
use Rattle.flow_tree.specs.declared.exec.Cond.TheVariants as cond
use Rattle.flow_tree.specs.declared.exec.Exec.{Exec, Exec-F, fold-Exec}
use Rattle.flow_tree.specs.declared.exec.Body.TheOpen.{Body-F}
use Rattle.flow_tree.specs.declared.live.LiveLevel.{LiveLevel}
use Rattle.flow_tree.specs.Flow.{is_required, is_conditional, is_disabled}

-- an execution: its own level, where it is an enabled level condition, and the live levels in it
pub record Levelled : Type 0 where
  pub own : Option LiveLevel
  pub inner : List LiveLevel

pub data Levelling : Type 0 where
  Leaf : Levelling
  Test : Cond → Levelling
  Flow : List Levelled → Levelling

abbrev pub level_of : Cond → Option LiveLevel
level_of (cond.Role role negate) = None
level_of cond.Configured = None
level_of (cond.Level level age) = Some (record { level = level; age = age })

-- the level that a condition lends to a flow of requirement r: only an enabled condition in a
-- conditional flow does
abbrev pub lent_level : Requirement → Requirement → Cond → Option LiveLevel
lent_level r own c = if is_conditional r && is_required own then level_of c else None

-- what a subflow has of an execution: the execution's own level only where the subflow is conditional
abbrev pub lent_by : Requirement → Levelled → List LiveLevel
lent_by r l = (if is_conditional r then option_to_list l.own else []) ++ l.inner

abbrev pub levels_in : Requirement → Levelling → Levelled
levels_in r Leaf = record { own = None; inner = [] }
levels_in r (Test c) = record { own = if is_required r then level_of c else None; inner = [] }
levels_in r (Flow ls) = record { own = None; inner = if is_disabled r then [] else flat_map (lent_by r) ls }

abbrev pub level_body : Body-F Levelling Levelled → Levelling
level_body (Body-F.Auth kind) = Leaf
level_body (Body-F.Cond c) = Test c
level_body (Body-F.Sub ls) = Flow ls

abbrev pub level_exec : Exec-F Levelling Levelled → Levelled
level_exec e = levels_in e.requirement e.body

unfoldable pub levelled : Exec → Levelled
levelled e = fold-Exec Levelling Levelled level_body level_exec e

-- what a subflow of this requirement has of its executions
abbrev pub lent_levels : Requirement → List Exec → List LiveLevel
lent_levels r es = flat_map (λ (e : Exec). lent_by r (levelled e)) es

-- the live level conditions, in document order: the enabled ones that stand in a conditional
-- subflow, where neither it nor a flow round it is disabled
abbrev pub live_levels : List Exec → List LiveLevel
live_levels es = flat_map (λ (e : Exec). (levelled e).inner) es

-- the age of the first of these of a level
abbrev pub age_among : ℕ → List LiveLevel → Option ℕ
age_among level ls = option_map (λ (l : LiveLevel). l.age) (find (λ (l : LiveLevel). l.level == level) ls)

-- the maximum age of a level's live condition
abbrev pub live_age : ℕ → List Exec → Option ℕ
live_age level es = age_among level (live_levels es)
