-- What is wrong with executions that are no tree.
use Rattle.std.specs.Prelude.{◌≡◌, is_some, ℕ, Bool, true, false, not, ◌&&◌, ◌||◌, nat_lt, nat_le, if◌then◌else◌, List, [], ◌∷◌, ◌++◌, length, Option, Some, None, option_map}
use Rattle.std.specs.Option.{option_or}
use Rattle.std.specs.List.{list_any}
use Rattle.std.specs.Str.{bytes_eq}
use Rattle.flow_tree.specs.declared.exec.Cond.{Cond}
use Rattle.flow_tree.specs.declared.exec.Cond.TheVariants as cond
use Rattle.flow_tree.specs.declared.exec.Exec.{Exec}
use Rattle.flow_tree.specs.declared.fault.TreeRule.{TreeRule}
use Rattle.flow_tree.specs.declared.fault.TreeRule.TheVariants.{DoubleId, ConditionalLeaf, TooDeep, TooMany, DoubleLevel, CondRequirement}
use Rattle.flow_tree.specs.declared.fault.TreeFault.{TreeFault}
use Rattle.flow_tree.specs.Flow.{is_required, is_conditional, is_disabled, is_level}
use Rattle.flow_tree.specs.Places.{Shape, Leaf, Test, Flow, Place, places}

abbrev pub is_flow : Shape → Bool
is_flow (Leaf kind) = false
is_flow (Test c) = false
is_flow Flow = true

abbrev pub is_condition : Shape → Bool
is_condition (Leaf kind) = false
is_condition (Test c) = true
is_condition Flow = false

-- it is a condition of this level
abbrev pub is_of_level : ℕ → Shape → Bool
is_of_level level (Leaf kind) = false
is_of_level level (Test c) = is_level level c
is_of_level level Flow = false

-- one of these is a condition of the same level
abbrev pub has_level_of : List Place → Cond → Bool
has_level_of ps (cond.Role role negate) = false
has_level_of ps cond.Configured = false
has_level_of ps (cond.Level level age) = list_any (λ (p : Place). is_of_level level p.shape) ps

abbrev pub repeats_level : List Place → Shape → Bool
repeats_level ps (Leaf kind) = false
repeats_level ps (Test c) = has_level_of ps c
repeats_level ps Flow = false

-- an execution breaks a rule, where these stand before it
abbrev pub breaks : TreeRule → List Place → Place → Bool
breaks DoubleId before p = list_any (λ (q : Place). bytes_eq q.id p.id) before
breaks ConditionalLeaf before p = is_conditional p.requirement && not (is_flow p.shape)
breaks TooDeep before p = nat_lt 8 p.depth
breaks TooMany before p = nat_le 64 (length before)
breaks DoubleLevel before p = repeats_level before p.shape
breaks CondRequirement before p = is_condition p.shape && not (is_required p.requirement || is_disabled p.requirement)

-- the id of the first that breaks a rule, where these stand before them
unfoldable pub first_breaking : TreeRule → List Place → List Place → Option (List ℕ)
first_breaking rule before [] = None
first_breaking rule before (p ∷ ps) = if breaks rule before p then Some p.id else first_breaking rule (before ++ p ∷ []) ps

abbrev pub broken : TreeRule → List Exec → Option TreeFault
broken rule es = option_map (λ id. record { rule = rule; id = id }) (first_breaking rule [] (places es))

-- the first of these rules that is broken
abbrev pub fault_among : List TreeRule → List Exec → Option TreeFault
fault_among [] es = None
fault_among (rule ∷ rules) es = option_or (broken rule es) (fault_among rules es)

-- the rules in the order in which they are looked for
abbrev pub all_rules : List TreeRule
all_rules = DoubleId ∷ ConditionalLeaf ∷ TooDeep ∷ TooMany ∷ DoubleLevel ∷ CondRequirement ∷ []

-- what is wrong with executions, if anything: the first broken rule, with the first that breaks it
unfoldable pub fault_of : List Exec → Option TreeFault
fault_of es = fault_among all_rules es

-- the first broken rule
pub record IsFirstRule (rule : TreeRule) (es : List Exec) : Type 0 where
  pub first : fault_of es ≡ broken rule es
  pub is_broken : is_some (first_breaking rule [] (places es)) ≡ true
