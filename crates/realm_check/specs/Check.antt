-- What a check says of a realm.
use Rattle.std.specs.Prelude.{ℕ, max, min, ◌-◌, ◌^◌, nat_lt, List, [], ◌∷◌, ◌++◌, map, fold, length, codes, decimal, if◌then◌else◌}
use Rattle.std.specs.List.{flat_map}
use Rattle.flow_tree.specs.declared.exec.Exec.{Exec}
use Rattle.flow_tree.specs.declared.live.LiveLevel.{LiveLevel}
use Rattle.flow_tree.specs.Levels.{live_levels}
use Rattle.flow_tree.specs.Places.{Place, places}
use Rattle.realm_data.specs.declared.realm_parts.RealmParts.{RealmParts}

-- ---- numbers of a flow

-- every execution is counted
abbrev pub execution_count : List Exec → ℕ
execution_count flow = length (places flow)

-- the greatest of these numbers, 0 where there is none
unfoldable pub greatest : List ℕ → ℕ
greatest [] = 0
greatest (n ∷ ns) = max n (greatest ns)

abbrev pub depths : List Place → List ℕ
depths ps = map (λ (p : Place). p.depth) ps

-- the greatest depth: a top execution has depth 1, one in a subflow the subflow's depth and one more
abbrev pub flow_depth : List Exec → ℕ
flow_depth flow = greatest (depths (places flow))

-- ---- levels

-- a number at its place among ascending ones
unfoldable pub with_number : List ℕ → ℕ → List ℕ
with_number [] n = n ∷ []
with_number (m ∷ ms) n = if nat_lt n m then n ∷ m ∷ ms else m ∷ with_number ms n

abbrev pub with_level : List ℕ → LiveLevel → List ℕ
with_level ns l = with_number ns l.level

-- the levels of the live level conditions, ascending
abbrev pub ascending_levels : List Exec → List ℕ
ascending_levels flow = fold with_level [] (live_levels flow)

-- a label, and then a value
unfoldable pub field : List ℕ → List ℕ → List ℕ
field label value = label ++ value

-- with commas between them, or `-` where there are none
abbrev pub levels_text : List ℕ → List ℕ
levels_text [] = codes "-"
levels_text (n ∷ ns) = decimal n ++ flat_map (field (codes ",")) (map decimal ns)

-- ---- the line

-- `ok realm=<name> executions=<n> depth=<d> levels=<l,l>`
unfoldable pub line_of : List ℕ → ℕ → ℕ → List ℕ → List ℕ
line_of name executions depth levels =
    field (codes "ok realm=") name ++ field (codes " executions=") (decimal executions) ++ field (codes " depth=") (decimal depth) ++ field (codes " levels=") levels ++ 10 ∷ []

abbrev pub check_line : RealmParts → List ℕ
check_line realm = line_of realm.name (execution_count realm.flow) (flow_depth realm.flow) (levels_text (ascending_levels realm.flow))

-- ---- numbers on the way

-- a number that stands still at the end of its type
abbrev pub capped : ℕ → ℕ
capped n = min n (2 ^ 64 - 1)
