-- Which level a login is granted, and which levels it records.
use Rattle.std.specs.Prelude.{ℕ, Bool, false, ◌==◌, ◌||◌, List, Option, Some, None}
use Rattle.std.specs.List.{filter, range_with_len}
use Rattle.flow_tree.specs.declared.exec.Exec.{Exec}
use Rattle.flow_tree.specs.Flow.{level_holds}
use Rattle.flow_tree.specs.Levels.{live_age}
use Rattle.flow_truths.specs.declared.view.LoginView.{LoginView}
use Rattle.flow_truths.specs.Truth.{is_fresh}

-- the asked level is fresh by its condition's age; false where it has no live condition
abbrev pub is_fresh_by : LoginView → Option ℕ → Bool
is_fresh_by view None = false
is_fresh_by view (Some age) = is_fresh view view.level age

-- the asked level is 0, or has a live condition and is fresh by its age, or is reached now: its
-- condition's subflow acts and holds
abbrev pub is_granted : LoginView → List (List ℕ) → List Exec → Bool
is_granted view truths tree =
    view.level == 0 || is_fresh_by view (live_age view.level tree) || level_holds truths view.level tree

-- the levels from 1 to this one that are reached, ascending
abbrev pub levels_reached : List (List ℕ) → ℕ → List Exec → List ℕ
levels_reached truths level tree = filter (λ l. level_holds truths l tree) (range_with_len 1 level)
