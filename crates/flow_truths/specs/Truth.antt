-- When a leaf is true, and when a condition is.
use Rattle.std.specs.Prelude.{ℕ, Bool, true, false, not, ◌&&◌, ◌||◌, nat_le, is_some, List}
use Rattle.std.specs.List.{list_all}
use Rattle.flow_tree.specs.declared.exec.Cond.{Cond}
use Rattle.flow_tree.specs.declared.exec.Cond.TheVariants as cond
use Rattle.flow_tree.specs.declared.exec.Exec.{Exec}
use Rattle.flow_tree.specs.declared.exec.Kind.{Kind}
use Rattle.flow_tree.specs.declared.exec.Kind.TheVariants as kinds
use Rattle.flow_tree.specs.declared.live.LiveLevel.{LiveLevel}
use Rattle.flow_tree.specs.Flow.{has}
use Rattle.flow_tree.specs.Levels.{live_levels}
use Rattle.conditions.specs.Truth.{role_true, fresh}
use Rattle.flow_truths.specs.declared.view.LoginView.{LoginView}

-- the level was reached less than this age before the view's moment
abbrev pub is_fresh : LoginView → ℕ → ℕ → Bool
is_fresh view level age = fresh view.levels level age view.moment

-- it is above the asked level, or fresh
abbrev pub is_kept : LoginView → LiveLevel → Bool
is_kept view l = not (nat_le l.level view.level) || is_fresh view l.level l.age

-- there is a live session, and each of these levels up to the asked one is fresh
abbrev pub is_held_by : LoginView → List LiveLevel → Bool
is_held_by view ls = is_some view.levels && list_all (is_kept view) ls

-- a cookie is true in a live session in which each live level up to the asked one is fresh
abbrev pub cookie_holds : LoginView → List Exec → Bool
cookie_holds view tree = is_held_by view (live_levels tree)

-- allow always is, deny never; a cookie is as given; any other leaf where its id is counted
abbrev pub is_leaf_true : LoginView → Bool → List ℕ → Kind → Bool
is_leaf_true view cookie id kinds.Allow = true
is_leaf_true view cookie id kinds.Deny = false
is_leaf_true view cookie id kinds.Cookie = cookie
is_leaf_true view cookie id kinds.Username = has view.counted id
is_leaf_true view cookie id kinds.Password = has view.counted id
is_leaf_true view cookie id kinds.Form = has view.counted id
is_leaf_true view cookie id kinds.Otp = has view.counted id
is_leaf_true view cookie id kinds.Recovery = has view.counted id

-- a role where the user has it or, negated, hasn't; configured where what stands beside it is; a
-- level where it is at most the asked one and isn't fresh
abbrev pub is_condition_true : LoginView → Bool → Cond → Bool
is_condition_true view beside (cond.Role role negate) = role_true view.account role negate
is_condition_true view beside cond.Configured = beside
is_condition_true view beside (cond.Level level age) = nat_le level view.level && not (is_fresh view level age)
