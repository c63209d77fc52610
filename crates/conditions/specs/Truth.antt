-- When a role condition is true, and when a level is fresh.
use Rattle.std.specs.Prelude.{ℕ, ◌-◌, ◌*◌, Bool, false, not, ◌==◌, nat_lt, if◌then◌else◌, List, [], ◌∷◌, Option, Some, None}
use Rattle.std.specs.Option.{option_or}
use Rattle.std.specs.List.{list_any}
use Rattle.std.specs.Str.{bytes_eq}
use Rattle.conditions.specs.declared.account.AccountView.{AccountView}
use Rattle.conditions.specs.declared.level.LevelView.{LevelView}

-- the user has the role
abbrev pub has_role : AccountView → List ℕ → Bool
has_role a role = list_any (λ own. bytes_eq own role) a.roles

-- false where the user is unknown, negated or not
abbrev pub role_true : Option AccountView → List ℕ → Bool → Bool
role_true None role negate = false
role_true (Some a) role negate = if negate then not (has_role a role) else has_role a role

-- its moment, where it is of this level
abbrev pub moment_of : ℕ → ℕ × ℕ → Option ℕ
moment_of level l = if l.0 == level then Some l.1 else None

-- the moment of the last one of this level
unfoldable pub last_moment : ℕ → List (ℕ × ℕ) → Option ℕ
last_moment level [] = None
last_moment level (l ∷ ls) = option_or (last_moment level ls) (moment_of level l)

-- a level of this age that was reached at this moment, if at all, has not aged out
abbrev pub is_young : ℕ → ℕ → Option ℕ → Bool
is_young age now None = false
is_young age now (Some moment) = nat_lt (now - moment) (1000 * age)

-- false where there is no live session
abbrev pub fresh : Option LevelView → ℕ → ℕ → ℕ → Bool
fresh None level age now = false
fresh (Some v) level age now = is_young age now (last_moment level v.levels)
