-- The accounts.
use Rattle.std.specs.Prelude.{ℕ, Bool, true, false, List, Option, Some, None, ◌==◌, unwrap_or, if◌then◌else◌}
use Rattle.std.specs.List.{filter}
use Rattle.std.specs.Str.{bytes_eq}
use Rattle.login_base.specs.declared.id.UserId.{UserId}
use Rattle.facts.specs.declared.fact.Fact.{Fact}
use Rattle.facts.specs.declared.fact.Fact.TheVariants as events
use Rattle.facts.specs.Places.{last_of}
use Rattle.facts.specs.Subjects.{subject_of, is_account}

-- the facts about accounts
abbrev pub account_facts : List Fact → List Fact
account_facts facts = filter (λ fact. is_account (subject_of fact)) facts

-- the user whom a fact puts under this name
abbrev pub put_as : List ℕ → Fact → Option UserId
put_as name (events.UserPut user other roles) = if bytes_eq other name then Some user else None
put_as name event = None

-- the account of this name
unfoldable pub account_named : List ℕ → List Fact → Option UserId
account_named name facts = last_of (put_as name) facts

-- the name that a fact gives this user
abbrev pub name_put : UserId → Fact → Option (List ℕ)
name_put user (events.UserPut of name roles) = if of.0 == user.0 then Some name else None
name_put user event = None

-- the name of a user
unfoldable pub name_of : UserId → List Fact → Option (List ℕ)
name_of user facts = last_of (name_put user) facts

-- the roles that a fact gives this user
abbrev pub roles_put : UserId → Fact → Option (List (List ℕ))
roles_put user (events.UserPut of name roles) = if of.0 == user.0 then Some roles else None
roles_put user event = None

-- the roles of a user
unfoldable pub roles_of : UserId → List Fact → Option (List (List ℕ))
roles_of user facts = last_of (roles_put user) facts

-- whether a fact disables or enables this user
abbrev pub disabled_by : UserId → Fact → Option Bool
disabled_by user (events.Disabled of) = if of.0 == user.0 then Some true else None
disabled_by user (events.Enabled of) = if of.0 == user.0 then Some false else None
disabled_by user event = None

-- the user is disabled: the last fact that disables or enables it disables it
unfoldable pub is_disabled : UserId → List Fact → Bool
is_disabled user facts = unwrap_or (last_of (disabled_by user) facts) false
