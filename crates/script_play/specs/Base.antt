-- The base over which a script is played.
use Rattle.std.specs.Prelude.{List, [], ◌∷◌, ◌++◌, Option, Some, None}
use Rattle.facts.specs.declared.fact.Fact.{Fact}
use Rattle.facts.specs.declared.fact.Fact.TheVariants as events
use Rattle.realm_data.specs.declared.realm_parts.RealmParts.{RealmParts}
use Rattle.realm_data.specs.RealmBuiltin.{builtin_realm}
use Rattle.login_hall.specs.Start.{start_facts}

-- the given realm, or the built-in one
abbrev pub or_builtin : Option RealmParts → RealmParts
or_builtin None = builtin_realm
or_builtin (Some realm) = realm

-- a mark of zeros
abbrev pub first_mark : List Fact
first_mark = events.Mark 0 0 0 0 ∷ []

-- a mark of zeros, and what a start with the given realm, or the built-in one, adds: the realm as version 1, and then
-- its users
unfoldable pub base_of : Option RealmParts → List Fact
base_of given = first_mark ++ start_facts first_mark (Some (or_builtin given))
