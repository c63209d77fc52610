-- The realms that were put.
use Rattle.std.specs.Prelude.{ℕ, Bool, ◌==◌, List, Option, Some, None, is_some, fold, if◌then◌else◌}
use Rattle.realm_data.specs.declared.realm_parts.RealmParts.{RealmParts}
use Rattle.facts.specs.declared.fact.Fact.{Fact}
use Rattle.facts.specs.declared.fact.Fact.TheVariants as events
use Rattle.facts.specs.Places.{last_of}

abbrev pub realm_put : Fact → Option RealmParts
realm_put (events.RealmPut version realm) = Some realm
realm_put event = None

-- the realm in force: the last one that was put
unfoldable pub current_realm : List Fact → Option RealmParts
current_realm facts = last_of realm_put facts

-- a realm was put
unfoldable pub has_realm : List Fact → Bool
has_realm facts = is_some (current_realm facts)

abbrev pub version_after : ℕ → Fact → ℕ
version_after version (events.RealmPut new realm) = new
version_after version event = version

-- the version of the realm in force, 0 where there is none
unfoldable pub last_version : List Fact → ℕ
last_version facts = fold version_after 0 facts

-- the realm that a fact puts as this version
abbrev pub put_as : ℕ → Fact → Option RealmParts
put_as version (events.RealmPut own realm) = if own == version then Some realm else None
put_as version event = None

-- the realm of a version: the last one that was put as it
unfoldable pub realm_of : ℕ → List Fact → Option RealmParts
realm_of version facts = last_of (put_as version) facts
