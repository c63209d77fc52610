-- What a start adds to a base.
use Rattle.std.specs.Prelude.{◌≡◌, ◌≤◌, length, ℕ, ◌+◌, Bool, true, false, List, [], ◌∷◌, ◌++◌, Option, Some, None, is_some, if◌then◌else◌}
use Rattle.login_base.specs.declared.id.UserId.{UserId}
use Rattle.realm_data.specs.declared.realm_parts.RealmParts.{RealmParts}
use Rattle.realm_data.specs.declared.realm_parts.RealmUser.{RealmUser}
use Rattle.realm_data.specs.RealmBuiltin.{builtin_realm}
use Rattle.facts.specs.declared.fact.Fact.{Fact}
use Rattle.facts.specs.declared.fact.Fact.TheVariants as events
use Rattle.facts.specs.Accounts.{account_named}
use Rattle.facts.specs.Realms.{current_realm, last_version}
use Rattle.facts.specs.Serials.{last_stored_serial}
use Rattle.admin_asks.specs.Account.{GivenSecrets, account_facts, serials_of}

-- ---- the realm

-- without a realm, the one in force stays, and where there is none, the built-in one is put
abbrev pub put_without : List Fact → Option RealmParts
put_without base = if is_some (current_realm base) then None else Some builtin_realm

-- the realm that a start puts, if any: a given one, where it isn't the one in force
abbrev pub IsPutGiven : List Fact → RealmParts → Option RealmParts → Type 0
IsPutGiven base realm None = current_realm base ≡ Some realm
IsPutGiven base realm (Some put) = (put ≡ realm) × ¬ (current_realm base ≡ Some realm)

abbrev pub IsPut : List Fact → Option RealmParts → Option RealmParts → Type 0
IsPut base None put = put ≡ put_without base
IsPut base (Some realm) put = IsPutGiven base realm put

-- it becomes the version after the last one; the first is 1
abbrev pub realm_facts : ℕ → Option RealmParts → List Fact
realm_facts last None = []
realm_facts last (Some realm) = events.RealmPut (last + 1) realm ∷ []

-- ---- its users

abbrev pub secrets_of : RealmUser → GivenSecrets
secrets_of given = record { password = given.password; otp = given.otp; recovery = given.recovery }

-- a user of the realm is added
abbrev pub user_facts : UserId → RealmUser → List Fact
user_facts user given = account_facts user given.name given.roles given.enabled (secrets_of given) given.actions

abbrev pub new_user_facts : List Fact → ℕ → RealmUser → List Fact
new_user_facts base serial given = if is_some (account_named given.name base) then [] else user_facts (record { 0 = serial + 1 }) given

abbrev pub serial_after : List Fact → ℕ → RealmUser → ℕ
serial_after base serial given = if is_some (account_named given.name base) then serial else serial + serials_of (secrets_of given)

-- each user whose name has no account is added, in order, with the serials that follow
unfoldable pub users_facts : List Fact → ℕ → List RealmUser → List Fact
users_facts base serial [] = []
users_facts base serial (given ∷ users) = new_user_facts base serial given ++ users_facts base (serial_after base serial given) users

-- ---- all together

-- the users of the realm that is in force after a start
abbrev pub users_after : Option RealmParts → Option RealmParts → List RealmUser
users_after (Some put) current = put.users
users_after None (Some current) = current.users
users_after None None = []

unfoldable pub start_facts : List Fact → Option RealmParts → List Fact
start_facts base put = realm_facts (last_version base) put ++ users_facts base (last_stored_serial base) (users_after put (current_realm base))

-- the facts that a start with this realm adds to a base: it puts a realm or none, and then adds the users of the realm
-- that is in force, which are 10,000 at most
pub record IsStart (base : List Fact) (realm : Option RealmParts) (added : List Fact) : Type 0 where
  pub put : Option RealmParts
  pub is_put : IsPut base realm put
  pub facts : added ≡ start_facts base put
  pub few : length (users_after put (current_realm base)) ≤ 10000

-- the fact is a mark
abbrev pub is_mark : Fact → Bool
is_mark (events.Mark tabs stored used kept) = true
is_mark event = false
