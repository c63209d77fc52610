-- Whose rows facts change.
use Rattle.std.specs.Prelude.{ℕ, pos, ◌==◌, Bool, true, false, List, [], ◌∷◌, ◌++◌, fold, Option, Some, None, if◌then◌else◌}
use Rattle.std.specs.List.{flat_map, list_any}
use Rattle.std.specs.Ordering.{int_eq}
use Rattle.std.specs.Str.{bytes_eq}
use Rattle.login_base.specs.IdText.{id_bytes}
use Rattle.login_base.specs.declared.id.UserId.{UserId}
use Rattle.keeper_rows.specs.declared.change.RowKey.{RowKey}
use Rattle.keeper_rows.specs.declared.change.RowKey.TheVariants as keys
use Rattle.facts.specs.declared.fact.Fact.{Fact}
use Rattle.facts.specs.declared.fact.Fact.TheVariants as events
use Rattle.facts.specs.Realms.{last_version}
use Rattle.fact_rows.specs.Rows.{is_key, secret_serial}

abbrev pub same_key : RowKey → RowKey → Bool
same_key (keys.Realm a) (keys.Realm b) = a == b
same_key (keys.Account a) (keys.Account b) = int_eq a b
same_key (keys.Secret a) (keys.Secret b) = int_eq a b
same_key (keys.Session a) (keys.Session b) = bytes_eq a b
same_key (keys.Token a) (keys.Token b) = bytes_eq a b
same_key keys.Mark keys.Mark = true
same_key key other = false

-- the account's key, where a column holds it
abbrev pub account_keys : UserId → List RowKey
account_keys user = if is_key user.0 then keys.Account (pos user.0) ∷ [] else []

abbrev pub secret_keys : ℕ → List RowKey
secret_keys serial = if is_key serial then keys.Secret (pos serial) ∷ [] else []

abbrev pub former_keys : Option ℕ → List RowKey
former_keys None = []
former_keys (Some serial) = secret_keys serial

-- The keys of the rows that a fact behind these changes: those that it names, and those of the realm and the secret
-- that it replaces. A fact that isn't stored changes none.
abbrev pub touched_by : List Fact → Fact → List RowKey
touched_by before (events.RealmPut version realm) = keys.Realm (last_version before) ∷ keys.Realm version ∷ []
touched_by before (events.UserPut user name roles) = account_keys user
touched_by before (events.SecretSet user kind serial secret by) = former_keys (secret_serial user kind before) ++ secret_keys serial
touched_by before (events.ActionSet user kind) = account_keys user
touched_by before (events.ActionDone user kind) = account_keys user
touched_by before (events.TokenMade key user kind expiry) = keys.Token (id_bytes key.0) ∷ []
touched_by before (events.SpentToken key) = keys.Token (id_bytes key.0) ∷ []
touched_by before (events.Enabled user) = account_keys user
touched_by before (events.Disabled user) = account_keys user
touched_by before (events.Failed user moment) = account_keys user
touched_by before (events.SpentStep credential step) = secret_keys credential
touched_by before (events.SpentRecovery credential number) = secret_keys credential
touched_by before (events.Session session root user moment idle most) = keys.Session (id_bytes session.0) ∷ []
touched_by before (events.Seen session moment) = keys.Session (id_bytes session.0) ∷ []
touched_by before (events.Level session level moment) = keys.Session (id_bytes session.0) ∷ []
touched_by before (events.SessionEnd session) = keys.Session (id_bytes session.0) ∷ []
touched_by before (events.Completed tab user session moment) = account_keys user
touched_by before fact = []

-- the key stands behind the others, unless it is among them
abbrev pub noted : List RowKey → RowKey → List RowKey
noted known key = if list_any (same_key key) known then known else known ++ key ∷ []

-- each of these keys once, behind those that are known
abbrev pub all_noted : List RowKey → List RowKey → List RowKey
all_noted known more = fold noted known more

-- the keys of the rows that the added facts change, each once
unfoldable pub touched : List Fact → List Fact → List RowKey
touched before added = all_noted [] (flat_map (touched_by before) added)
