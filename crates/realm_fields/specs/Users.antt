-- The clients and the users of a realm file.
use Rattle.std.specs.Prelude.{ℕ, Bool, true, ◌&&◌, nat_le, List, [], ◌∷◌, Option, unwrap_or, Result, Ok, codes}
use Rattle.toml.specs.Data.{Members}
use Rattle.login_base.specs.Names.{is_name}
use Rattle.realm_data.specs.PasswordHash.{HashedPassword}
use Rattle.realm_data.specs.Realm.{is_user_named, has_secrets_in_range}
use Rattle.realm_data.specs.declared.realm_parts.Client.{Client}
use Rattle.realm_data.specs.declared.realm_parts.RealmUser.{RealmUser}
use Rattle.realm_fields.specs.Reading.{Read, Reader, ◌>>=◌, flag_in, table_in, word_in, number_in, required, optional, listed, list_in, few_in, is_among, only_keys}
use Rattle.realm_fields.specs.Words.{name_of, salt_of, digest_of, otp_of, action_of}

-- ---- clients

unfoldable pub client_fields : List ℕ → Members → Read Client
client_fields path ms = do
  keys ← only_keys (is_among (codes "id" ∷ codes "level" ∷ [])) path ms
  id ← required (word_in name_of) path (codes "id") ms
  level ← required (number_in 0 1000) path (codes "level") ms
  Ok (record { id = id; level = level })

abbrev pub client_in : Reader Client
client_in path d = table_in path d >>= client_fields path

abbrev pub is_client_in_range : Client → Bool
is_client_in_range c = is_name c.id && nat_le c.level 1000

-- ---- passwords

unfoldable pub password_fields : List ℕ → Members → Read HashedPassword
password_fields path ms = do
  keys ← only_keys (is_among (codes "salt" ∷ codes "iterations" ∷ codes "digest" ∷ [])) path ms
  salt ← required (word_in salt_of) path (codes "salt") ms
  iterations ← required (number_in 1 2000000) path (codes "iterations") ms
  digest ← required (word_in digest_of) path (codes "digest") ms
  Ok (record { salt = salt; iterations = iterations; digest = digest })

abbrev pub password_in : Reader HashedPassword
password_in path d = table_in path d >>= password_fields path

-- ---- users

abbrev pub user_keys : List (List ℕ)
user_keys =
    codes "name" ∷ codes "roles" ∷ codes "enabled" ∷ codes "password" ∷ codes "otp" ∷ codes "recovery"
    ∷ codes "actions" ∷ []

abbrev pub check_user_keys : List ℕ → Members → Read (Unit {0})
check_user_keys path ms = only_keys (is_among user_keys) path ms

-- a user is enabled where `enabled` is absent
unfoldable pub user_fields : List ℕ → Members → Read RealmUser
user_fields path ms = do
  keys ← check_user_keys path ms
  name ← required (word_in name_of) path (codes "name") ms
  roles ← listed (optional (list_in (word_in name_of)) path (codes "roles") ms)
  enabled ← optional flag_in path (codes "enabled") ms
  password ← optional password_in path (codes "password") ms
  otp ← optional (word_in otp_of) path (codes "otp") ms
  recovery ← optional (few_in 1 16 (word_in digest_of)) path (codes "recovery") ms
  actions ← listed (optional (list_in (word_in action_of)) path (codes "actions") ms)
  Ok (record {
    name = name;
    roles = roles;
    enabled = unwrap_or enabled true;
    password = password;
    otp = otp;
    recovery = recovery;
    actions = actions;
  })

abbrev pub user_in : Reader RealmUser
user_in path d = table_in path d >>= user_fields path

abbrev pub is_user_in_range : RealmUser → Bool
is_user_in_range u = is_user_named u && has_secrets_in_range u
