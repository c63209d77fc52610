-- What a realm file says: a realm, or the first fault.
use Rattle.std.specs.Prelude.{◌≡◌, ◌≤◌, ℕ, Bool, ◌&&◌, true, nat_le, List, [], ◌∷◌, length, Option, Some, None, Result, Ok, Err, codes, if◌then◌else◌}
use Rattle.std.specs.List.{list_all}
use Rattle.std.specs.Str.{is_utf8}
use Rattle.toml.specs.Data.{Members}
use Rattle.toml.specs.Parse.{parse_document}
use Rattle.login_base.specs.Names.{is_name}
use Rattle.flow_tree.specs.Names.{has_names}
use Rattle.realm_data.specs.PasswordHash.{is_iterations}
use Rattle.realm_data.specs.Realm.{is_within, are_limits, is_otp_rule, is_policy, has_levels_in_range, are_ascending}
use Rattle.realm_data.specs.Secrets.{is_digest}
use Rattle.realm_data.specs.declared.realm_parts.AcrLevel.{AcrLevel}
use Rattle.realm_data.specs.declared.realm_parts.RealmParts.{RealmParts}
use Rattle.realm_fields.specs.declared.fault.RealmFault.TheVariants.{NotToml}
use Rattle.realm_file.specs.declared.read.Draft.{Draft}
use Rattle.realm_file.specs.declared.read.Settings.{Settings}
use Rattle.realm_fields.specs.Reading.{Read, ◌>>=◌, word_in, number_in, required, optional, listed, few_in, is_among, only_keys}
use Rattle.realm_fields.specs.Words.{name_of, digest_of}
use Rattle.realm_fields.specs.Settings.{session_in, otp_rule_in, policy_in, lone_number}
use Rattle.realm_file.specs.Execs.{execs_in}
use Rattle.realm_fields.specs.Levels.{levels_in, is_level_in_range}
use Rattle.realm_fields.specs.Users.{client_in, user_in, is_client_in_range, is_user_in_range}
use Rattle.realm_file.specs.Rules.{by_rules}

-- ---- the tables

abbrev pub realm_keys : List (List ℕ)
realm_keys =
    codes "format" ∷ codes "realm" ∷ codes "admin_key" ∷ codes "flow" ∷ codes "session" ∷ codes "password" ∷ codes "otp"
    ∷ codes "recovery" ∷ codes "lockout" ∷ codes "acr" ∷ codes "client" ∷ codes "user" ∷ []

abbrev pub check_realm_keys : Members → Read (Unit {0})
check_realm_keys ms = only_keys (is_among realm_keys) [] ms

unfoldable pub settings_fields : Members → Read Settings
settings_fields ms = do
  session ← required session_in [] (codes "session") ms
  iterations ← required (lone_number (codes "iterations") 1 2000000) [] (codes "password") ms
  otp ← required otp_rule_in [] (codes "otp") ms
  recovery_count ← required (lone_number (codes "count") 1 16) [] (codes "recovery") ms
  lockout ← required policy_in [] (codes "lockout") ms
  Ok (record { session = session; iterations = iterations; otp = otp; recovery_count = recovery_count; lockout = lockout })

unfoldable pub draft_fields : Members → Read Draft
draft_fields ms = do
  keys ← check_realm_keys ms
  format ← required (number_in 1 1) [] (codes "format") ms
  name ← required (word_in name_of) [] (codes "realm") ms
  admin_key ← required (word_in digest_of) [] (codes "admin_key") ms
  flow ← required execs_in [] (codes "flow") ms
  settings ← settings_fields ms
  acr ← listed (optional levels_in [] (codes "acr") ms)
  clients ← required (few_in 1 64 client_in) [] (codes "client") ms
  users ← listed (optional (few_in 0 10000 user_in) [] (codes "user") ms)
  Ok (record { name = name; admin_key = admin_key; flow = flow; settings = settings; acr = acr; clients = clients; users = users })

-- ---- what was read is in its ranges

abbrev pub are_settings : Settings → Bool
are_settings s =
    are_limits s.session && is_iterations s.iterations && is_otp_rule s.otp && is_within 1 16 s.recovery_count
    && is_policy s.lockout

pub record IsDraft (d : Draft) : Type 0 where
  pub name : is_name d.name ≡ true
  pub admin_key : is_digest d.admin_key ≡ true
  pub flow : has_levels_in_range d.flow ≡ true
  pub flow_names : has_names d.flow ≡ true
  pub settings : are_settings d.settings ≡ true
  pub acr : list_all is_level_in_range d.acr ≡ true
  pub order : are_ascending (λ (a : AcrLevel). a.name) d.acr ≡ true
  pub clients : list_all is_client_in_range d.clients ≡ true
  pub client_count : is_within 1 64 (length d.clients) ≡ true
  pub users : list_all is_user_in_range d.users ≡ true
  pub user_count : length d.users ≤ 10000

-- ---- all of it

abbrev pub parts_of : Draft → RealmParts
parts_of d =
    record {
      name = d.name;
      admin_key = d.admin_key;
      flow = d.flow;
      session = d.settings.session;
      iterations = d.settings.iterations;
      otp = d.settings.otp;
      recovery_count = d.settings.recovery_count;
      lockout = d.settings.lockout;
      acr = d.acr;
      clients = d.clients;
      users = d.users;
    }

-- the realm that a document describes: its tables first, then the rules that go beyond them
abbrev pub realm_in : Members → Read RealmParts
realm_in ms = draft_fields ms >>= λ draft. by_rules (parts_of draft)

abbrev pub document_in : Option Members → Read RealmParts
document_in None = Err NotToml
document_in (Some ms) = realm_in ms

-- the realm that a text describes
unfoldable pub realm_read : List ℕ → Read RealmParts
realm_read bytes = if is_utf8 bytes then document_in (parse_document bytes) else Err NotToml
