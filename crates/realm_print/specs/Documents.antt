-- The parts of a realm's document.
use Rattle.std.specs.Prelude.{◌≡◌, pos, Option, codes}
use Rattle.toml.specs.Data.{Data, Members, integer}
use Rattle.realm_data.specs.declared.realm_parts.RealmParts.{RealmParts}
use Rattle.realm_fields.specs.Reading.{word_in, few_in}
use Rattle.realm_fields.specs.Words.{name_of, digest_of}
use Rattle.realm_fields.specs.Settings.{session_in, otp_rule_in, policy_in, lone_number}
use Rattle.realm_fields.specs.Levels.{levels_in}
use Rattle.realm_fields.specs.Users.{client_in, user_in}
use Rattle.realm_file.specs.Execs.{execs_in}
use Rattle.realm_print.specs.Fields.{with_member, with_some}
use Rattle.realm_print.specs.Printed.{IsReadAs, AreListedAs, IsPlain, IfPlain}

-- the format, the names and the flow are put
pub record PutsHead (r : RealmParts) (old new : Members) : Type 0 where
  pub name : Data
  pub admin_key : Data
  pub flow : Data
  pub members : new ≡ with_member (codes "flow") flow (with_member (codes "admin_key") admin_key
      (with_member (codes "realm") name (with_member (codes "format") (integer (pos 1)) old)))
  pub name_read : IsReadAs (word_in name_of) name r.name
  pub admin_key_read : IsReadAs (word_in digest_of) admin_key r.admin_key
  pub flow_read : IsReadAs execs_in flow r.flow
  pub name_plain : IsPlain 0 name
  pub admin_key_plain : IsPlain 0 admin_key
  pub flow_plain : IsPlain 17 flow

-- the tables of numbers are put
pub record PutsSettings (r : RealmParts) (old new : Members) : Type 0 where
  pub session : Data
  pub password : Data
  pub otp : Data
  pub recovery : Data
  pub lockout : Data
  pub members : new ≡ with_member (codes "lockout") lockout (with_member (codes "recovery") recovery
      (with_member (codes "otp") otp (with_member (codes "password") password
      (with_member (codes "session") session old))))
  pub session_read : IsReadAs session_in session r.session
  pub password_read : IsReadAs (lone_number (codes "iterations") 1 2000000) password r.iterations
  pub otp_read : IsReadAs otp_rule_in otp r.otp
  pub recovery_read : IsReadAs (lone_number (codes "count") 1 16) recovery r.recovery_count
  pub lockout_read : IsReadAs policy_in lockout r.lockout
  pub session_plain : IsPlain 1 session
  pub password_plain : IsPlain 1 password
  pub otp_plain : IsPlain 1 otp
  pub recovery_plain : IsPlain 1 recovery
  pub lockout_plain : IsPlain 1 lockout

-- the levels, the clients and the users are put
pub record PutsLists (r : RealmParts) (old new : Members) : Type 0 where
  pub acr : Option Data
  pub clients : Data
  pub users : Option Data
  pub members : new ≡ with_some (codes "user") users (with_member (codes "client") clients
      (with_some (codes "acr") acr old))
  pub acr_read : AreListedAs levels_in acr r.acr
  pub clients_read : IsReadAs (few_in 1 64 client_in) clients r.clients
  pub users_read : AreListedAs (few_in 0 10000 user_in) users r.users
  pub acr_plain : IfPlain 1 acr
  pub clients_plain : IsPlain 2 clients
  pub users_plain : IfPlain 3 users
