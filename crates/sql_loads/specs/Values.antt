-- What an answer's row tells.
use Rattle.std.specs.Prelude.{pos, Bool, ◌&&◌, is_some, Option, Some, None, unwrap_or, Result, Ok, Err}
use Rattle.std.specs.Ordering.{int_eq}
use Rattle.realm_data.specs.RealmBuiltin.{builtin_realm}
use Rattle.keeper_rows.specs.declared.rows.MarkRow.{MarkRow}
use Rattle.keeper_rows.specs.declared.rows.RealmRow.{RealmRow}
use Rattle.sql_loads.specs.Loads.{is_natural}
use Rattle.realm_data.specs.declared.realm_parts.RealmParts.{RealmParts}
use Rattle.realm_fields.specs.declared.fault.RealmFault.{RealmFault}
use Rattle.realm_file.specs.RealmFile.{realm_read}
use Rattle.keeper_rows.specs.declared.rows.AccountRow.{AccountRow}
use Rattle.keeper_rows.specs.declared.rows.SecretRow.{SecretRow}
use Rattle.sqlite.specs.Order.{Row, column}
use Rattle.sql_base.specs.Told.{bytes_of, nat_of, number_at, text_at}
use Rattle.sql_loads.specs.declared.stored.StoredRealm.{StoredRealm}
use Rattle.sql_loads.specs.declared.stored.StoredMark.{StoredMark}

abbrev pub account_in : Row → AccountRow
account_in shown = record {
  id = number_at shown 0;
  name = text_at shown 1;
  roles = text_at shown 2;
  enabled = number_at shown 3;
  count = number_at shown 4;
  last = number_at shown 5;
  until = number_at shown 6;
  permanent = number_at shown 7;
  actions = text_at shown 8;
}

abbrev pub secret_in : Row → SecretRow
secret_in shown = record {
  serial = number_at shown 0;
  user = number_at shown 1;
  kind = text_at shown 2;
  body = bytes_of (column shown 3);
  spent = text_at shown 4;
}

abbrev pub if_read : Result RealmParts RealmFault → Option RealmParts
if_read (Ok realm) = Some realm
if_read (Err fault) = None

abbrev pub realm_in : Row → StoredRealm
realm_in shown = record { version = number_at shown 0; realm = if_read (realm_read (text_at shown 1)) }

abbrev pub mark_in : Row → StoredMark
mark_in shown = record { one = number_at shown 0; row = record { schema = number_at shown 1; serial = number_at shown 2; moment = number_at shown 3 } }

-- the version is a natural number, and there is a realm
abbrev pub is_told : StoredRealm → Bool
is_told stored = is_natural stored.version && is_some stored.realm

-- the built-in realm stands where there is none
abbrev pub realm_row : StoredRealm → RealmRow
realm_row stored = record { version = nat_of stored.version; realm = unwrap_or stored.realm builtin_realm }

abbrev pub has_key_one : StoredMark → Bool
has_key_one stored = int_eq stored.one (pos 1)

abbrev pub mark_row : StoredMark → MarkRow
mark_row stored = stored.row
