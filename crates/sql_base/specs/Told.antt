-- The tables that a database tells. A row is stored as its rowid and its columns; the column that the rowid stands for is NULL.
use Rattle.std.specs.Prelude.{ℕ, ℤ, pos, negsuc, List, [], fold, map, Result, Ok, Err}
use Rattle.std.specs.declared.cmp.Ordering.{Ordering}
use Rattle.std.specs.Ordering.{nat_cmp, int_cmp}
use Rattle.realm_data.specs.declared.realm_parts.RealmParts.{RealmParts}
use Rattle.realm_data.specs.RealmBuiltin.{builtin_realm}
use Rattle.realm_file.specs.RealmFile.{realm_read}
use Rattle.realm_fields.specs.declared.fault.RealmFault.{RealmFault}
use Rattle.keeper_rows.specs.declared.rows.RealmRow.{RealmRow}
use Rattle.keeper_rows.specs.declared.rows.AccountRow.{AccountRow}
use Rattle.keeper_rows.specs.declared.rows.SecretRow.{SecretRow}
use Rattle.keeper_rows.specs.declared.rows.SessionRow.{SessionRow}
use Rattle.keeper_rows.specs.declared.rows.TokenRow.{TokenRow}
use Rattle.keeper_rows.specs.declared.rows.MarkRow.{MarkRow}
use Rattle.keeper_rows.specs.declared.tables.Tables.{Tables}
use Rattle.keeper_rows.specs.Applied.{realm_key, account_key, secret_key, session_key, token_key, mark_key, text_cmp}
use Rattle.keeper_rows.specs.Keys.{placed}
use Rattle.sqlite.specs.declared.types.Value.{Value}
use Rattle.sqlite.specs.declared.types.Value.TheVariants.{Int, Text, Blob}
use Rattle.sqlite.specs.Order.{Row, column}
use Rattle.sqlite.specs.Tree.{Trees}

-- the rows in order of their keys
abbrev pub by_key : {R K : Type 0} → (K → K → Ordering) → (R → K) → List R → List R
by_key cmp key rows = fold (λ told row. placed cmp key row told) [] rows

-- ---- columns; one of another kind tells nothing

abbrev pub number_of : Value → ℤ
number_of (Int n) = n
number_of _ = pos 0

abbrev pub text_of : Value → List ℕ
text_of (Text t) = t
text_of _ = []

abbrev pub bytes_of : Value → List ℕ
bytes_of (Blob b) = b
bytes_of _ = []

abbrev pub nat_of : ℤ → ℕ
nat_of (pos n) = n
nat_of (negsuc n) = 0

abbrev pub number_at : Row → ℕ → ℤ
number_at row at = number_of (column row at)

abbrev pub text_at : Row → ℕ → List ℕ
text_at row at = text_of (column row at)

-- ---- rows

-- a text that is no realm's tells the built-in one
abbrev pub realm_in : Result RealmParts RealmFault → RealmParts
realm_in (Ok realm) = realm
realm_in (Err fault) = builtin_realm

abbrev pub realm_of : Row → RealmRow
realm_of row = record { version = nat_of (number_at row 0); realm = realm_in (realm_read (text_at row 2)) }

abbrev pub account_of : Row → AccountRow
account_of row = record {
  id = number_at row 0;
  name = text_at row 2;
  roles = text_at row 3;
  enabled = number_at row 4;
  count = number_at row 5;
  last = number_at row 6;
  until = number_at row 7;
  permanent = number_at row 8;
  actions = text_at row 9;
}

abbrev pub secret_of : Row → SecretRow
secret_of row = record {
  serial = number_at row 0;
  user = number_at row 2;
  kind = text_at row 3;
  body = bytes_of (column row 4);
  spent = text_at row 5;
}

abbrev pub session_of : Row → SessionRow
session_of row = record {
  id = text_at row 1;
  user = number_at row 2;
  opened = number_at row 3;
  seen = number_at row 4;
  idle = number_at row 5;
  max = number_at row 6;
  levels = text_at row 7;
}

abbrev pub token_of : Row → TokenRow
token_of row = record {
  key = text_at row 1;
  user = number_at row 2;
  kind = text_at row 3;
  expiry = number_at row 4;
  spent = number_at row 5;
}

abbrev pub mark_of : Row → MarkRow
mark_of row = record { schema = number_at row 2; serial = number_at row 3; moment = number_at row 4 }

-- ---- tables

abbrev pub tables_in : Trees → Tables
tables_in db = record {
  realms = by_key nat_cmp realm_key (map realm_of (db 0));
  accounts = by_key int_cmp account_key (map account_of (db 1));
  secrets = by_key int_cmp secret_key (map secret_of (db 3));
  sessions = by_key text_cmp session_key (map session_of (db 5));
  tokens = by_key text_cmp token_key (map token_of (db 7));
  marks = by_key nat_cmp mark_key (map mark_of (db 9));
}
