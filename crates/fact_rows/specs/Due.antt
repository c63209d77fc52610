-- Which row is due at a key.
use Rattle.std.specs.Prelude.{ℕ, ℤ, pos, ◌==◌, List, Option, Some, None, option_map, option_and_then, if◌then◌else◌}
use Rattle.login_base.specs.IdText.{id_of}
use Rattle.login_base.specs.declared.id.Id.{Id}
use Rattle.keeper_rows.specs.declared.change.Row.{Row}
use Rattle.keeper_rows.specs.declared.change.Row.TheVariants as rows
use Rattle.keeper_rows.specs.declared.change.RowKey.{RowKey}
use Rattle.keeper_rows.specs.declared.change.RowKey.TheVariants as keys
use Rattle.keeper_rows.specs.declared.rows.RealmRow.{RealmRow}
use Rattle.keeper_rows.specs.declared.rows.AccountRow.{AccountRow}
use Rattle.keeper_rows.specs.declared.rows.SecretRow.{SecretRow}
use Rattle.keeper_rows.specs.declared.rows.SessionRow.{SessionRow}
use Rattle.keeper_rows.specs.declared.rows.TokenRow.{TokenRow}
use Rattle.facts.specs.declared.fact.Fact.{Fact}
use Rattle.fact_rows.specs.Rows.{realm_row, account_row, secret_row, session_row, token_row, mark_row}

abbrev pub if_version : ℕ → RealmRow → Option RealmRow
if_version version row = if row.version == version then Some row else None

-- the row of the realm of this version, where it is in force
abbrev pub realm_at : List Fact → ℕ → Option RealmRow
realm_at facts version = option_and_then (if_version version) (realm_row facts)

abbrev pub account_at : List Fact → ℤ → Option AccountRow
account_at facts (pos serial) = account_row (record { 0 = serial }) facts
account_at facts id = None

abbrev pub secret_at : List Fact → ℤ → Option SecretRow
secret_at facts (pos serial) = secret_row serial facts
secret_at facts key = None

-- keys are texts of ids
abbrev pub session_at : List Fact → List ℕ → Option SessionRow
session_at facts text = option_and_then (λ (id : Id). session_row (record { 0 = id }) facts) (id_of text)

abbrev pub token_at : List Fact → List ℕ → Option TokenRow
token_at facts text = option_and_then (λ (id : Id). token_row (record { 0 = id }) facts) (id_of text)

abbrev pub realm_of_row : RealmRow → Row
realm_of_row row = rows.Realm row.version row.realm

-- the row that the facts give at a key, where the last change came at this moment
abbrev pub row_due : ℕ → List Fact → RowKey → Option Row
row_due moment facts (keys.Realm version) = option_map realm_of_row (realm_at facts version)
row_due moment facts (keys.Account id) = option_map rows.Account (account_at facts id)
row_due moment facts (keys.Secret serial) = option_map rows.Secret (secret_at facts serial)
row_due moment facts (keys.Session text) = option_map rows.Session (session_at facts text)
row_due moment facts (keys.Token text) = option_map rows.Token (token_at facts text)
row_due moment facts keys.Mark = option_map rows.Mark (mark_row moment facts)
