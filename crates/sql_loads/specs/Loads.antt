-- What is known of a table that was loaded.
use Rattle.std.specs.Prelude.{◌≡◌, ℕ, ℤ, pos, negsuc, ◌&&◌, Bool, true, false, not, List, map, Option}
use Rattle.std.specs.List.{AllByRecursion, position_from}
use Rattle.std.specs.Ordering.{int_eq}
use Rattle.std.specs.Result.{is_ok}
use Rattle.realm_file.specs.RealmFile.{realm_read}
use Rattle.sqlite.specs.declared.types.Value.TheVariants.{Int}
use Rattle.sqlite.specs.Order.{Row, value_cmp}
use Rattle.sqlite.specs.Tree.{rowid}
use Rattle.sql_accounts.specs.Shown.{realm_shown, account_shown, secret_shown, mark_shown}
use Rattle.sql_base.specs.Ready.{AreApart, AreNumbered}
use Rattle.sql_base.specs.Told.{by_key, number_at, text_at, session_of, token_of}
use Rattle.sql_sessions.specs.Values.{session_shown, token_shown}
use Rattle.sql_loads.specs.Fits.{RealmFits, AccountFits, SecretFits, SessionFits, TokenFits, MarkFits}
use Rattle.keeper_rows.specs.Applied.{text_cmp, session_key, token_key}

-- the rows of a table of sessions have rowids and ids of their own
pub record AreSessions (rows : List Row) : Type 0 where
  pub numbered : AreNumbered rows
  pub apart : AreApart text_cmp session_key (map session_of rows)

-- the same, of tokens
pub record AreTokens (rows : List Row) : Type 0 where
  pub numbered : AreNumbered rows
  pub apart : AreApart text_cmp token_key (map token_of rows)

abbrev pub by_rowid : List Row → List Row
by_rowid rows = by_key value_cmp rowid rows

-- the number, from 1, of the first row that doesn't pass
abbrev pub first_failing : (Row → Bool) → List Row → Option ℕ
first_failing test rows = position_from (λ row. not (test row)) 1 rows

abbrev pub is_natural : ℤ → Bool
is_natural (pos n) = true
is_natural (negsuc n) = false

-- the version is a natural number, and the text is a realm's
abbrev pub tells_realm : Row → Bool
tells_realm row = is_natural (number_at row 0) && is_ok (realm_read (text_at row 2))

abbrev pub HasMarkKey : Row → Type 0
HasMarkKey row = rowid row ≡ Int (pos 1)

-- the same, as a test
abbrev pub has_mark_key : Row → Bool
has_mark_key row = int_eq (number_at row 0) (pos 1)

-- ---- rows that can be loaded: each column holds what is wanted of it, and no rowid and no key comes twice

pub record RealmsFit (rows : List Row) : Type 0 where
  pub fit : AllByRecursion (λ r. RealmFits (realm_shown r)) rows
  pub numbered : AreNumbered rows

pub record AccountsFit (rows : List Row) : Type 0 where
  pub fit : AllByRecursion (λ r. AccountFits (account_shown r)) rows
  pub numbered : AreNumbered rows

pub record SecretsFit (rows : List Row) : Type 0 where
  pub fit : AllByRecursion (λ r. SecretFits (secret_shown r)) rows
  pub numbered : AreNumbered rows

pub record SessionsFit (rows : List Row) : Type 0 where
  pub fit : AllByRecursion (λ r. SessionFits (session_shown r)) rows
  pub kept : AreSessions rows

pub record TokensFit (rows : List Row) : Type 0 where
  pub fit : AllByRecursion (λ r. TokenFits (token_shown r)) rows
  pub kept : AreTokens rows

pub record MarksFit (rows : List Row) : Type 0 where
  pub fit : AllByRecursion (λ r. MarkFits (mark_shown r)) rows
  pub numbered : AreNumbered rows
