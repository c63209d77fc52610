-- Tables that have exactly the rows that facts give.
use Rattle.std.specs.Prelude.{◌≡◌, ℕ, List, map, Option, option_map, find}
use Rattle.std.specs.declared.cmp.Ordering.{Ordering}
use Rattle.std.specs.List.Sorted.{IsStrictlySortedBy}
use Rattle.std.specs.Ordering.{nat_cmp, int_cmp}
use Rattle.keeper_rows.specs.declared.change.Row.{Row}
use Rattle.keeper_rows.specs.declared.change.Row.TheVariants as rows
use Rattle.keeper_rows.specs.declared.change.RowKey.{RowKey}
use Rattle.keeper_rows.specs.declared.change.RowKey.TheVariants as keys
use Rattle.keeper_rows.specs.declared.tables.Tables.{Tables}
use Rattle.keeper_rows.specs.Applied.{realm_key, account_key, secret_key, session_key, token_key, mark_key, text_cmp}
use Rattle.keeper_rows.specs.Keys.{has_key}
use Rattle.facts.specs.declared.fact.Fact.{Fact}
use Rattle.fact_rows.specs.Due.{realm_of_row, row_due}

-- the rows ascend by their keys, of which none comes twice
abbrev pub AreAscending : {R K : Type 0} → (K → K → Ordering) → (R → K) → List R → Type 0
AreAscending cmp key rows = IsStrictlySortedBy cmp (map key rows)

-- the row of a key in a table
abbrev pub row_of : {R K : Type 0} → (K → K → Ordering) → (R → K) → List R → K → Option R
row_of cmp key rows k = find (has_key cmp key k) rows

-- the row that the tables have at a key
abbrev pub row_in : Tables → RowKey → Option Row
row_in t (keys.Realm version) = option_map realm_of_row (row_of nat_cmp realm_key t.realms version)
row_in t (keys.Account id) = option_map rows.Account (row_of int_cmp account_key t.accounts id)
row_in t (keys.Secret serial) = option_map rows.Secret (row_of int_cmp secret_key t.secrets serial)
row_in t (keys.Session text) = option_map rows.Session (row_of text_cmp session_key t.sessions text)
row_in t (keys.Token text) = option_map rows.Token (row_of text_cmp token_key t.tokens text)
row_in t keys.Mark = option_map rows.Mark (row_of nat_cmp mark_key t.marks 1)

-- each table is in order
pub record IsOrdered (t : Tables) : Type 0 where
  pub realms : AreAscending nat_cmp realm_key t.realms
  pub accounts : AreAscending int_cmp account_key t.accounts
  pub secrets : AreAscending int_cmp secret_key t.secrets
  pub sessions : AreAscending text_cmp session_key t.sessions
  pub tokens : AreAscending text_cmp token_key t.tokens
  pub marks : AreAscending nat_cmp mark_key t.marks

-- at each key the tables have the row that the facts give, and none where they give none
pub record StandFor (t : Tables) (moment : ℕ) (facts : List Fact) : Type 0 where
  pub ordered : IsOrdered t
  pub same : (key : RowKey) → row_in t key ≡ row_due moment facts key
