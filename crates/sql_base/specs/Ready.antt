-- What a statement of a commit is run on, and what it leaves.
use Rattle.std.specs.Prelude.{◌≡◌, ℕ, pos, true, false, List, map, IsTrue}
use Rattle.std.specs.declared.cmp.Ordering.{Ordering}
use Rattle.std.specs.Ordering.{is_eq}
use Rattle.std.specs.List.{AllByRecursion}
use Rattle.keeper_rows.specs.declared.tables.Tables.{Tables}
use Rattle.keeper_rows.specs.Applied.{session_key, token_key, text_cmp}
use Rattle.sqlite.specs.declared.types.Value.TheVariants.{Int}
use Rattle.sqlite.specs.Order.{Row, value_cmp}
use Rattle.sqlite_trees.specs.Tree.{Trees, IsAscending, rowid}
use Rattle.sqlite_trees.specs.View.{is_int}
use Rattle.sqlite.specs.Effect.{IsDatabase}
use Rattle.sqlite.specs.State.{State}
use Rattle.sql_base.specs.Schema.{schema}
use Rattle.sql_base.specs.Told.{session_of, token_of, tables_in}

-- no two have one key
abbrev pub AreApart : {R K : Type 0} → (K → K → Ordering) → (R → K) → List R → Type 0
AreApart cmp key rows = IsAscending (λ a b. is_eq (cmp (key a) (key b)) ≡ false) rows

-- each row has a rowid, which no other one has
pub record AreNumbered (rows : List Row) : Type 0 where
  pub numbers : AllByRecursion (λ r. is_int (rowid r) ≡ true) rows
  pub apart : AreApart value_cmp rowid rows

-- the key is a natural number
abbrev pub IsNatural : Row → Type 0
IsNatural row = (n : ℕ) × (rowid row ≡ Int (pos n))

-- the rows of each table have keys of their own
pub record AreKept (db : Trees) : Type 0 where
  pub realms : AreNumbered (db 0)
  pub versions : AllByRecursion IsNatural (db 0)
  pub accounts : AreNumbered (db 1)
  pub secrets : AreNumbered (db 3)
  pub sessions : AreNumbered (db 5)
  pub session_keys : AreApart text_cmp session_key (map session_of (db 5))
  pub tokens : AreNumbered (db 7)
  pub token_keys : AreApart text_cmp token_key (map token_of (db 7))
  pub marks : AreNumbered (db 9)
  pub mark_keys : AllByRecursion (λ r. rowid r ≡ Int (pos 1)) (db 9)

-- a transaction is open on the tables
pub record IsReady (s : State) : Type 0 where
  pub schema_is : s.now.schema ≡ schema
  pub sound : IsDatabase s.now
  pub kept : AreKept s.now.trees
  pub inside : IsTrue s.in_transaction

-- inside the transaction the tables are these, and nothing is committed
pub record Changes (old new : State) (tables : Tables) : Type 0 where
  pub ready : IsReady new
  pub is_open : IsTrue new.is_open
  pub tables_are : tables_in new.now.trees ≡ tables
  pub committed : new.committed ≡ old.committed
