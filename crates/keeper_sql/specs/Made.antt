-- Tables that are made in an empty database.
use Rattle.std.specs.Prelude.{◌≡◌, ℕ, List, [], IsTrue}
use Rattle.std.specs.List.{AllByRecursion}
use Rattle.sqlite.specs.Schema.{Schema}
use Rattle.sqlite.specs.Effect.{IsDatabase}
use Rattle.sqlite.specs.State.{State}
use Rattle.keeper_rows.specs.Applied.{no_rows}
use Rattle.sql_base.specs.Steps.{IsBegun}
use Rattle.sql_base.specs.Told.{tables_in}
use Rattle.keeper_sql.specs.Committed.{IsOurs}

-- inside the transaction the schema is this one, these trees are empty, and nothing is committed
pub record AreMade (schema : Schema) (trees : List ℕ) (old new : State) : Type 0 where
  pub begun : IsBegun schema new
  pub is_open : IsTrue new.is_open
  pub sound : IsDatabase new.now
  pub empty : AllByRecursion (λ t. new.now.trees t ≡ []) trees
  pub committed : new.committed ≡ old.committed

-- our tables are there, committed and without a row
pub record IsFresh (s : State) : Type 0 where
  pub is_open : IsTrue s.is_open
  pub ours : IsOurs s.now
  pub tables_are : tables_in s.now.trees ≡ no_rows
