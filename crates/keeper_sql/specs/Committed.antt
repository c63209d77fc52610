-- What a transaction on the tables leaves.
use Rattle.std.specs.Prelude.{◌≡◌, ◌⊎◌, List, IsTrue}
use Rattle.keeper_rows.specs.declared.change.Change.{Change}
use Rattle.keeper_rows.specs.Applied.{applied}
use Rattle.sqlite.specs.Effect.{Database, IsDatabase}
use Rattle.sqlite.specs.State.{State, IsUnchanged, IsRolledBack}
use Rattle.sql_base.specs.Schema.{schema}
use Rattle.sql_base.specs.Told.{tables_in}
use Rattle.sql_base.specs.Ready.{AreKept}

-- the database has our tables, whose rows have keys of their own
pub record IsOurs (db : Database) : Type 0 where
  pub schema_is : db.schema ≡ schema
  pub sound : IsDatabase db
  pub kept : AreKept db.trees

-- the database has our tables, whatever their rows
pub record HasOurTables (db : Database) : Type 0 where
  pub schema_is : db.schema ≡ schema
  pub sound : IsDatabase db

-- a statement was refused
abbrev pub IsRefused : State → State → Type 0
IsRefused old new = IsUnchanged old new ⊎ IsRolledBack old new

-- the changes are made, in order, and committed
pub record IsCommitted (changes : List Change) (old new : State) : Type 0 where
  pub was_open : IsTrue old.is_open
  pub is_open : IsTrue new.is_open
  pub ours : IsOurs new.now
  pub tables_are : tables_in new.now.trees ≡ applied changes (tables_in old.now.trees)

-- where the connection is still open, it was open and holds what it held
pub record IsKept (old new : State) : Type 0 where
  pub was_open : IsTrue new.is_open → IsTrue old.is_open
  pub same : IsTrue new.is_open → new.now ≡ old.now
