-- What making a table does, and what a query of all its rows answers.
use Rattle.std.specs.Prelude.{◌≡◌, ◌⊎◌, false, List, [], map, IsPermutation, IsSome, IsSortedByKey, IsTrue}
use Rattle.login_base.specs.Outside.{Rose}
use Rattle.sqlite.specs.Order.{Row, column, value_cmp}
use Rattle.sqlite.specs.Schema.{Schema}
use Rattle.sqlite.specs.Change.{KeepsRows, next_tree}
use Rattle.sqlite.specs.Effect.{IsDatabase}
use Rattle.sqlite.specs.State.{State}

-- a transaction is open on a database with this schema
pub record IsBegun (schema : Schema) (s : State) : Type 0 where
  pub schema_is : s.now.schema ≡ schema
  pub inside : IsTrue s.in_transaction

-- the schema has one more table, which is empty, and the rows of the others are as they were
pub record IsMade (before after : Schema) (old new : State) : Type 0 where
  pub begun : IsBegun after new
  pub is_open : IsTrue new.is_open
  pub sound : IsDatabase new.now
  pub empty : new.now.trees (next_tree before) ≡ []
  pub others : KeepsRows before.tables old.now.trees new.now.trees
  pub committed : new.committed ≡ old.committed

-- all rows as they are shown, in the order of what is shown first
pub record AreListed (shown : Row → Row) (rows answer : List Row) : Type 0 where
  pub same : IsPermutation (map shown rows) answer
  pub sorted : IsSortedByKey (λ r. column r 0) value_cmp answer

-- why a query of all rows is refused, but for want of memory: the disk failed, the connection was shut before, or it came to a limit on steps
abbrev pub IsRefused : State → State → Type 0
IsRefused old new = Rose old.faults new.faults ⊎ ((old.is_open ≡ false) ⊎ IsSome old.step_limit)
