-- Tables that are made one after the other.
use Rattle.std.proofs.Common.{◌≡◌, ◌∙◌, ℕ, List, [], ◌∷◌, ◌++◌, map}
use Rattle.std.specs.List.{AllByRecursion}
use Rattle.sqlite_trees.specs.Tree.{Trees}
use Rattle.sqlite.specs.Table.{Table}
use Rattle.sqlite.specs.Schema.{Schema}
use Rattle.sqlite.specs.Change.{KeepsRows, next_tree}
use Rattle.sqlite.specs.State.{State}
use Rattle.sql_base.specs.Schema.{no_schema}
use Rattle.sql_base.specs.Steps.{IsMade}
use Rattle.keeper_sql.specs.Made.{AreMade}

abbrev AreEmpty : Trees → List ℕ → Type 0
AreEmpty db trees = AllByRecursion (λ t. db t ≡ []) trees

kept_empty : (tables : List Table) (db next : Trees) → KeepsRows tables db next → AreEmpty db (map (λ (t : Table). t.tree) tables) → AreEmpty next (map (λ (t : Table). t.tree) tables)
kept_empty [] db next kept empty = tt
kept_empty (t ∷ tables) db next kept empty = (kept.0 ∙ empty.0, kept_empty tables db next kept.1 empty.1)

one_more : (db : Trees) (trees : List ℕ) (tree : ℕ) → AreEmpty db trees → db tree ≡ [] → AreEmpty db (trees ++ tree ∷ [])
one_more db [] tree empty here = (here, tt)
one_more db (t ∷ trees) tree empty here = (empty.0, one_more db trees tree empty.1 here)

-- after one table more
pub grown : (before after : Schema) (old mid new : State) → AreMade before (map (λ (t : Table). t.tree) before.tables) old mid → IsMade before after mid new
    → AreMade after (map (λ (t : Table). t.tree) before.tables ++ next_tree before ∷ []) old new
grown before after old mid new made it = record {
  begun = it.begun;
  is_open = it.is_open;
  sound = it.sound;
  empty = one_more new.now.trees _ (next_tree before) (kept_empty before.tables mid.now.trees new.now.trees it.others made.empty) it.empty;
  committed = it.committed ∙ made.committed;
}

-- after the first table
pub first : (after : Schema) (old new : State) → IsMade no_schema after old new → AreMade after (0 ∷ []) old new
first after old new it = record { begun = it.begun; is_open = it.is_open; sound = it.sound; empty = (it.empty, tt); committed = it.committed }
