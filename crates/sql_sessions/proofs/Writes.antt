-- What a statement on a table with a text key makes of the database.
use Rattle.std.proofs.Common.{◌≡◌, ℕ, ◌/◌, ℤ, List, [], ◌∷◌, length, slice_get, Option, Some, None, Ok, sym, ap, subst, ◌∙◌}
use Rattle.std.specs.Prelude.{Bool, false, if◌then◌else◌, MatchBool}
use Rattle.std.specs.Ordering.{is_lt, int_cmp}
use Rattle.std.specs.List.{AllByRecursion}
use Rattle.sqlite.specs.declared.types.Value.TheVariants.{Null, Text}
use Rattle.sqlite.specs.Command.TheVariants.{InsertOr, Delete}
use Rattle.sqlite.specs.Source.TheVariants.{Values}
use Rattle.sqlite.specs.Order.{Row, value_cmp}
use Rattle.sqlite.specs.Table.{Table}
use Rattle.sqlite.specs.Term.{Term}
use Rattle.sqlite.specs.Tree.{Trees}
use Rattle.sqlite.specs.Program.{overlay}
use Rattle.sqlite.specs.Does.{Tally, Does, AtPlace, OnRows}
use Rattle.sqlite.specs.Rows.{Written, Task, Gives, Counts, CountsIn, sequence, stamped, count_of}
use Rattle.sqlite.specs.Effect.{Database, IsDatabase, value_rows}
use Rattle.sqlite.specs.Listing.{understood}
use Rattle.sqlite.specs.State.{State, mode_of, Executes}
use Rattle.sqlite.proofs.Callers.{IsPlain, command_of, statement_of, runs_as}
use Rattle.sqlite_schema.specs.declared.command.Conflict.TheVariants.{Abort}
use Rattle.sql_base.specs.Schema.{schema}
use Rattle.sql_base.specs.Ready.{AreApart, AreNumbered}
use Rattle.sql_base.proofs.StateLemmas.{went, same_value}
use Rattle.sql_sessions.proofs.Deletes.{deleted}
use Rattle.sql_sessions.proofs.Members.{key, HasPut, HasDropped}
use Rattle.sql_sessions.proofs.Texts.{upserts_of, drop_of}
use Rattle.sql_sessions.proofs.Upserts.{IsText, IsUpsert, KeepsOthers, each}

-- a table without AUTOINCREMENT counts nothing
counts_nothing : (task : Task) (db : Trees) (counter : Option Row) (top : ℤ) (next : Trees) → task.table.is_counted ≡ false → Counts task db counter top (Ok next) → next ≡ db
counts_nothing task db counter top next uncounted h =
    let P : Bool → Type 0 = λ b. MatchBool (if b then is_lt (int_cmp (count_of counter) top) else false) (CountsIn task db counter top (sequence task.schema) (Ok next)) (Gives db (Ok next)) in
    same_value (subst P uncounted h)

-- the new database has the same schema, is sound, and its other tables are as they were
pub record Stands (table : Table) (old new : State) : Type 0 where
  pub schema_is : new.now.schema ≡ schema
  pub sound : IsDatabase new.now
  pub others : KeepsOthers table old.now.trees new.now.trees

module _ {table : Table} (at : ℕ) (listed : slice_get schema.tables at ≡ Some table) (old new : State) (count : ℕ) (has : old.now.schema ≡ schema)
    (are : AreNumbered (old.now.trees table.tree)) (typed : AllByRecursion (λ r. IsText (key r)) (old.now.trees table.tree)) (keyed : AreApart value_cmp key (old.now.trees table.tree)) where
  pub puts : {k : List ℕ} {rest : Row} {place : ℕ} {values : List Term} (it_is : IsUpsert table k rest place values) (sql : List ℕ) (terms : List Term) (width : ℕ)
      → command_of (understood schema sql) ≡ InsertOr at Abort (Values terms width) (upserts_of table.tree place values) → IsPlain (understood schema sql)
      → value_rows (stamped table it_is.params) width (length terms / width) terms ≡ (Null ∷ Text k ∷ rest) ∷ [] → Executes sql it_is.params old new (Ok count)
      → Stands table old new × HasPut k rest (old.now.trees table.tree) (new.now.trees table.tree)
  puts {k} {rest} {place} {values} it_is sql terms width is plain source h =
      let params = it_is.params in
      let db = old.now.trees in
      let command = InsertOr at Abort (Values terms width) (upserts_of table.tree place values) in
      let w = runs_as sql params old new schema has command is plain count h in
      let text = statement_of sql (understood schema sql) in
      let does = subst (λ s. Does old.step_limit (mode_of old) params (record old.now { schema = s }) text None command (Ok (w.tally, new.now))) has w.changed in
      let On : Option Table → Type 0 = λ found.
      AtPlace (λ t. OnRows (record { limit = old.step_limit; keys = (mode_of old).keys; schema = schema; table = t; params = params }) (mode_of old) None command db) found (Ok (w.tally, new.now)) in
      let done = went (subst On listed does) in
      let now = ap (λ (p : Tally × Database). p.1) (same_value (went (went done.2).2).2) in
      let given = went done.1 in
      let counter = went given.2 in
      let tried = went counter.2 in
      let counted = went tried.2 in
      let lands = each old.step_limit (mode_of old).keys it_is db are typed keyed given.0 (count_of counter.0) tried.0 (given.1.1 ∙ source) tried.1 in
      let trees : done.0.trees ≡ tried.0.0.trees = ap (λ (it : Written). it.trees) (same_value counted.2) ∙ counts_nothing (record { limit = old.step_limit; keys = (mode_of old).keys; schema = schema; table = table; params = params }) _ counter.0 tried.0.1 counted.0 it_is.uncounted counted.1 in
      let is_now : new.now.trees ≡ tried.0.0.trees = ap (λ (d : Database). d.trees) now ∙ trees in (
        record { schema_is = ap (λ (d : Database). d.schema) now; sound = w.sound; others = subst (KeepsOthers table db) (sym is_now) lands.others },
        subst (λ (t : Trees). HasPut k rest (db table.tree) (t table.tree)) (sym is_now) lands.put,
      )

  pub drops : (k : List ℕ) (low : (db : Trees) → overlay db [] table.tree ≡ db table.tree) (sql : List ℕ) → command_of (understood schema sql) ≡ Delete at (drop_of table.tree)
      → IsPlain (understood schema sql) → Executes sql (Text k ∷ []) old new (Ok count)
      → Stands table old new × HasDropped k (old.now.trees table.tree) (new.now.trees table.tree)
  drops k low sql is plain h =
      let params : Row = Text k ∷ [] in
      let db = old.now.trees in
      let command = Delete at (drop_of table.tree) in
      let w = runs_as sql params old new schema has command is plain count h in
      let text = statement_of sql (understood schema sql) in
      let does = subst (λ s. Does old.step_limit (mode_of old) params (record old.now { schema = s }) text None command (Ok (w.tally, new.now))) has w.changed in
      let On : Option Table → Type 0 = λ found.
      AtPlace (λ t. OnRows (record { limit = old.step_limit; keys = (mode_of old).keys; schema = schema; table = t; params = params }) (mode_of old) None command db) found (Ok (w.tally, new.now)) in
      let done = went (subst On listed does) in
      let now = ap (λ (p : Tally × Database). p.1) (same_value (went (went done.2).2).2) in
      let leaves = deleted old.step_limit (mode_of old).keys table k db (low db) are typed keyed done.0 done.1 in
      let is_now : new.now.trees ≡ done.0.trees = ap (λ (d : Database). d.trees) now in (
        record { schema_is = ap (λ (d : Database). d.schema) now; sound = w.sound; others = subst (KeepsOthers table db) (sym is_now) leaves.others },
        subst (λ (t : Trees). HasDropped k (db table.tree) (t table.tree)) (sym is_now) leaves.dropped,
      )
