-- What a delete by a text key does.
use Rattle.std.proofs.Common.{◌≡◌, inl, inr, ℕ, true, List, [], ◌∷◌, Option, refl, sym, ap, subst, ◌∙◌, arith, Ok}
use Rattle.std.specs.List.{AllByRecursion, list_all}
use Rattle.std.specs.Ordering.{is_eq}
use Rattle.std.proofs.lemmas.Bool.{cases_Bool}
use Rattle.sqlite.specs.declared.types.Value.TheVariants.{Null, Text}
use Rattle.sqlite.specs.Order.{Row, value_cmp}
use Rattle.sqlite_value.proofs.OrderLemmas.{value_cmp_total}
use Rattle.sqlite.specs.Table.{Table}
use Rattle.sqlite.specs.Term.{Term, col, holds}
use Rattle.sqlite.specs.Tree.{Trees}
use Rattle.sqlite.specs.Program.{overlay}
use Rattle.sqlite_trees.specs.Tree.{rowid, without_rowid}
use Rattle.sqlite_schema.specs.declared.schema.Keys.{Keys}
use Rattle.sqlite.specs.Rows.{Written, Task, Deletes}
use Rattle.sqlite_rules.specs.declared.error.Rowids.TheVariants.{Given}
use Rattle.sqlite_rules.specs.Edit.{edit_of, id_in, without_all, Applies}
use Rattle.sqlite_rules.specs.Calls.{ids_of}
use Rattle.sqlite_rules.specs.Lists.{Has}
use Rattle.sqlite_rules.proofs.ListLemmas.{all_has, all_from}
use Rattle.sqlite_rules.proofs.ProbeLemmas.{has_mapped}
use Rattle.sqlite_rules.proofs.TableLemmas.{int_is}
use Rattle.sqlite.proofs.Callers.{one_step}
use Rattle.sql_base.specs.Schema.{schema}
use Rattle.sql_base.specs.Ready.{AreApart, AreNumbered}
use Rattle.sql_base.proofs.StateLemmas.{went, same_value}
use Rattle.sql_sessions.proofs.Apart.{apart_same}
use Rattle.sql_base.proofs.QueryLemmas.{Shows, shows}
use Rattle.sql_sessions.proofs.Members.{key, has_text, HasDropped, equal_is, joins, drop_one, drop_none, without_same}
use Rattle.sql_sessions.proofs.Texts.{equals, drop_of}
use Rattle.sql_sessions.proofs.Upserts.{IsText, KeepsOthers, equal_text, and_true}

module _ (limit : Option ℕ) (keys : Keys) (table : Table) (k : List ℕ) (db : Trees) (low : overlay db [] table.tree ≡ db table.tree)
    (are : AreNumbered (db table.tree)) (typed : AllByRecursion (λ r. IsText (key r)) (db table.tree)) (keyed : AreApart value_cmp key (db table.tree)) where
  abbrev task : Task
  task = record { limit = limit; keys = keys; schema = schema; table = table; params = Text k ∷ [] }

  abbrev rows : List Row
  rows = db table.tree

  abbrev test : List Term
  test = equals (col 1 1) (col 0 0)

  -- the rows of the key are gone, and the other tables are as they were
  pub record Leaves (next : Trees) : Type 0 where
    pub dropped : HasDropped k rows (next table.tree)
    pub others : KeepsOthers table db next

  passes : (r : Row) → Has rows r → list_all (holds ((Text k ∷ []) ∷ r ∷ [])) test ≡ has_text k r
  passes r has = and_true _ ∙ equal_text k r (all_has _ rows r typed has)

  -- two rows of the key are one
  tie : (x r : Row) → Has rows x → Has rows r → has_text k x ≡ true → has_text k r ≡ true → x ≡ r
  tie x r h has also same = apart_same value_cmp_total key rows x r keyed h has (ap is_eq (joins (key x) (key r) (Text k) (equal_is _ also) (equal_is _ same)))

  dropped_by : (found : List Row) → Shows test (col 1 0 ∷ []) rows (Text k ∷ []) found → HasDropped k rows (without_all rows (ids_of found))
  dropped_by [] all = drop_none k [] rows are (λ r has. elim (cases_Bool (has_text k r)) [
    | inl same ↦ absurd (all.complete r has (passes r has ∙ same))
    | inr other ↦ other
  ])
  dropped_by (first ∷ more) all =
      let found = first ∷ more in
      let at = all.sound first (inl refl) in
      let r = at.0 in
      let same : has_text k r ≡ true = sym (passes r at.1) ∙ at.2 in
      let id = id_in (rowid r) in
      let number = int_is (rowid r) (all_has _ rows r are.numbers at.1) in
      let ids : AllByRecursion (λ m. m ≡ id) (ids_of found) = all_from _ (ids_of found) (λ m h.
      let x = has_mapped (λ (y : Row). id_in (rowid y)) found m h in
      let from = all.sound x.0 x.1 in
      let one : from.0 ≡ r = tie from.0 r from.1 at.1 (sym (passes from.0 from.1) ∙ from.2) same in
      x.2 ∙ ap (λ (y : Row). id_in (rowid y)) from.3 ∙ ap (λ (y : Row). id_in (rowid y)) one) in
      let left : without_all rows (ids_of found) ≡ without_rowid id rows = without_same id (ids_of found) rows ids (λ x _ _. omega arith) in
      subst (HasDropped k rows) (sym left) (drop_one k [] rows are keyed r at.1 id number same)

  pub deleted : (it : Written) → Deletes task (drop_of table.tree) db (Ok it) → Leaves it.trees
  deleted it h =
      let found = went h in
      let all = subst (λ l. Shows test (col 1 0 ∷ []) l (Text k ∷ []) found.0) low (shows table.tree test (col 1 0 ∷ []) (overlay db []) (Text k ∷ []) found.0 (found.1.answer Null)) in
      let written = went found.2 in
      let edit = edit_of db table (ids_of found.0) Given 0 [] in
      let applies : Applies schema keys db edit written.0 = one_step schema keys db written.0 edit refl written.1 in
      let leaves : Leaves written.0 = record { dropped = subst (HasDropped k rows) (sym applies.rows) (dropped_by found.0 all); others = applies.tables } in
      subst Leaves (sym (ap (λ (w : Written). w.trees) (same_value written.2))) leaves
