-- What an upsert by rowid and a deletion by rowid do, whatever the table is.
use Rattle.std.proofs.Common.{◌≡◌, ◌≢◌, inl, inr, ℕ, ◌<◌, ◌/◌, ℤ, Bool, true, false, cond, List, [], ◌∷◌, ◌++◌, map, drop, length, Option, Some, None, Ok, refl, sym, ap, subst, ◌∙◌, arith, MatchBool, true≢false}
use Rattle.std.specs.List.{AllByRecursion, list_all}
use Rattle.std.proofs.lemmas.Bool.{cases_Bool}
use Rattle.sqlite.specs.declared.types.Value.{Value}
use Rattle.sqlite.specs.declared.types.Value.TheVariants.{Null, Int}
use Rattle.sqlite.specs.Order.{Row}
use Rattle.sqlite.specs.Cast.{cast_row}
use Rattle.sqlite.specs.Term.{Term, col, holds, eval_all}
use Rattle.sqlite.specs.Program.{overlay}
use Rattle.sqlite.specs.Tree.{Trees}
use Rattle.sqlite.specs.Table.{Table}
use Rattle.sqlite_trees.specs.Tree.{rowid, has_rowid, without_rowid, put_row}
use Rattle.sqlite_trees.specs.View.{is_int}
use Rattle.sqlite_schema.specs.declared.command.Conflict.TheVariants.{Abort}
use Rattle.sqlite_schema.specs.declared.command.Upsert.{Upsert}
use Rattle.sqlite_schema.specs.declared.command.Source.TheVariants.{Values}
use Rattle.sqlite_schema.specs.declared.command.Command.TheVariants.{InsertOr, Delete}
use Rattle.sqlite_schema.specs.declared.program.Program.{Program}
use Rattle.sqlite_schema.specs.declared.schema.Keys.{Keys}
use Rattle.sqlite_rules.specs.Lists.{Has}
use Rattle.sqlite_rules.specs.Edit.{with_rowid, edit_of, edited, id_in, without_all, put_all, taken_by}
use Rattle.sqlite_rules.specs.Action.{works}
use Rattle.sqlite_rules.specs.Keys.{AreConflicts, conflicts}
use Rattle.sqlite_rules.specs.Calls.{ids_of}
use Rattle.sqlite_rules.specs.declared.error.Rowids.TheVariants.{Given}
use Rattle.sqlite_rules.proofs.ListLemmas.{all_has, all_from}
use Rattle.sqlite_rules.proofs.ProbeLemmas.{has_mapped}
use Rattle.sqlite_rules.proofs.PlaceLemmas.{given as given_numbers}
use Rattle.sqlite.specs.declared.run.Mode.{Mode}
use Rattle.sqlite.specs.Does.{Tally, OnRows}
use Rattle.sqlite.specs.Effect.{Database, value_rows}
use Rattle.sqlite.specs.Rows.{Written, Then, Task, Puts, Resolves, Meets, Updates, Clears, Judged, Tries, Upserts, TriesEach, nothing, joined, higher, rowids_for, stamped, shown}
use Rattle.sqlite.proofs.Callers.{one_step}
use Rattle.sql_base.specs.Schema.{schema}
use Rattle.sql_base.specs.Ready.{AreNumbered}
use Rattle.sql_base.specs.Spares.{Spares}
use Rattle.sql_base.proofs.QueryLemmas.{one_query, shows, Shows}
use Rattle.sql_base.proofs.StateLemmas.{went, same_value}
use Rattle.sql_accounts.proofs.NumberLemmas.{rowid_test, tests_number, number_is, spares_all, without_same, put_same}

-- a table of the schema that no foreign key names
pub record IsOwn (table : Table) : Type 0 where
  pub plain : (db : Trees) → overlay db [] table.tree ≡ db table.tree
  pub unkeyed : (keys : Keys) (taken news : List Row) → works schema keys 0 table.tree taken news ≡ []
  pub uncounted : table.is_counted ≡ false
  pub spared : (db next : Trees) → AllByRecursion (λ (t : Table). t.tree ≢ table.tree → next t.tree ≡ db t.tree) schema.tables → Spares table.tree db next

-- what a query shows of a new row's update
abbrev pub given_to : Table → ℤ → Row → Row → Row
given_to table id stored params = params ++ Int id ∷ shown table stored

-- the statement puts this row by its rowid
pub record IsUpsert (table : Table) (id : ℤ) (stored params : Row) (test wanted : List Term) : Type 0 where
  pub own : IsOwn table
  pub numbered : rowid stored ≡ Int id
  pub keeps : (top : ℤ) (rows : List Row) → with_rowid (rowids_for table top) rows stored ≡ stored
  pub cast_is : cast_row table stored ≡ stored
  pub meets : (r : Row) → is_int (rowid r) ≡ true → conflicts (Some (0 ∷ [])) schema.indexes table stored r ≡ has_rowid id r
  pub tests : (r : Row) → is_int (rowid r) ≡ true → list_all (holds (given_to table id stored params ∷ r ∷ [])) test ≡ has_rowid id r
  pub shows : (r : Row) → rowid r ≡ Int id → eval_all wanted (given_to table id stored params ∷ r ∷ []) ≡ Int id ∷ stored

-- the rows of one table, and what is left of the others
pub record Leaves (table : Table) (rows : List Row) (db next : Trees) : Type 0 where
  pub rows_are : next table.tree ≡ rows
  pub others : Spares table.tree db next

abbrev pub task_of : Option ℕ → Keys → Table → Row → Task
task_of limit keys table params = record { limit = limit; keys = keys; schema = schema; table = table; params = params }

pub either : (b : Bool) (x : Value) → cond b x x ≡ x
either true x = refl
either false x = refl

some_in : (table : Table) (xs : List Row) (x : Row) → Has xs x → (0 < length (ids_of xs)) × (0 < length (map (λ (s : Row). cast_row table (drop 1 s)) xs))
some_in table [] x none = absurd none
some_in table (y ∷ xs) x has = (omega arith, omega arith)

not_counted : (counts more : Bool) (A B : Type 0) → counts ≡ false → MatchBool (cond counts more false) A B → B
not_counted true more A B is h = absurd (true≢false is)
not_counted false more A B is h = h

module _ (table : Table) (id : ℤ) (stored params : Row) (test wanted : List Term) (u : IsUpsert table id stored params test wanted) (limit : Option ℕ) (keys : Keys) (db : Trees) (keyed : AreNumbered (db table.tree)) where
  abbrev task : Task
  task = task_of limit keys table params

  abbrev update : Program
  update = record { lets = []; body = one_query table.tree test wanted }

  abbrev clauses : List Upsert
  clauses = record { target = Some (0 ∷ []); update = Some update } ∷ []

  abbrev IsPut : Trees → Type 0
  IsPut trees = Leaves table (put_row stored (without_rowid id (db table.tree))) db trees

  number : (r : Row) → Has (db table.tree) r → is_int (rowid r) ≡ true
  number r h = all_has _ (db table.tree) r keyed.numbers h

  -- no row has the number
  inserted : (it : Written) → ((r : Row) → Has (db table.tree) r → has_rowid id r ≡ false) → Puts task stored db (Ok it) → IsPut it.trees
  inserted it free h =
      let done = went h in
      let edit = edit_of db table [] Given 0 (stored ∷ []) in
      let step = one_step schema keys db done.0 edit (u.own.unkeyed keys (taken_by db edit) edit.news) done.1 in
      let trees : it.trees ≡ done.0 = ap (λ (w : Written). w.trees) (same_value done.2) in
      let rows : edited db edit ≡ put_row stored (db table.tree) = ap (λ x. put_row x (db table.tree)) u.cast_is in
      record {
        rows_are = ap (λ (t : Trees). t table.tree) trees ∙ step.rows ∙ rows ∙ ap (put_row stored) (sym (spares_all id (db table.tree) free));
        others = subst (Spares table.tree db) (sym trees) (u.own.spared db done.0 step.tables);
      }

  -- some row has the number
  updated : (it : Written) (there : Row) → rowid there ≡ Int id → (r : Row) → Has (db table.tree) r → has_rowid id r ≡ true → Resolves task stored db there (Some update) (Ok it) → IsPut it.trees
  updated it there is r has same h =
      let given = given_to table id stored params in
      let Q : Value → Type 0 = λ v. Updates task update (params ++ v ∷ shown table stored) db (Ok it) in
      let found = went (subst Q is h) in
      let all : Shows test wanted (db table.tree) given found.0 = subst (λ rows. Shows test wanted rows given found.0) (u.own.plain db) (shows table.tree test wanted (overlay db []) given found.0 (found.1.answer Null)) in
      let written = went found.2 in
      let edit = edit_of db table (ids_of found.0) Given 1 found.0 in
      let step = one_step schema keys db written.0 edit (u.own.unkeyed keys (taken_by db edit) edit.news) written.1 in
      let trees : it.trees ≡ written.0 = ap (λ (w : Written). w.trees) (same_value written.2) in
      let shown_is : (x : Row) → Has found.0 x → x ≡ Int id ∷ stored = λ x in_found.
      let from = all.sound x in_found in
      let n = number from.0 from.1 in
      let it_is = number_is id from.0 n (sym (u.tests from.0 n) ∙ from.2) in
      from.3 ∙ u.shows from.0 it_is in
      let ids : AllByRecursion (λ n. n ≡ id) (ids_of found.0) = all_from _ (ids_of found.0) (λ n h.
      let x = has_mapped (λ (y : Row). id_in (rowid y)) found.0 n h in x.2 ∙ ap (λ (y : Row). id_in (rowid y)) (shown_is x.0 x.1)) in
      let new_rows : AllByRecursion (λ y. y ≡ stored) (map (λ (s : Row). cast_row table (drop 1 s)) found.0) = all_from _ _ (λ y h.
      let x = has_mapped (λ (s : Row). cast_row table (drop 1 s)) found.0 y h in x.2 ∙ ap (λ (s : Row). cast_row table (drop 1 s)) (shown_is x.0 x.1) ∙ u.cast_is) in
      let there_is = all.complete r has (u.tests r (number r has) ∙ same) in
      let count = some_in table found.0 _ there_is in
      let left = without_same id (ids_of found.0) (db table.tree) ids (λ x _ _. count.0) in
      let put = put_same stored (map (λ (s : Row). cast_row table (drop 1 s)) found.0) (without_all (db table.tree) (ids_of found.0)) new_rows count.1 in
      record {
        rows_are = ap (λ (t : Trees). t table.tree) trees ∙ step.rows
            ∙ ap (put_all (without_all (db table.tree) (ids_of found.0))) (given_numbers (without_all (db table.tree) (ids_of found.0)) (map (λ (s : Row). cast_row table (drop 1 s)) found.0))
            ∙ put ∙ ap (put_row stored) left;
        others = subst (Spares table.tree db) (sym trees) (u.own.spared db written.0 step.tables);
      }

  judged : (it : Written) → Upserts task Abort stored db clauses (Ok it) → IsPut it.trees
  judged it h = go h.0 h.1 h.2
    where
      cleared : (found : List Row) → Clears task Abort stored db found (Ok it) → Puts task stored db (Ok it)
      cleared [] c = c
      cleared (x ∷ more) c = c

      go : (found : List Row) → AreConflicts (Some (0 ∷ [])) schema.indexes table (db table.tree) stored found
          → Meets task (Upserts task Abort stored db []) stored db (record { target = Some (0 ∷ []); update = Some update }) found (Ok it) → IsPut it.trees
      go [] all m = inserted it (λ r has. elim (cases_Bool (has_rowid id r)) [
        | inl e ↦ absurd (all.complete r has (u.meets r (number r has) ∙ e))
        | inr e ↦ e
      ]) (cleared m.0 m.2)
      go (there ∷ more) all m =
          let r = all.sound there (inl refl) in
          let n = number r.0 r.1 in
          let same : has_rowid id r.0 ≡ true = sym (u.meets r.0 n) ∙ r.2 in
          updated it there (ap rowid r.3 ∙ number_is id r.0 n same) r.0 r.1 same m

  tried : (it : Written) → Tries task Abort clauses stored db (Ok it) → IsPut it.trees
  tried it (inl out) = absurd (let e = out.1 in cc)
  tried it (inr ok) = elim ok.0 as (λ v. Judged task Abort clauses stored db v (Ok it) → IsPut it.trees) [ None ↦ λ h. judged it h | Some why ↦ λ h. absurd (let e = h in cc) ] ok.2

  each : (rows : List Row) (top : ℤ) (out : Written × ℤ) → rows ≡ stored ∷ [] → TriesEach task Abort clauses rows top (nothing db) (Ok out) → IsPut out.0.trees
  each rows top out given h =
      let first = subst (λ rs. TriesEach task Abort clauses rs top (nothing db) (Ok out)) given h in
      let Q : Row → Type 0 = λ new. Then (Tries task Abort clauses new db) (λ one. TriesEach task Abort clauses [] (higher top new) (joined (nothing db) one)) (Ok out) in
      let cast : Q (with_rowid (rowids_for table top) (db table.tree) stored) = subst (λ row. Q (with_rowid (rowids_for table top) (db table.tree) row)) u.cast_is first in
      let one = went (subst Q (u.keeps top (db table.tree)) cast) in
      subst IsPut (sym (ap (λ (w : Written × ℤ). w.0.trees) (same_value one.2))) (tried one.0 one.1)

  pub puts : (mode : Mode) (at : ℕ) (terms : List Term) (width : ℕ) (tally : Tally) (after : Database) → value_rows (stamped table params) width (length terms / width) terms ≡ stored ∷ []
      → OnRows task mode None (InsertOr at Abort (Values terms width) clauses) db (Ok (tally, after)) → (after.schema ≡ schema) × IsPut after.trees
  puts mode at terms width tally after source h =
      let done = went h in
      let now = ap (λ (p : Tally × Database). p.1) (same_value (went (went done.2).2).2) in
      let given = went done.1 in
      let counter = went given.2 in
      let all = went counter.2 in
      let counted = went all.2 in
      let same : done.0.trees ≡ all.0.0.trees = ap (λ (it : Written). it.trees) (same_value counted.2) ∙ same_value (not_counted table.is_counted _ _ _ u.own.uncounted counted.1) in
      let put = each given.0 _ all.0 (given.1.1 ∙ source) all.1 in
      (ap (λ (d : Database). d.schema) now, subst IsPut (sym (ap (λ (d : Database). d.trees) now ∙ same)) put)

-- ---- a deletion

module _ (table : Table) (id : ℤ) (own : IsOwn table) (limit : Option ℕ) (keys : Keys) (db : Trees) (keyed : AreNumbered (db table.tree)) where
  abbrev drop_task : Task
  drop_task = task_of limit keys table (Int id ∷ [])

  abbrev by_rowid : Program
  by_rowid = record { lets = []; body = one_query table.tree rowid_test (col 1 0 ∷ []) }

  pub drops : (mode : Mode) (at : ℕ) (tally : Tally) (after : Database) → OnRows drop_task mode None (Delete at by_rowid) db (Ok (tally, after))
      → (after.schema ≡ schema) × Leaves table (without_rowid id (db table.tree)) db after.trees
  drops mode at tally after h =
      let done = went h in
      let now = ap (λ (p : Tally × Database). p.1) (same_value (went (went done.2).2).2) in
      let params = Int id ∷ [] in
      let found = went done.1 in
      let written = went found.2 in
      let trees : done.0.trees ≡ written.0 = ap (λ (it : Written). it.trees) (same_value written.2) in
      let edit = edit_of db table (ids_of found.0) Given 0 [] in
      let step = one_step schema keys db written.0 edit (own.unkeyed keys (taken_by db edit) edit.news) written.1 in
      let all : Shows rowid_test (col 1 0 ∷ []) (db table.tree) params found.0 =
      subst (λ rows. Shows rowid_test (col 1 0 ∷ []) rows params found.0) (own.plain db) (shows table.tree rowid_test (col 1 0 ∷ []) (overlay db []) params found.0 (found.1.answer Null)) in
      let number : (r : Row) → Has (db table.tree) r → is_int (rowid r) ≡ true = λ r h. all_has _ (db table.tree) r keyed.numbers h in
      let ids : AllByRecursion (λ n. n ≡ id) (ids_of found.0) = all_from _ (ids_of found.0) (λ n h.
      let x = has_mapped (λ (r : Row). id_in (rowid r)) found.0 n h in
      let r = all.sound x.0 x.1 in
      let is : has_rowid id r.0 ≡ true = sym (tests_number id r.0 (number r.0 r.1)) ∙ r.2 in
      x.2 ∙ ap (λ (y : Row). id_in (rowid y)) r.3 ∙ ap id_in (number_is id r.0 (number r.0 r.1) is)) in
      let some : (r : Row) → Has (db table.tree) r → has_rowid id r ≡ true → 0 < length (ids_of found.0) = λ r h is.
      (some_in table found.0 _ (all.complete r h (tests_number id r (number r h) ∙ is))).0 in
      let left = without_same id (ids_of found.0) (db table.tree) ids some in
      let same = ap (λ (d : Database). d.trees) now ∙ trees in (
        ap (λ (d : Database). d.schema) now,
        record {
          rows_are = ap (λ (t : Trees). t table.tree) same ∙ step.rows ∙ left;
          others = subst (Spares table.tree db) (sym same) (own.spared db written.0 step.tables);
        },
      )
