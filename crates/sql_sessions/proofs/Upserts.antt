-- What an upsert by a text key does.
use Rattle.std.proofs.Common.{◌≡◌, ◌≢◌, inl, inr, ℕ, ◌<◌, ℤ, Bool, true, false, cond, List, [], ◌∷◌, ◌++◌, map, drop, length, Option, Some, None, Ok, ◌&&◌, ◌||◌, refl, sym, ap, subst, ◌∙◌, arith}
use Rattle.std.specs.List.{AllByRecursion, list_all}
use Rattle.std.specs.Ordering.{is_eq}
use Rattle.std.proofs.lemmas.Bool.{cases_Bool, not-true, and_parts}
use Rattle.std.proofs.lemmas.Map.Lookups.{exact_bytes}
use Rattle.sqlite_value.proofs.OrderLemmas.{value_cmp_total, value_cmp-Text}
use Rattle.sqlite.specs.declared.types.Value.{Value}
use Rattle.sqlite.specs.declared.types.Value.TheVariants.{Null, Int, Text}
use Rattle.sqlite.specs.Collation.TheVariants.{Binary}
use Rattle.sqlite.specs.Order.{Row, value_cmp}
use Rattle.sqlite.specs.Cast.{cast_row}
use Rattle.sqlite.specs.Table.{Table}
use Rattle.sqlite.specs.Term.{Term, col, holds, eval_all}
use Rattle.sqlite.specs.Tree.{Trees}
use Rattle.sqlite.specs.Program.{overlay}
use Rattle.sqlite_sql.specs.Ops.{binary, is_true, from_truth}
use Rattle.sqlite_trees.specs.Tree.{rowid, has_rowid, without_rowid, put_row}
use Rattle.sqlite_trees.specs.View.{is_int}
use Rattle.sqlite_schema.specs.Rules.{equal}
use Rattle.sqlite_schema.specs.declared.command.Conflict.TheVariants.{Abort}
use Rattle.sqlite_schema.specs.declared.schema.Keys.{Keys}
use Rattle.sqlite.specs.Rows.{Written, Then, Task, Puts, Resolves, Judged, Tries, Upserts, TriesEach, nothing, joined, higher, rowids_for, Clears, Meets, Updates, shown}
use Rattle.sqlite_rules.specs.declared.error.Rowids.TheVariants.{Given}
use Rattle.sqlite_rules.specs.Edit.{with_rowid, edit_of, id_in, is_taken, next_rowid, without_all, put_all, Applies}
use Rattle.sqlite_rules.specs.Keys.{AreConflicts, conflicts}
use Rattle.sqlite_rules.specs.Calls.{ids_of}
use Rattle.sqlite_rules.specs.Lists.{Has}
use Rattle.sqlite_rules.proofs.ListLemmas.{all_has, all_from}
use Rattle.sqlite_rules.proofs.PlaceLemmas.{given as given_numbers}
use Rattle.sqlite_rules.proofs.ProbeLemmas.{has_mapped}
use Rattle.sqlite_rules.proofs.TableLemmas.{int_is}
use Rattle.sqlite.proofs.Callers.{one_step}
use Rattle.sql_base.specs.Schema.{schema}
use Rattle.sql_base.specs.Ready.{AreApart, AreNumbered}
use Rattle.sql_base.proofs.QueryLemmas.{Shows, shows}
use Rattle.sql_base.proofs.StateLemmas.{went, same_value}
use Rattle.sql_sessions.proofs.Apart.{apart_same}
use Rattle.sql_sessions.proofs.Members.{key, has_text, HasPut, equal_is, put_fresh, put_over, number_has, without_same, put_same}
use Rattle.sql_sessions.proofs.Texts.{equals, update_of, upserts_of}

abbrev pub IsText : Value → Type 0
IsText v = (t : List ℕ) × (v ≡ Text t)

-- the tables beside one are as they were
abbrev pub KeepsOthers : Table → Trees → Trees → Type 0
KeepsOthers table old new = AllByRecursion (λ t. t.tree ≢ table.tree → new t.tree ≡ old t.tree) schema.tables

-- a key equals another one as SQL's = says
told : (b : Bool) → is_true (from_truth (Some b)) ≡ b
told true = refl
told false = refl

pub equal_text : (k : List ℕ) (r : Row) → IsText (key r) → equal Binary (key r) (Text k) ≡ has_text k r
unfolding binary
equal_text k r is = rw is.1 (told (is_eq (value_cmp (Text is.0) (Text k))))

pub equal_number : (id : ℤ) (r : Row) → is_int (rowid r) ≡ true → equal Binary (rowid r) (Int id) ≡ has_rowid id r
unfolding binary
equal_number id r keyed = rw (int_is (rowid r) keyed) (told (is_eq (value_cmp (Int (id_in (rowid r))) (Int id))))

pub and_true : (b : Bool) → (b && true) ≡ b
and_true true = refl
and_true false = refl

pub either : (b : Bool) (x : Value) → cond b x x ≡ x
either true x = refl
either false x = refl

pub met : (b : Bool) → ((b && true) || false) ≡ b
met true = refl
met false = refl

-- a table whose key is the text in its first column, and the values of a row behind its key
pub record IsUpsert (table : Table) (k : List ℕ) (rest : Row) (place : ℕ) (values : List Term) : Type 0 where
  pub params : Row
  pub uncounted : table.is_counted ≡ false
  pub low : (db : Trees) → overlay db [] table.tree ≡ db table.tree
  pub casts : (n : ℤ) → cast_row table (Int n ∷ Text k ∷ rest) ≡ Int n ∷ Text k ∷ rest
  pub casts_new : cast_row table (Null ∷ Text k ∷ rest) ≡ Null ∷ Text k ∷ rest
  -- what the update finds and writes, of the row that is there and the new one
  pub tests : (there : Value) (n : ℤ) (r : Row) →
      list_all (holds ((params ++ there ∷ shown table (Int n ∷ Text k ∷ rest)) ∷ r ∷ [])) (equals (col 1 0) (col 0 place)) ≡ (equal Binary (rowid r) there && true)
  pub writes : (there : Value) (n : ℤ) (r : Row) →
      eval_all (col 1 0 ∷ col 1 0 ∷ col 1 1 ∷ values) ((params ++ there ∷ shown table (Int n ∷ Text k ∷ rest)) ∷ r ∷ []) ≡ rowid r ∷ rowid r ∷ key r ∷ rest
  pub meets : (n : ℤ) (r : Row) → conflicts (Some (1 ∷ [])) schema.indexes table (Int n ∷ Text k ∷ rest) r ≡ equal Binary (key r) (Text k)

some_in : {X : Type 0} (f : Row → X) (xs : List Row) (x : Row) → Has xs x → (0 < length (ids_of xs)) × (0 < length (map f xs))
some_in f [] x none = absurd none
some_in f (y ∷ xs) x has = (omega arith, omega arith)

-- equal texts are one
text_is : (k : List ℕ) (r : Row) → IsText (key r) → has_text k r ≡ true → key r ≡ Text k
text_is k r is has =
    is.1 ∙ ap Text (exact_bytes is.0 k (equal_is _ (ap is_eq (sym (value_cmp-Text is.0 k)) ∙ ap (λ v. is_eq (value_cmp v (Text k))) (sym is.1) ∙ has)))

module _ (limit : Option ℕ) (keys : Keys) {table : Table} {k : List ℕ} {rest : Row} {place : ℕ} {values : List Term} (it_is : IsUpsert table k rest place values) (db : Trees)
    (are : AreNumbered (db table.tree)) (typed : AllByRecursion (λ r. IsText (key r)) (db table.tree)) (keyed : AreApart value_cmp key (db table.tree)) where
  abbrev task : Task
  task = record { limit = limit; keys = keys; schema = schema; table = table; params = it_is.params }

  abbrev rows : List Row
  rows = db table.tree

  abbrev new_row : ℤ → Row
  new_row n = Int n ∷ Text k ∷ rest

  -- the table has the row, and the others are as they were
  pub record Lands (next : Trees) : Type 0 where
    pub put : HasPut k rest rows (next table.tree)
    pub others : KeepsOthers table db next

  -- no row has the key
  inserted : (it : Written) (n : ℤ) → ((r : Row) → Has rows r → has_text k r ≡ false) → Puts task (new_row n) db (Ok it) → Lands it.trees
  inserted it n free h =
      let done = went h in
      let edit = edit_of db table [] Given 0 (new_row n ∷ []) in
      let applies : Applies schema keys db edit done.0 = one_step schema keys db done.0 edit refl done.1 in
      let is : done.0 table.tree ≡ put_row (new_row n) rows = applies.rows ∙ ap (λ r. put_row r rows) (it_is.casts n) in
      let fresh : is_taken rows (new_row n) ≡ false = ap (is_taken rows) (sym (it_is.casts n)) ∙ not-true _ (and_parts _ _ applies.fresh).0 in
      let lands : Lands done.0 = record { put = subst (HasPut k rest rows) (sym is) (put_fresh k rest rows are n free fresh); others = applies.tables } in
      subst Lands (sym (ap (λ (w : Written). w.trees) (same_value done.2))) lands

  -- some row has it
  updated : (it : Written) (there : Row) (n id : ℤ) → rowid there ≡ Int id → (r : Row) → Has rows r → rowid r ≡ Int id → has_text k r ≡ true
      → Resolves task (new_row n) db there (Some (update_of table.tree place values)) (Ok it) → Lands it.trees
  updated it there n id is_there r has number same h =
      let given : Row = it_is.params ++ Int id ∷ shown table (new_row n) in
      let test = equals (col 1 0) (col 0 place) in
      let written_terms = col 1 0 ∷ col 1 0 ∷ col 1 1 ∷ values in
      let Q : Value → Type 0 = λ v. Updates task (update_of table.tree place values) (it_is.params ++ v ∷ shown table (new_row n)) db (Ok it) in
      let found = went (subst Q is_there h) in
      let all = subst (λ l. Shows test written_terms l given found.0) (it_is.low db) (shows table.tree test written_terms (overlay db []) given found.0 (found.1.answer Null)) in
      let written = went found.2 in
      let edit = edit_of db table (ids_of found.0) Given 1 found.0 in
      let applies : Applies schema keys db edit written.0 = one_step schema keys db written.0 edit refl written.1 in
      let new = new_row id in
      let passes : (x : Row) → Has rows x → list_all (holds (given ∷ x ∷ [])) test ≡ has_rowid id x = λ x h.
      it_is.tests (Int id) n x ∙ and_true _ ∙ equal_number id x (all_has _ rows x are.numbers h) in
      let is_one : (x : Row) → Has rows x → has_rowid id x ≡ true → x ≡ r = λ x h also.
      apart_same value_cmp_total rowid rows x r are.apart h has (ap (λ v. is_eq (value_cmp (rowid x) v)) number ∙ also) in
      let shown_is : (x : Row) → Has found.0 x → x ≡ Int id ∷ new = λ x in_found.
      let from = all.sound x in_found in
      let one : from.0 ≡ r = is_one from.0 from.1 (sym (passes from.0 from.1) ∙ from.2) in
      from.3 ∙ it_is.writes (Int id) n from.0 ∙ ap (λ y. rowid y ∷ rowid y ∷ key y ∷ rest) one ∙ ap (λ v. v ∷ v ∷ key r ∷ rest) number
      ∙ ap (λ v. Int id ∷ Int id ∷ v ∷ rest) (text_is k r (all_has _ rows r typed has) same) in
      let ids : AllByRecursion (λ m. m ≡ id) (ids_of found.0) = all_from _ (ids_of found.0) (λ m h.
      let x = has_mapped (λ (y : Row). id_in (rowid y)) found.0 m h in x.2 ∙ ap (λ (y : Row). id_in (rowid y)) (shown_is x.0 x.1)) in
      let news : AllByRecursion (λ y. y ≡ new) (map (λ (s : Row). cast_row table (drop 1 s)) found.0) = all_from _ _ (λ y h.
      let x = has_mapped (λ (s : Row). cast_row table (drop 1 s)) found.0 y h in x.2 ∙ ap (λ (s : Row). cast_row table (drop 1 s)) (shown_is x.0 x.1) ∙ it_is.casts id) in
      let there_is = all.complete r has (passes r has ∙ number_has id r number) in
      let count = some_in (λ (s : Row). cast_row table (drop 1 s)) found.0 _ there_is in
      let left : without_all rows (ids_of found.0) ≡ without_rowid id rows = without_same id (ids_of found.0) rows ids (λ x _ _. count.0) in
      let put = put_same new (map (λ (s : Row). cast_row table (drop 1 s)) found.0) (without_all rows (ids_of found.0)) news count.1 in
      let is : written.0 table.tree ≡ put_row new (without_rowid id rows) =
      applies.rows ∙ ap (put_all (without_all rows (ids_of found.0))) (given_numbers (without_all rows (ids_of found.0)) (map (λ (s : Row). cast_row table (drop 1 s)) found.0))
      ∙ put ∙ ap (put_row new) left in
      let lands : Lands written.0 =
      record { put = subst (HasPut k rest rows) (sym is) (put_over k rest rows are keyed r has id number same); others = applies.tables } in
      subst Lands (sym (ap (λ (w : Written). w.trees) (same_value written.2))) lands

  -- a row meets the new one exactly where it has its key
  met_there : (n : ℤ) (r : Row) → Has rows r → conflicts (Some (1 ∷ [])) schema.indexes table (new_row n) r ≡ has_text k r
  met_there n r has = it_is.meets n r ∙ equal_text k r (all_has _ rows r typed has)

  judged : (it : Written) (n : ℤ) → Upserts task Abort (new_row n) db (upserts_of table.tree place values) (Ok it) → Lands it.trees
  judged it n h = go h.0 h.1 h.2
    where
      cleared : (found : List Row) → Clears task Abort (new_row n) db found (Ok it) → Puts task (new_row n) db (Ok it)
      cleared [] c = c
      cleared (x ∷ more) c = c

      go : (found : List Row) → AreConflicts (Some (1 ∷ [])) schema.indexes table rows (new_row n) found
          → Meets task (Upserts task Abort (new_row n) db []) (new_row n) db (record { target = Some (1 ∷ []); update = Some (update_of table.tree place values) }) found (Ok it) → Lands it.trees
      go [] all m = inserted it n (λ r has. elim (cases_Bool (has_text k r)) [
        | inl e ↦ absurd (all.complete r has (met_there n r has ∙ e))
        | inr e ↦ e
      ]) (cleared m.0 m.2)
      go (there ∷ more) all m =
          let r = all.sound there (inl refl) in
          let same : has_text k r.0 ≡ true = sym (met_there n r.0 r.1) ∙ r.2 in
          let number = int_is (rowid r.0) (all_has _ rows r.0 are.numbers r.1) in
          updated it there n (id_in (rowid r.0)) (ap rowid r.3 ∙ number) r.0 r.1 number same m

  tried : (it : Written) (n : ℤ) → Tries task Abort (upserts_of table.tree place values) (new_row n) db (Ok it) → Lands it.trees
  tried it n (inl out) = absurd (let e = out.1 in cc)
  tried it n (inr ok) = elim ok.0 as (λ v. Judged task Abort (upserts_of table.tree place values) (new_row n) db v (Ok it) → Lands it.trees) [ None ↦ λ h. judged it n h | Some why ↦ λ h. absurd (let e = h in cc) ] ok.2

  pub each : (given : List Row) (top : ℤ) (out : Written × ℤ) → given ≡ (Null ∷ Text k ∷ rest) ∷ [] → TriesEach task Abort (upserts_of table.tree place values) given top (nothing db) (Ok out) → Lands out.0.trees
  each given top out is h =
      let clauses = upserts_of table.tree place values in
      let first = subst (λ rs. TriesEach task Abort clauses rs top (nothing db) (Ok out)) is h in
      let P : Row → Type 0 = λ row. Then (Tries task Abort clauses (with_rowid (rowids_for table top) rows row) db) (λ one. TriesEach task Abort clauses [] (higher top (with_rowid (rowids_for table top) rows row)) (joined (nothing db) one)) (Ok out) in
      let cast : P (Null ∷ Text k ∷ rest) = subst P it_is.casts_new first in
      let numbered : with_rowid (rowids_for table top) rows (Null ∷ Text k ∷ rest) ≡ new_row (next_rowid rows) = rw it_is.uncounted refl in
      let Q : Row → Type 0 = λ row. Then (Tries task Abort clauses row db) (λ one. TriesEach task Abort clauses [] (higher top row) (joined (nothing db) one)) (Ok out) in
      let one = went (subst Q numbered cast) in
      subst Lands (sym (ap (λ (w : Written × ℤ). w.0.trees) (same_value one.2))) (tried one.0 (next_rowid rows) one.1)
