-- What the texts on marks do.
use Rattle.std.proofs.Common.{◌≡◌, ◌⊎◌, ℕ, pos, Bool, true, false, List, [], ◌∷◌, ◌&&◌, ◌||◌, map, Ok, Result, OnOk, None, Some, refl, sym, ap, subst, ◌∙◌}
use Rattle.std.specs.Ordering.{is_eq, nat_cmp}
use Rattle.std.specs.List.{AllByRecursion}
use Rattle.std.proofs.lemmas.Cmp.{nat_cmp_total}
use Rattle.std.proofs.lemmas.Cmp.{tied_itself}
use Rattle.sqlite_value.proofs.OrderLemmas.{value_cmp_total}
use Rattle.sqlite.specs.declared.types.Value.TheVariants.{Null, Int}
use Rattle.sqlite.specs.Order.{Row, value_cmp}
use Rattle.sqlite_value.specs.Keys.{first_key}
use Rattle.sqlite.specs.Cast.{cast_row}
use Rattle.sqlite.specs.Ops.{unary}
use Rattle.sqlite_sql.specs.Ops.{binary, is_true, from_truth}
use Rattle.sqlite.specs.Tree.{Trees}
use Rattle.sqlite_trees.specs.Tree.{rowid, has_rowid, without_rowid, put_row, with_tree}
use Rattle.sqlite_trees.specs.View.{is_int}
use Rattle.sqlite_rules.specs.Edit.{id_in}
use Rattle.sqlite_rules.specs.Keys.{conflicts}
use Rattle.sqlite_rules.proofs.TableLemmas.{int_is}
use Rattle.sqlite.specs.declared.error.Error.{Error}
use Rattle.sqlite.specs.Does.{Does}
use Rattle.sqlite.specs.Listing.{understood}
use Rattle.sqlite.specs.State.{State, mode_of, ExecutesInside, Shown, IsUnchanged, FailsToQuery, IsTooLate}
use Rattle.sqlite.proofs.Callers.{statement_of, runs_as}
use Rattle.keeper_rows.specs.declared.rows.MarkRow.{MarkRow}
use Rattle.keeper_rows.specs.declared.change.Row.TheVariants as rows
use Rattle.keeper_rows.specs.declared.change.RowKey.TheVariants as keys
use Rattle.keeper_rows.specs.declared.tables.Tables.{Tables}
use Rattle.keeper_rows.specs.Applied.{mark_key}
use Rattle.keeper_rows.specs.Applied as applying
use Rattle.sqlite.specs.Term.{col}
use Rattle.sql_base.specs.Schema.{mark, mark_text, schema_5, schema}
use Rattle.sql_base.specs.Steps.{IsBegun, IsMade, AreListed, IsRefused}
use Rattle.sql_base.proofs.CreateLemmas.{creates}
use Rattle.sql_base.proofs.ListingLemmas.{lists}
use Rattle.sql_base.proofs.RefusalLemmas.{refused}
use Rattle.sql_base.specs.Faults.{fault_of}
use Rattle.sql_base.specs.declared.fault.Fault.TheVariants.{Failed}
use Rattle.sql_accounts.specs.Shown.{mark_shown}
use Rattle.sql_base.specs.Told.{mark_of, by_key, tables_in}
use Rattle.sql_base.specs.Ready.{AreNumbered, AreKept, IsReady, Changes}
use Rattle.sql_accounts.proofs.NumberLemmas.{tests_number, numbered_put, numbered_without}
use Rattle.sql_accounts.proofs.TableLemmas.{IsKeyed, told_without, told_new, all_put, all_without}
use Rattle.sql_accounts.proofs.AgreeLemmas.{Agree, told_agree, kept_agree}
use Rattle.sql_accounts.proofs.WriteLemmas.{IsOwn, IsUpsert, Leaves, puts, drops, either}
use Rattle.sql_accounts.proofs.MarkTexts.{mark_table, put_text, drop_text, put_terms, put_test, put_wanted, put_command, drop_command, put_is, drop_is, put_plain, drop_plain, load_text, load_is, load_plain, load_whole, load_accepts, create_is, create_plain, create_lacks}

-- a row as the table keeps it, and as the text's parameters give it
abbrev pub stored : MarkRow → Row
stored row = Int (pos 1) ∷ Null ∷ Int row.schema ∷ Int row.serial ∷ Int row.moment ∷ []

abbrev pub given : MarkRow → Row
given row = Int (pos 1) ∷ Int row.schema ∷ Int row.serial ∷ Int row.moment ∷ []

cast_is : (row : MarkRow) → cast_row mark_table (stored row) ≡ stored row
unfolding unary
cast_is row = rw (either _ (Int (pos 1)), either _ (Int row.schema), either _ (Int row.serial), either _ (Int row.moment), either _ Null) refl

-- a row meets another exactly where they have one number
meets : (row : MarkRow) (r : Row) → is_int (rowid r) ≡ true → conflicts (Some (0 ∷ [])) schema.indexes mark_table (stored row) r ≡ has_rowid (pos 1) r
unfolding binary first_key
meets row r number = let v = int_is (rowid r) number in rw v (met (is_eq (value_cmp (Int (id_in (rowid r))) (Int (pos 1)))))
  where
    met : (b : Bool) → ((is_true (from_truth (Some b)) && true) || false) ≡ b
    met true = refl
    met false = refl

own : IsOwn mark_table
own = record { plain = λ db. refl; unkeyed = λ keys taken news. refl; uncounted = refl; spared = λ db next h. h }

upsert : (row : MarkRow) → IsUpsert mark_table (pos 1) (stored row) (given row) put_test put_wanted
upsert row = record {
  own = own;
  numbered = refl;
  keeps = λ top rows. refl;
  cast_is = cast_is row;
  meets = meets row;
  tests = λ r number. tests_number (pos 1) r number;
  shows = λ r is. ap (λ v. v ∷ v ∷ Null ∷ Int row.schema ∷ Int row.serial ∷ Int row.moment ∷ []) is;
}

abbrev IsOne : Row → Type 0
IsOne r = rowid r ≡ Int (pos 1)

one_is : is_eq (value_cmp (Int (pos 1)) (Int (pos 1))) ≡ true
one_is = ap is_eq (tied_itself value_cmp_total (Int (pos 1)))

pub keyed : IsKeyed nat_cmp mark_key mark_of IsOne
keyed = record { total = nat_cmp_total; same = λ a b g h. rw (g, h) (sym one_is) }

at : (r : Row) → IsOne r → is_eq (nat_cmp (mark_key (mark_of r)) 1) ≡ has_rowid (pos 1) r
at r h = rw h (sym one_is)

-- the tables with other marks
abbrev with_marks : List MarkRow → Tables → Tables
with_marks marks t = record t { marks = marks }

module _ (db next : Trees) (rows : List Row) (left : Leaves mark_table rows db next) where
  agree : Agree next (with_tree db 9 rows)
  agree = let s = left.others in (s.0 (λ e. cc), (s.1.0 (λ e. cc), (s.1.1.0 (λ e. cc), (s.1.1.1.0 (λ e. cc), (s.1.1.1.1.0 (λ e. cc), (left.rows_are, tt))))))

  others_told : tables_in next ≡ with_marks (by_key nat_cmp mark_key (map mark_of rows)) (tables_in db)
  others_told = told_agree next (with_tree db 9 rows) agree

  others_kept : AreKept db → AreNumbered rows → AllByRecursion (λ r. rowid r ≡ Int (pos 1)) rows → AreKept next
  others_kept kept n all = kept_agree next (with_tree db 9 rows) agree (record { realms = kept.realms; versions = kept.versions; accounts = kept.accounts; secrets = kept.secrets; sessions = kept.sessions; session_keys = kept.session_keys; tokens = kept.tokens; token_keys = kept.token_keys; marks = n; mark_keys = all })

module _ (old new : State) (ready : IsReady old) where
  abbrev db : Trees
  db = old.now.trees

  pub put_done : (row : MarkRow) (count : ℕ) → ExecutesInside 0 put_text (given row) old new (Ok count) → Changes old new (applying.put_row (rows.Mark row) (tables_in db))
  unfolding applying.put_row
  put_done row count h =
      let w = runs_as put_text (given row) old new schema ready.schema_is put_command put_is put_plain count h.0 in
      let text_is = statement_of put_text (understood schema put_text) in
      let n = ready.kept.marks in
      let did = puts mark_table (pos 1) (stored row) (given row) put_test put_wanted (upsert row) old.step_limit ((mode_of old).keys) db n (mode_of old) 5 put_terms 5 w.tally new.now refl
      (subst (λ s. Does old.step_limit (mode_of old) (given row) (record old.now { schema = s }) text_is None put_command (Ok (w.tally, new.now))) ready.schema_is w.changed) in
      let all = put_row (stored row) (without_rowid (pos 1) (db 9)) in
      let told = told_new keyed (pos 1) 1 at (db 9) ready.kept.mark_keys n (stored row) refl refl row refl refl in
      record {
        ready = record { schema_is = did.0; sound = w.sound; kept = others_kept db new.now.trees all did.1 ready.kept (numbered_put (pos 1) (stored row) (db 9) refl n) (all_put keyed (pos 1) 1 at (db 9) ready.kept.mark_keys n (stored row) refl refl row refl refl); inside = h.1.mode };
        is_open = h.1.is_open;
        tables_are = others_told db new.now.trees all did.1 ∙ ap (λ a. with_marks a (tables_in db)) told;
        committed = h.1.committed_is;
      }

  pub drop_done : (count : ℕ) → ExecutesInside 0 drop_text (Int (pos 1) ∷ []) old new (Ok count) → Changes old new (applying.drop_row (keys.Mark) (tables_in db))
  unfolding applying.drop_row
  drop_done count h =
      let w = runs_as drop_text (Int (pos 1) ∷ []) old new schema ready.schema_is drop_command drop_is drop_plain count h.0 in
      let text_is = statement_of drop_text (understood schema drop_text) in
      let n = ready.kept.marks in
      let did = drops mark_table (pos 1) own old.step_limit ((mode_of old).keys) db n (mode_of old) 5 w.tally new.now
      (subst (λ s. Does old.step_limit (mode_of old) (Int (pos 1) ∷ []) (record old.now { schema = s }) text_is None drop_command (Ok (w.tally, new.now))) ready.schema_is w.changed) in
      let all = without_rowid (pos 1) (db 9) in
      let told = told_without keyed (pos 1) 1 at (db 9) ready.kept.mark_keys n in
      record {
        ready = record { schema_is = did.0; sound = w.sound; kept = others_kept db new.now.trees all did.1 ready.kept (numbered_without (pos 1) (db 9) n) (all_without keyed (pos 1) 1 at (db 9) ready.kept.mark_keys n); inside = h.1.mode };
        is_open = h.1.is_open;
        tables_are = others_told db new.now.trees all did.1 ∙ ap (λ a. with_marks a (tables_in db)) told;
        committed = h.1.committed_is;
      }

pub create_makes : (old new : State) (r : Result ℕ Error) → IsBegun schema_5 old → ExecutesInside 0 mark_text [] old new r → OnOk r (IsMade schema_5 schema old new)
create_makes = creates schema_5 mark mark_text create_is create_plain create_lacks

pub select_lists : (old new : State) (rows : List Row) → old.now.schema ≡ schema → Shown load_text [] old new rows → AreListed mark_shown (old.now.trees 9) rows × IsUnchanged old new
select_lists = lists 9 (col 1 0) (col 1 2 ∷ col 1 3 ∷ col 1 4 ∷ []) load_text _ load_is load_plain (λ db. refl)

pub select_refused : (old new : State) (e : Error) → IsBegun schema old → fault_of e ≡ Failed → FailsToQuery load_text [] old new e ⊎ IsTooLate load_text [] old new e → IsRefused old new
select_refused old new e begun failed =
    refused 9 (col 1 0) (col 1 2 ∷ col 1 3 ∷ col 1 4 ∷ []) load_text _ load_is.0 load_plain load_whole load_accepts old new e begun.schema_is failed load_is.1 begun
