-- What the texts on secrets do.
use Rattle.std.proofs.Common.{◌≡◌, ◌⊎◌, ℕ, ℤ, Bool, true, false, List, [], ◌∷◌, ◌&&◌, ◌||◌, map, Ok, Result, OnOk, None, Some, refl, sym, ap, subst, ◌∙◌}
use Rattle.std.specs.Ordering.{is_eq, int_cmp}
use Rattle.std.proofs.lemmas.Cmp.{int_cmp_total}
use Rattle.sqlite.specs.declared.types.Value.TheVariants.{Null, Int, Text, Blob}
use Rattle.sqlite.specs.Order.{Row, value_cmp}
use Rattle.sqlite_value.proofs.OrderLemmas.{value_cmp-Int}
use Rattle.sqlite_value.specs.Keys.{first_key}
use Rattle.sqlite.specs.Cast.{cast_row}
use Rattle.sqlite.specs.Ops.{unary}
use Rattle.sqlite_sql.specs.Ops.{binary, is_true, from_truth}
use Rattle.sqlite.specs.Tree.{Trees}
use Rattle.sqlite_trees.specs.Tree.{rowid, has_rowid, without_rowid, put_row, with_tree}
use Rattle.sqlite_trees.specs.View.{is_int}
use Rattle.sqlite_rules.specs.Edit.{id_in}
use Rattle.sqlite_rules.specs.Keys.{conflicts}
use Rattle.sqlite_rules.proofs.TableLemmas.{int_is}
use Rattle.sqlite.specs.declared.error.Error.{Error}
use Rattle.sqlite.specs.Does.{Does}
use Rattle.sqlite.specs.Listing.{understood}
use Rattle.sqlite.specs.State.{State, mode_of, ExecutesInside, Shown, IsUnchanged, FailsToQuery, IsTooLate}
use Rattle.sqlite.proofs.Callers.{statement_of, runs_as}
use Rattle.keeper_rows.specs.declared.rows.SecretRow.{SecretRow}
use Rattle.keeper_rows.specs.declared.change.Row.TheVariants as rows
use Rattle.keeper_rows.specs.declared.change.RowKey.TheVariants as keys
use Rattle.keeper_rows.specs.declared.tables.Tables.{Tables}
use Rattle.keeper_rows.specs.Applied.{secret_key}
use Rattle.keeper_rows.specs.Applied as applying
use Rattle.sqlite.specs.Term.{col}
use Rattle.sql_base.specs.Schema.{secret, secret_text, schema_2, schema_3, schema}
use Rattle.sql_base.specs.Steps.{IsBegun, IsMade, AreListed, IsRefused}
use Rattle.sql_base.proofs.CreateLemmas.{creates}
use Rattle.sql_base.proofs.ListingLemmas.{lists}
use Rattle.sql_base.proofs.RefusalLemmas.{refused}
use Rattle.sql_base.specs.Faults.{fault_of}
use Rattle.sql_base.specs.declared.fault.Fault.TheVariants.{Failed}
use Rattle.sql_accounts.specs.Shown.{secret_shown}
use Rattle.sql_base.specs.Told.{secret_of, by_key, tables_in}
use Rattle.sql_base.specs.Ready.{AreNumbered, AreKept, IsReady, Changes}
use Rattle.sql_accounts.proofs.NumberLemmas.{tests_number, numbered_put, numbered_without}
use Rattle.sql_accounts.proofs.TableLemmas.{IsKeyed, told_without, told_new}
use Rattle.sql_accounts.proofs.AgreeLemmas.{Agree, told_agree, kept_agree}
use Rattle.sql_accounts.proofs.WriteLemmas.{IsOwn, IsUpsert, Leaves, puts, drops, either}
use Rattle.sql_accounts.proofs.SecretTexts.{secret_table, put_text, drop_text, put_terms, put_test, put_wanted, put_command, drop_command, put_is, drop_is, put_plain, drop_plain, load_text, load_is, load_plain, load_whole, load_accepts, create_is, create_plain, create_lacks}

-- a row as the table keeps it, and as the text's parameters give it
abbrev pub stored : SecretRow → Row
stored row = Int row.serial ∷ Null ∷ Int row.user ∷ Text row.kind ∷ Blob row.body ∷ Text row.spent ∷ []

abbrev pub given : SecretRow → Row
given row = Int row.serial ∷ Int row.user ∷ Text row.kind ∷ Blob row.body ∷ Text row.spent ∷ []

cast_is : (row : SecretRow) → cast_row secret_table (stored row) ≡ stored row
unfolding unary
cast_is row = rw (either _ (Int row.serial), either _ (Int row.user), either _ Null) refl

-- a row meets another exactly where they have one number
meets : (row : SecretRow) (r : Row) → is_int (rowid r) ≡ true → conflicts (Some (0 ∷ [])) schema.indexes secret_table (stored row) r ≡ has_rowid row.serial r
unfolding binary first_key
meets row r number = let v = int_is (rowid r) number in rw v (met (is_eq (value_cmp (Int (id_in (rowid r))) (Int row.serial))))
  where
    met : (b : Bool) → ((is_true (from_truth (Some b)) && true) || false) ≡ b
    met true = refl
    met false = refl

own : IsOwn secret_table
own = record { plain = λ db. refl; unkeyed = λ keys taken news. refl; uncounted = refl; spared = λ db next h. h }

upsert : (row : SecretRow) → IsUpsert secret_table row.serial (stored row) (given row) put_test put_wanted
upsert row = record {
  own = own;
  numbered = refl;
  keeps = λ top rows. refl;
  cast_is = cast_is row;
  meets = meets row;
  tests = λ r number. tests_number row.serial r number;
  shows = λ r is. ap (λ v. v ∷ v ∷ Null ∷ Int row.user ∷ Text row.kind ∷ Blob row.body ∷ Text row.spent ∷ []) is;
}

abbrev IsNumber : Row → Type 0
IsNumber r = is_int (rowid r) ≡ true

keyed : IsKeyed int_cmp secret_key secret_of IsNumber
keyed = record {
  total = int_cmp_total;
  same = λ a b g h. let v = int_is (rowid a) g in let w = int_is (rowid b) h in rw (v, w) (ap is_eq (sym (value_cmp-Int (id_in (rowid a)) (id_in (rowid b)))));
}

at : (id : ℤ) (r : Row) → IsNumber r → is_eq (int_cmp (secret_key (secret_of r)) id) ≡ has_rowid id r
at id r h = let v = int_is (rowid r) h in rw v (ap is_eq (sym (value_cmp-Int (id_in (rowid r)) id)))

-- the tables with other secrets
abbrev with_secrets : List SecretRow → Tables → Tables
with_secrets secrets t = record t { secrets = secrets }

module _ (db next : Trees) (rows : List Row) (left : Leaves secret_table rows db next) where
  agree : Agree next (with_tree db 3 rows)
  agree = let s = left.others in (s.0 (λ e. cc), (s.1.0 (λ e. cc), (left.rows_are, (s.1.1.1.0 (λ e. cc), (s.1.1.1.1.0 (λ e. cc), (s.1.1.1.1.1.0 (λ e. cc), tt))))))

  others_told : tables_in next ≡ with_secrets (by_key int_cmp secret_key (map secret_of rows)) (tables_in db)
  others_told = told_agree next (with_tree db 3 rows) agree

  others_kept : AreKept db → AreNumbered rows → AreKept next
  others_kept kept n = kept_agree next (with_tree db 3 rows) agree (record { realms = kept.realms; versions = kept.versions; accounts = kept.accounts; secrets = n; sessions = kept.sessions; session_keys = kept.session_keys; tokens = kept.tokens; token_keys = kept.token_keys; marks = kept.marks; mark_keys = kept.mark_keys })

module _ (old new : State) (ready : IsReady old) where
  abbrev db : Trees
  db = old.now.trees

  pub put_done : (row : SecretRow) (count : ℕ) → ExecutesInside 0 put_text (given row) old new (Ok count) → Changes old new (applying.put_row (rows.Secret row) (tables_in db))
  unfolding applying.put_row
  put_done row count h =
      let w = runs_as put_text (given row) old new schema ready.schema_is put_command put_is put_plain count h.0 in
      let text_is = statement_of put_text (understood schema put_text) in
      let n = ready.kept.secrets in
      let did = puts secret_table row.serial (stored row) (given row) put_test put_wanted (upsert row) old.step_limit ((mode_of old).keys) db n (mode_of old) 2 put_terms 6 w.tally new.now refl
      (subst (λ s. Does old.step_limit (mode_of old) (given row) (record old.now { schema = s }) text_is None put_command (Ok (w.tally, new.now))) ready.schema_is w.changed) in
      let all = put_row (stored row) (without_rowid row.serial (db 3)) in
      let told = told_new keyed row.serial row.serial (at row.serial) (db 3) n.numbers n (stored row) refl refl row refl refl in
      record {
        ready = record { schema_is = did.0; sound = w.sound; kept = others_kept db new.now.trees all did.1 ready.kept (numbered_put row.serial (stored row) (db 3) refl n); inside = h.1.mode };
        is_open = h.1.is_open;
        tables_are = others_told db new.now.trees all did.1 ∙ ap (λ a. with_secrets a (tables_in db)) told;
        committed = h.1.committed_is;
      }

  pub drop_done : (id : ℤ) (count : ℕ) → ExecutesInside 0 drop_text (Int id ∷ []) old new (Ok count) → Changes old new (applying.drop_row (keys.Secret id) (tables_in db))
  unfolding applying.drop_row
  drop_done id count h =
      let w = runs_as drop_text (Int id ∷ []) old new schema ready.schema_is drop_command drop_is drop_plain count h.0 in
      let text_is = statement_of drop_text (understood schema drop_text) in
      let n = ready.kept.secrets in
      let did = drops secret_table id own old.step_limit ((mode_of old).keys) db n (mode_of old) 2 w.tally new.now
      (subst (λ s. Does old.step_limit (mode_of old) (Int id ∷ []) (record old.now { schema = s }) text_is None drop_command (Ok (w.tally, new.now))) ready.schema_is w.changed) in
      let all = without_rowid id (db 3) in
      let told = told_without keyed id id (at id) (db 3) n.numbers n in
      record {
        ready = record { schema_is = did.0; sound = w.sound; kept = others_kept db new.now.trees all did.1 ready.kept (numbered_without id (db 3) n); inside = h.1.mode };
        is_open = h.1.is_open;
        tables_are = others_told db new.now.trees all did.1 ∙ ap (λ a. with_secrets a (tables_in db)) told;
        committed = h.1.committed_is;
      }

pub create_makes : (old new : State) (r : Result ℕ Error) → IsBegun schema_2 old → ExecutesInside 0 secret_text [] old new r → OnOk r (IsMade schema_2 schema_3 old new)
create_makes = creates schema_2 secret secret_text create_is create_plain create_lacks

pub select_lists : (old new : State) (rows : List Row) → old.now.schema ≡ schema → Shown load_text [] old new rows → AreListed secret_shown (old.now.trees 3) rows × IsUnchanged old new
select_lists = lists 3 (col 1 0) (col 1 2 ∷ col 1 3 ∷ col 1 4 ∷ col 1 5 ∷ []) load_text _ load_is load_plain (λ db. refl)

pub select_refused : (old new : State) (e : Error) → IsBegun schema old → fault_of e ≡ Failed → FailsToQuery load_text [] old new e ⊎ IsTooLate load_text [] old new e → IsRefused old new
select_refused old new e begun failed =
    refused 3 (col 1 0) (col 1 2 ∷ col 1 3 ∷ col 1 4 ∷ col 1 5 ∷ []) load_text _ load_is.0 load_plain load_whole load_accepts old new e begun.schema_is failed load_is.1 begun
