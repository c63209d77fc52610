-- What the texts on realms do.
use Rattle.std.proofs.Common.{◌≡◌, ◌⊎◌, ℕ, pos, Bool, true, false, List, [], ◌∷◌, ◌&&◌, ◌||◌, map, Ok, Result, OnOk, None, Some, refl, ap, subst, ◌∙◌, arith}
use Rattle.std.specs.Ordering.{is_eq, nat_cmp}
use Rattle.std.specs.List.{AllByRecursion}
use Rattle.std.proofs.lemmas.Cmp.{nat_cmp_total}
use Rattle.std.proofs.lemmas.Bool.Decides.{nat_tests}
use Rattle.std.proofs.lemmas.Int.{ints}
use Rattle.realm_data.specs.declared.realm_parts.RealmParts.{RealmParts}
use Rattle.realm_file.specs.RealmFile.{realm_read}
use Rattle.sql_base.specs.Told.{realm_in}
use Rattle.sqlite.specs.declared.types.Value.TheVariants.{Null, Int, Text}
use Rattle.sqlite.specs.Order.{Row, value_cmp}
use Rattle.sqlite_value.proofs.OrderLemmas.{value_cmp-Int}
use Rattle.sqlite_value.specs.Keys.{first_key}
use Rattle.sqlite.specs.Cast.{cast_row}
use Rattle.sqlite.specs.Ops.{unary}
use Rattle.sqlite_sql.specs.Ops.{binary, is_true, from_truth}
use Rattle.sqlite.specs.Tree.{Trees}
use Rattle.sqlite_trees.specs.Tree.{rowid, has_rowid, without_rowid, put_row, with_tree}
use Rattle.sqlite_trees.specs.View.{is_int}
use Rattle.sqlite_rules.specs.Edit.{id_in}
use Rattle.sqlite_rules.specs.Keys.{conflicts}
use Rattle.sqlite_rules.proofs.TableLemmas.{int_is}
use Rattle.sqlite.specs.declared.error.Error.{Error}
use Rattle.sqlite.specs.Does.{Does}
use Rattle.sqlite.specs.Listing.{understood}
use Rattle.sqlite.specs.State.{State, mode_of, ExecutesInside, Shown, IsUnchanged, FailsToQuery, IsTooLate}
use Rattle.sqlite.proofs.Callers.{statement_of, runs_as}
use Rattle.keeper_rows.specs.declared.rows.RealmRow.{RealmRow}
use Rattle.keeper_rows.specs.declared.change.Row.TheVariants as rows
use Rattle.keeper_rows.specs.declared.change.RowKey.TheVariants as keys
use Rattle.keeper_rows.specs.declared.tables.Tables.{Tables}
use Rattle.keeper_rows.specs.Applied.{realm_key}
use Rattle.keeper_rows.specs.Applied as applying
use Rattle.sqlite.specs.Term.{col}
use Rattle.sql_base.specs.Schema.{realm, realm_text, no_schema, schema_1, schema}
use Rattle.sql_base.specs.Steps.{IsBegun, IsMade, AreListed, IsRefused}
use Rattle.sql_base.proofs.CreateLemmas.{creates}
use Rattle.sql_base.proofs.ListingLemmas.{lists}
use Rattle.sql_base.proofs.RefusalLemmas.{refused}
use Rattle.sql_base.specs.Faults.{fault_of}
use Rattle.sql_base.specs.declared.fault.Fault.TheVariants.{Failed}
use Rattle.sql_accounts.specs.Shown.{realm_shown}
use Rattle.sql_base.specs.Told.{realm_of, by_key, tables_in}
use Rattle.sql_base.specs.Ready.{AreNumbered, IsNatural, AreKept, IsReady, Changes}
use Rattle.sql_accounts.proofs.NumberLemmas.{tests_number, numbered_put, numbered_without}
use Rattle.sql_accounts.proofs.TableLemmas.{IsKeyed, told_without, told_new, all_put, all_without}
use Rattle.sql_accounts.proofs.AgreeLemmas.{Agree, told_agree, kept_agree}
use Rattle.sql_accounts.proofs.WriteLemmas.{IsOwn, IsUpsert, Leaves, puts, drops, either}
use Rattle.sql_accounts.proofs.RealmTexts.{realm_table, put_text, drop_text, put_terms, put_test, put_wanted, put_command, drop_command, put_is, drop_is, put_plain, drop_plain, load_text, load_is, load_plain, load_whole, load_accepts, create_is, create_plain, create_lacks}

-- a row as the table keeps it, and as the text's parameters give it
abbrev pub stored : ℕ → List ℕ → Row
stored version text = Int (pos version) ∷ Null ∷ Text text ∷ []

abbrev pub given : ℕ → List ℕ → Row
given version text = Int (pos version) ∷ Text text ∷ []

cast_is : (version : ℕ) (text : List ℕ) → cast_row realm_table (stored version text) ≡ stored version text
unfolding unary
cast_is version text = rw (either _ (Int (pos version)), either _ Null) refl

-- a row meets another exactly where they have one number
meets : (version : ℕ) (text : List ℕ) (r : Row) → is_int (rowid r) ≡ true → conflicts (Some (0 ∷ [])) schema.indexes realm_table (stored version text) r ≡ has_rowid (pos version) r
unfolding binary first_key
meets version text r number = let v = int_is (rowid r) number in rw v (met (is_eq (value_cmp (Int (id_in (rowid r))) (Int (pos version)))))
  where
    met : (b : Bool) → ((is_true (from_truth (Some b)) && true) || false) ≡ b
    met true = refl
    met false = refl

own : IsOwn realm_table
own = record { plain = λ db. refl; unkeyed = λ keys taken news. refl; uncounted = refl; spared = λ db next h. h }

upsert : (version : ℕ) (text : List ℕ) → IsUpsert realm_table (pos version) (stored version text) (given version text) put_test put_wanted
upsert version text = record {
  own = own;
  numbered = refl;
  keeps = λ top rows. refl;
  cast_is = cast_is version text;
  meets = meets version text;
  tests = λ r number. tests_number (pos version) r number;
  shows = λ r is. ap (λ v. v ∷ v ∷ Null ∷ Text text ∷ []) is;
}

same_number : (m n : ℕ) → is_eq (nat_cmp m n) ≡ is_eq (value_cmp (Int (pos m)) (Int (pos n)))
same_number m n = let e = value_cmp-Int (pos m) (pos n) in rw e (grind (arith, ints, nat_tests))

pub keyed : IsKeyed nat_cmp realm_key realm_of IsNatural
keyed = record { total = nat_cmp_total; same = λ a b g h. rw (g.1, h.1) (same_number g.0 h.0) }

at : (k : ℕ) (r : Row) → IsNatural r → is_eq (nat_cmp (realm_key (realm_of r)) k) ≡ has_rowid (pos k) r
at k r h = rw (h.1) (same_number h.0 k)

-- the tables with other realms
abbrev with_realms : List RealmRow → Tables → Tables
with_realms realms t = record t { realms = realms }

module _ (db next : Trees) (rows : List Row) (left : Leaves realm_table rows db next) where
  agree : Agree next (with_tree db 0 rows)
  agree = let s = left.others in (left.rows_are, (s.1.0 (λ e. cc), (s.1.1.0 (λ e. cc), (s.1.1.1.0 (λ e. cc), (s.1.1.1.1.0 (λ e. cc), (s.1.1.1.1.1.0 (λ e. cc), tt))))))

  others_told : tables_in next ≡ with_realms (by_key nat_cmp realm_key (map realm_of rows)) (tables_in db)
  others_told = told_agree next (with_tree db 0 rows) agree

  others_kept : AreKept db → AreNumbered rows → AllByRecursion IsNatural rows → AreKept next
  others_kept kept n all = kept_agree next (with_tree db 0 rows) agree (record { realms = n; versions = all; accounts = kept.accounts; secrets = kept.secrets; sessions = kept.sessions; session_keys = kept.session_keys; tokens = kept.tokens; token_keys = kept.token_keys; marks = kept.marks; mark_keys = kept.mark_keys })

module _ (old new : State) (ready : IsReady old) where
  abbrev db : Trees
  db = old.now.trees

  pub put_done : (version : ℕ) (text : List ℕ) (realm : RealmParts) → realm_read text ≡ Ok realm → (count : ℕ) → ExecutesInside 0 put_text (given version text) old new (Ok count) → Changes old new (applying.put_row (rows.Realm version realm) (tables_in db))
  unfolding applying.put_row
  put_done version text realm is count h =
      let w = runs_as put_text (given version text) old new schema ready.schema_is put_command put_is put_plain count h.0 in
      let text_is = statement_of put_text (understood schema put_text) in
      let n = ready.kept.realms in
      let did = puts realm_table (pos version) (stored version text) (given version text) put_test put_wanted (upsert version text) old.step_limit ((mode_of old).keys) db n (mode_of old) 0 put_terms 3 w.tally new.now refl
      (subst (λ s. Does old.step_limit (mode_of old) (given version text) (record old.now { schema = s }) text_is None put_command (Ok (w.tally, new.now))) ready.schema_is w.changed) in
      let all = put_row (stored version text) (without_rowid (pos version) (db 0)) in
      let told = told_new keyed (pos version) version (at version) (db 0) ready.kept.versions n (stored version text) refl (version, refl) (record { version = version; realm = realm }) (ap (λ found. record { version = version; realm = realm_in found }) is) refl in
      record {
        ready = record { schema_is = did.0; sound = w.sound; kept = others_kept db new.now.trees all did.1 ready.kept (numbered_put (pos version) (stored version text) (db 0) refl n) (all_put keyed (pos version) version (at version) (db 0) ready.kept.versions n (stored version text) refl (version, refl) (record { version = version; realm = realm }) (ap (λ found. record { version = version; realm = realm_in found }) is) refl); inside = h.1.mode };
        is_open = h.1.is_open;
        tables_are = others_told db new.now.trees all did.1 ∙ ap (λ a. with_realms a (tables_in db)) told;
        committed = h.1.committed_is;
      }

  pub drop_done : (version : ℕ) (count : ℕ) → ExecutesInside 0 drop_text (Int (pos version) ∷ []) old new (Ok count) → Changes old new (applying.drop_row (keys.Realm version) (tables_in db))
  unfolding applying.drop_row
  drop_done version count h =
      let w = runs_as drop_text (Int (pos version) ∷ []) old new schema ready.schema_is drop_command drop_is drop_plain count h.0 in
      let text_is = statement_of drop_text (understood schema drop_text) in
      let n = ready.kept.realms in
      let did = drops realm_table (pos version) own old.step_limit ((mode_of old).keys) db n (mode_of old) 0 w.tally new.now
      (subst (λ s. Does old.step_limit (mode_of old) (Int (pos version) ∷ []) (record old.now { schema = s }) text_is None drop_command (Ok (w.tally, new.now))) ready.schema_is w.changed) in
      let all = without_rowid (pos version) (db 0) in
      let told = told_without keyed (pos version) version (at version) (db 0) ready.kept.versions n in
      record {
        ready = record { schema_is = did.0; sound = w.sound; kept = others_kept db new.now.trees all did.1 ready.kept (numbered_without (pos version) (db 0) n) (all_without keyed (pos version) version (at version) (db 0) ready.kept.versions n); inside = h.1.mode };
        is_open = h.1.is_open;
        tables_are = others_told db new.now.trees all did.1 ∙ ap (λ a. with_realms a (tables_in db)) told;
        committed = h.1.committed_is;
      }

pub create_makes : (old new : State) (r : Result ℕ Error) → IsBegun no_schema old → ExecutesInside 0 realm_text [] old new r → OnOk r (IsMade no_schema schema_1 old new)
create_makes = creates no_schema realm realm_text create_is create_plain create_lacks

pub select_lists : (old new : State) (rows : List Row) → old.now.schema ≡ schema → Shown load_text [] old new rows → AreListed realm_shown (old.now.trees 0) rows × IsUnchanged old new
select_lists = lists 0 (col 1 0) (col 1 2 ∷ []) load_text _ load_is load_plain (λ db. refl)

pub select_refused : (old new : State) (e : Error) → IsBegun schema old → fault_of e ≡ Failed → FailsToQuery load_text [] old new e ⊎ IsTooLate load_text [] old new e → IsRefused old new
select_refused old new e begun failed =
    refused 0 (col 1 0) (col 1 2 ∷ []) load_text _ load_is.0 load_plain load_whole load_accepts old new e begun.schema_is failed load_is.1 begun
