-- What the texts on sessions do.
use Rattle.std.proofs.Common.{◌≡◌, ◌⊎◌, ℕ, List, [], ◌∷◌, map, drop, codes, Ok, Err, Result, OnOk, refl, subst, arith}
use Rattle.std.specs.List.{AllByRecursion}
use Rattle.std.proofs.lemmas.Bool.{and_parts}
use Rattle.keeper_rows.specs.Applied.{text_cmp, session_key, put_row, drop_row}
use Rattle.keeper_rows.specs.declared.change.Row.TheVariants as row_of
use Rattle.keeper_rows.specs.declared.change.RowKey.TheVariants as key_of
use Rattle.keeper_rows.specs.declared.rows.SessionRow.{SessionRow}
use Rattle.sqlite.specs.declared.types.Value.TheVariants.{Null, Int, Text}
use Rattle.sqlite.specs.declared.error.Error.{Error}
use Rattle.sqlite.specs.Collation.TheVariants.{Binary}
use Rattle.sqlite.specs.Effect.{Database, IsDatabase}
use Rattle.sqlite.specs.Ops.{unary}
use Rattle.sqlite.specs.Order.{Row, value_cmp}
use Rattle.sqlite.specs.State.{State, Shown, IsUnchanged, ExecutesInside, FailsToQuery, IsTooLate}
use Rattle.sqlite.specs.Table.{Table}
use Rattle.sqlite.specs.Term.{col}
use Rattle.sqlite.specs.Tree.{Trees}
use Rattle.sqlite_value.specs.Keys.{first_key}
use Rattle.sqlite_schema.specs.declared.schema.Constraint.TheVariants.{Datatype, NotNull, Unique}
use Rattle.sqlite_schema.specs.Rules.{equal}
use Rattle.sqlite_catalog.specs.Listing.{IsSound}
use Rattle.sqlite_rules.proofs.ListLemmas.{all_has, all_from}
use Rattle.sql_base.specs.Schema.{schema, schema_3, schema_4, session, session_text}
use Rattle.sql_base.specs.Told.{by_key, session_of, tables_in}
use Rattle.sql_base.specs.Ready.{AreApart, AreNumbered, AreKept, IsReady, Changes}
use Rattle.sql_sessions.specs.Texts.{put_session_text, drop_session_text, load_session_text}
use Rattle.sql_base.specs.Steps.{IsBegun, IsMade, IsRefused, AreListed}
use Rattle.sql_sessions.specs.Values.{session_values, session_shown}
use Rattle.sql_base.proofs.CreateLemmas.{creates}
use Rattle.sql_base.proofs.ListingLemmas.{lists}
use Rattle.sql_base.proofs.RefusalLemmas.{refused}
use Rattle.sql_base.specs.Faults.{fault_of}
use Rattle.sql_base.specs.declared.fault.Fault.TheVariants.{Failed}
use Rattle.sql_sessions.proofs.Keys.{text_key, keys_apart, told_apart}
use Rattle.sql_sessions.proofs.Members.{key}
use Rattle.sql_sessions.proofs.Tells.{tells_put, tells_drop}
use Rattle.sql_sessions.proofs.Texts.{create_session_is, create_session_plain, load_session_is, load_session_plain, load_session_whole, load_session_accepts, put_session_is, put_session_plain, drop_session_is, drop_session_plain}
use Rattle.sql_sessions.proofs.Upserts.{IsText, IsUpsert, KeepsOthers, either, met}
use Rattle.sql_sessions.proofs.Writes.{puts, drops}

-- the table where it stands in the schema
abbrev pub session_at : Table
session_at = record session { tree = 5 }

upsert : (row : SessionRow) → IsUpsert session_at row.id (drop 1 (session_values row)) 7 (col 0 10 ∷ col 0 11 ∷ col 0 12 ∷ col 0 13 ∷ col 0 14 ∷ col 0 15 ∷ [])
unfolding unary first_key
upsert row = record {
  params = session_values row;
  uncounted = refl;
  low = λ db. refl;
  casts = λ n. rw (either _ (Int n), either _ (Int row.user), either _ (Int row.opened), either _ (Int row.seen), either _ (Int row.idle), either _ (Int row.max)) refl;
  casts_new = rw (either _ Null, either _ (Int row.user), either _ (Int row.opened), either _ (Int row.seen), either _ (Int row.idle), either _ (Int row.max)) refl;
  tests = λ there n r. refl;
  writes = λ there n r. refl;
  meets = λ n r. met (equal Binary (key r) (Text row.id));
}

-- what is known of the rows of a sound database
module _ (db : Database) (has : db.schema ≡ schema) (sound : IsDatabase db) where
  obeys : IsSound schema db.trees
  obeys = subst (λ s. IsSound s db.trees) has sound

  pub typed : AllByRecursion (λ r. IsText (key r)) (db.trees 5)
  typed = all_from _ (db.trees 5) (λ r h.
      text_key (codes "id") (drop 1 session.columns) r (and_parts _ _ (all_has _ (db.trees 5) r (obeys.obeys.rules Datatype).1.1.1.0 h)).0 (all_has _ (db.trees 5) r (obeys.obeys.rules NotNull).1.1.1.0 h))

  pub keyed : AreNumbered (db.trees 5) → AreApart value_cmp key (db.trees 5)
  keyed are = keys_apart (db.trees 5) are typed (all_from _ (db.trees 5) (λ r h. (and_parts _ _ (all_has _ (db.trees 5) r (obeys.obeys.rules Unique).1.1.1.0 h)).0))

  -- rows that have rowids of their own have keys of their own
  pub told_keyed : AreNumbered (db.trees 5) → AreApart text_cmp session_key (map session_of (db.trees 5))
  told_keyed are = told_apart session_of session_key (λ r. refl) (db.trees 5) typed (keyed are)

-- the tables, where only the sessions differ
module _ (old new : Trees) (others : KeepsOthers session_at old new) where
  realms_are : new 0 ≡ old 0
  realms_are = others.0 (λ e. omega arith)

  accounts_are : new 1 ≡ old 1
  accounts_are = others.1.0 (λ e. omega arith)

  secrets_are : new 3 ≡ old 3
  secrets_are = others.1.1.0 (λ e. omega arith)

  tokens_are : new 7 ≡ old 7
  tokens_are = others.1.1.1.1.0 (λ e. omega arith)

  marks_are : new 9 ≡ old 9
  marks_are = others.1.1.1.1.1.0 (λ e. omega arith)

  tables_are : (sessions : List SessionRow) → by_key text_cmp session_key (map session_of (new 5)) ≡ sessions → tables_in new ≡ record (tables_in old) { sessions = sessions }
  tables_are sessions is = rw (realms_are, accounts_are, secrets_are, tokens_are, marks_are, is) refl

  kept : AreKept old → AreNumbered (new 5) → AreApart text_cmp session_key (map session_of (new 5)) → AreKept new
  kept was are apart = record {
    realms = rw realms_are was.realms;
    versions = rw realms_are was.versions;
    accounts = rw accounts_are was.accounts;
    secrets = rw secrets_are was.secrets;
    sessions = are;
    session_keys = apart;
    tokens = rw tokens_are was.tokens;
    token_keys = rw tokens_are was.token_keys;
    marks = rw marks_are was.marks;
    mark_keys = rw marks_are was.mark_keys;
  }

pub put_changes : (old new : State) (row : SessionRow) (r : Result ℕ Error) → IsReady old → ExecutesInside 0 put_session_text (session_values row) old new r
    → OnOk r (Changes old new (put_row (row_of.Session row) (tables_in old.now.trees)))
unfolding put_row upsert
put_changes old new row (Err e) ready h = tt
put_changes old new row (Ok count) ready h =
    let are = ready.kept.sessions in
    let texts = typed old.now ready.schema_is ready.sound in
    let did = puts {table = session_at} 3 refl old new count ready.schema_is are texts (keyed old.now ready.schema_is ready.sound are) (upsert row) put_session_text _ _ put_session_is put_session_plain refl h.0 in
    let still = told_keyed new.now did.0.schema_is did.0.sound did.1.numbered in
    record {
      ready = record {
        schema_is = did.0.schema_is;
        sound = did.0.sound;
        kept = kept old.now.trees new.now.trees did.0.others ready.kept did.1.numbered still;
        inside = h.1.mode;
      };
      is_open = h.1.is_open;
      tables_are = tables_are old.now.trees new.now.trees did.0.others _
          (tells_put session_of session_key (λ r. refl) (old.now.trees 5) (new.now.trees 5) texts ready.kept.session_keys still row.id (drop 1 (session_values row)) row refl (λ n. refl) did.1);
      committed = h.1.committed_is;
    }

pub drop_changes : (old new : State) (id : List ℕ) (r : Result ℕ Error) → IsReady old → ExecutesInside 0 drop_session_text (Text id ∷ []) old new r
    → OnOk r (Changes old new (drop_row (key_of.Session id) (tables_in old.now.trees)))
unfolding drop_row
drop_changes old new id (Err e) ready h = tt
drop_changes old new id (Ok count) ready h =
    let are = ready.kept.sessions in
    let texts = typed old.now ready.schema_is ready.sound in
    let did = drops {table = session_at} 3 refl old new count ready.schema_is are texts (keyed old.now ready.schema_is ready.sound are) id (λ db. refl) drop_session_text drop_session_is drop_session_plain h.0 in
    let still = told_keyed new.now did.0.schema_is did.0.sound did.1.numbered in
    record {
      ready = record {
        schema_is = did.0.schema_is;
        sound = did.0.sound;
        kept = kept old.now.trees new.now.trees did.0.others ready.kept did.1.numbered still;
        inside = h.1.mode;
      };
      is_open = h.1.is_open;
      tables_are = tables_are old.now.trees new.now.trees did.0.others _
          (tells_drop session_of session_key (λ r. refl) (old.now.trees 5) (new.now.trees 5) texts ready.kept.session_keys still id did.1);
      committed = h.1.committed_is;
    }

pub create_makes : (old new : State) (r : Result ℕ Error) → IsBegun schema_3 old → ExecutesInside 0 session_text [] old new r → OnOk r (IsMade schema_3 schema_4 old new)
create_makes = creates schema_3 session session_text create_session_is create_session_plain refl

pub select_lists : (old new : State) (rows : List Row) → old.now.schema ≡ schema → Shown load_session_text [] old new rows → AreListed session_shown (old.now.trees 5) rows × IsUnchanged old new
select_lists = lists 5 (col 1 1) (col 1 2 ∷ col 1 3 ∷ col 1 4 ∷ col 1 5 ∷ col 1 6 ∷ col 1 7 ∷ col 1 0 ∷ []) load_session_text _ load_session_is load_session_plain (λ db. refl)

pub select_refused : (old new : State) (e : Error) → IsBegun schema old → fault_of e ≡ Failed → FailsToQuery load_session_text [] old new e ⊎ IsTooLate load_session_text [] old new e → IsRefused old new
select_refused old new e begun failed =
    refused 5 (col 1 1) (col 1 2 ∷ col 1 3 ∷ col 1 4 ∷ col 1 5 ∷ col 1 6 ∷ col 1 7 ∷ col 1 0 ∷ []) load_session_text _ load_session_is.0 load_session_plain load_session_whole load_session_accepts old new e begun.schema_is failed load_session_is.1 begun
