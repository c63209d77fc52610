-- What the texts on tokens do.
use Rattle.std.proofs.Common.{◌≡◌, ◌⊎◌, ℕ, List, [], ◌∷◌, map, drop, codes, Ok, Err, Result, OnOk, refl, subst, arith}
use Rattle.std.specs.List.{AllByRecursion}
use Rattle.std.proofs.lemmas.Bool.{and_parts}
use Rattle.keeper_rows.specs.Applied.{text_cmp, token_key, put_row, drop_row}
use Rattle.keeper_rows.specs.declared.change.Row.TheVariants as row_of
use Rattle.keeper_rows.specs.declared.change.RowKey.TheVariants as key_of
use Rattle.keeper_rows.specs.declared.rows.TokenRow.{TokenRow}
use Rattle.sqlite.specs.declared.types.Value.TheVariants.{Null, Int, Text}
use Rattle.sqlite.specs.declared.error.Error.{Error}
use Rattle.sqlite.specs.Collation.TheVariants.{Binary}
use Rattle.sqlite.specs.Effect.{Database, IsDatabase}
use Rattle.sqlite.specs.Ops.{unary}
use Rattle.sqlite.specs.Order.{Row, value_cmp}
use Rattle.sqlite.specs.State.{State, Shown, IsUnchanged, ExecutesInside, FailsToQuery, IsTooLate}
use Rattle.sqlite.specs.Table.{Table}
use Rattle.sqlite.specs.Term.{col}
use Rattle.sqlite.specs.Tree.{Trees}
use Rattle.sqlite_value.specs.Keys.{first_key}
use Rattle.sqlite_schema.specs.declared.schema.Constraint.TheVariants.{Datatype, NotNull, Unique}
use Rattle.sqlite_schema.specs.Rules.{equal}
use Rattle.sqlite_catalog.specs.Listing.{IsSound}
use Rattle.sqlite_rules.proofs.ListLemmas.{all_has, all_from}
use Rattle.sql_base.specs.Schema.{schema, schema_4, schema_5, token, token_text}
use Rattle.sql_base.specs.Told.{by_key, token_of, tables_in}
use Rattle.sql_base.specs.Ready.{AreApart, AreNumbered, AreKept, IsReady, Changes}
use Rattle.sql_sessions.specs.Texts.{put_token_text, drop_token_text, load_token_text}
use Rattle.sql_base.specs.Steps.{IsBegun, IsMade, IsRefused, AreListed}
use Rattle.sql_sessions.specs.Values.{token_values, token_shown}
use Rattle.sql_base.proofs.CreateLemmas.{creates}
use Rattle.sql_base.proofs.ListingLemmas.{lists}
use Rattle.sql_base.proofs.RefusalLemmas.{refused}
use Rattle.sql_base.specs.Faults.{fault_of}
use Rattle.sql_base.specs.declared.fault.Fault.TheVariants.{Failed}
use Rattle.sql_sessions.proofs.Keys.{text_key, keys_apart, told_apart}
use Rattle.sql_sessions.proofs.Members.{key}
use Rattle.sql_sessions.proofs.Tells.{tells_put, tells_drop}
use Rattle.sql_sessions.proofs.Texts.{create_token_is, create_token_plain, load_token_is, load_token_plain, load_token_whole, load_token_accepts, put_token_is, put_token_plain, drop_token_is, drop_token_plain}
use Rattle.sql_sessions.proofs.Upserts.{IsText, IsUpsert, KeepsOthers, either, met}
use Rattle.sql_sessions.proofs.Writes.{puts, drops}

-- the table where it stands in the schema
abbrev pub token_at : Table
token_at = record token { tree = 7 }

upsert : (row : TokenRow) → IsUpsert token_at row.key (drop 1 (token_values row)) 5 (col 0 8 ∷ col 0 9 ∷ col 0 10 ∷ col 0 11 ∷ [])
unfolding unary first_key
upsert row = record {
  params = token_values row;
  uncounted = refl;
  low = λ db. refl;
  casts = λ n. rw (either _ (Int n), either _ (Int row.user), either _ (Int row.expiry), either _ (Int row.spent)) refl;
  casts_new = rw (either _ Null, either _ (Int row.user), either _ (Int row.expiry), either _ (Int row.spent)) refl;
  tests = λ there n r. refl;
  writes = λ there n r. refl;
  meets = λ n r. met (equal Binary (key r) (Text row.key));
}

-- what is known of the rows of a sound database
module _ (db : Database) (has : db.schema ≡ schema) (sound : IsDatabase db) where
  obeys : IsSound schema db.trees
  obeys = subst (λ s. IsSound s db.trees) has sound

  pub typed : AllByRecursion (λ r. IsText (key r)) (db.trees 7)
  typed = all_from _ (db.trees 7) (λ r h.
      text_key (codes "key") (drop 1 token.columns) r (and_parts _ _ (all_has _ (db.trees 7) r (obeys.obeys.rules Datatype).1.1.1.1.0 h)).0 (all_has _ (db.trees 7) r (obeys.obeys.rules NotNull).1.1.1.1.0 h))

  pub keyed : AreNumbered (db.trees 7) → AreApart value_cmp key (db.trees 7)
  keyed are = keys_apart (db.trees 7) are typed (all_from _ (db.trees 7) (λ r h. (and_parts _ _ (all_has _ (db.trees 7) r (obeys.obeys.rules Unique).1.1.1.1.0 h)).0))

  -- rows that have rowids of their own have keys of their own
  pub told_keyed : AreNumbered (db.trees 7) → AreApart text_cmp token_key (map token_of (db.trees 7))
  told_keyed are = told_apart token_of token_key (λ r. refl) (db.trees 7) typed (keyed are)

-- the tables, where only the tokens differ
module _ (old new : Trees) (others : KeepsOthers token_at old new) where
  realms_are : new 0 ≡ old 0
  realms_are = others.0 (λ e. omega arith)

  accounts_are : new 1 ≡ old 1
  accounts_are = others.1.0 (λ e. omega arith)

  secrets_are : new 3 ≡ old 3
  secrets_are = others.1.1.0 (λ e. omega arith)

  sessions_are : new 5 ≡ old 5
  sessions_are = others.1.1.1.0 (λ e. omega arith)

  marks_are : new 9 ≡ old 9
  marks_are = others.1.1.1.1.1.0 (λ e. omega arith)

  tables_are : (tokens : List TokenRow) → by_key text_cmp token_key (map token_of (new 7)) ≡ tokens → tables_in new ≡ record (tables_in old) { tokens = tokens }
  tables_are tokens is = rw (realms_are, accounts_are, secrets_are, sessions_are, marks_are, is) refl

  kept : AreKept old → AreNumbered (new 7) → AreApart text_cmp token_key (map token_of (new 7)) → AreKept new
  kept was are apart = record {
    realms = rw realms_are was.realms;
    versions = rw realms_are was.versions;
    accounts = rw accounts_are was.accounts;
    secrets = rw secrets_are was.secrets;
    sessions = rw sessions_are was.sessions;
    session_keys = rw sessions_are was.session_keys;
    tokens = are;
    token_keys = apart;
    marks = rw marks_are was.marks;
    mark_keys = rw marks_are was.mark_keys;
  }

pub put_changes : (old new : State) (row : TokenRow) (r : Result ℕ Error) → IsReady old → ExecutesInside 0 put_token_text (token_values row) old new r
    → OnOk r (Changes old new (put_row (row_of.Token row) (tables_in old.now.trees)))
unfolding put_row upsert
put_changes old new row (Err e) ready h = tt
put_changes old new row (Ok count) ready h =
    let are = ready.kept.tokens in
    let texts = typed old.now ready.schema_is ready.sound in
    let did = puts {table = token_at} 4 refl old new count ready.schema_is are texts (keyed old.now ready.schema_is ready.sound are) (upsert row) put_token_text _ _ put_token_is put_token_plain refl h.0 in
    let still = told_keyed new.now did.0.schema_is did.0.sound did.1.numbered in
    record {
      ready = record {
        schema_is = did.0.schema_is;
        sound = did.0.sound;
        kept = kept old.now.trees new.now.trees did.0.others ready.kept did.1.numbered still;
        inside = h.1.mode;
      };
      is_open = h.1.is_open;
      tables_are = tables_are old.now.trees new.now.trees did.0.others _
          (tells_put token_of token_key (λ r. refl) (old.now.trees 7) (new.now.trees 7) texts ready.kept.token_keys still row.key (drop 1 (token_values row)) row refl (λ n. refl) did.1);
      committed = h.1.committed_is;
    }

pub drop_changes : (old new : State) (k : List ℕ) (r : Result ℕ Error) → IsReady old → ExecutesInside 0 drop_token_text (Text k ∷ []) old new r
    → OnOk r (Changes old new (drop_row (key_of.Token k) (tables_in old.now.trees)))
unfolding drop_row
drop_changes old new k (Err e) ready h = tt
drop_changes old new k (Ok count) ready h =
    let are = ready.kept.tokens in
    let texts = typed old.now ready.schema_is ready.sound in
    let did = drops {table = token_at} 4 refl old new count ready.schema_is are texts (keyed old.now ready.schema_is ready.sound are) k (λ db. refl) drop_token_text drop_token_is drop_token_plain h.0 in
    let still = told_keyed new.now did.0.schema_is did.0.sound did.1.numbered in
    record {
      ready = record {
        schema_is = did.0.schema_is;
        sound = did.0.sound;
        kept = kept old.now.trees new.now.trees did.0.others ready.kept did.1.numbered still;
        inside = h.1.mode;
      };
      is_open = h.1.is_open;
      tables_are = tables_are old.now.trees new.now.trees did.0.others _
          (tells_drop token_of token_key (λ r. refl) (old.now.trees 7) (new.now.trees 7) texts ready.kept.token_keys still k did.1);
      committed = h.1.committed_is;
    }

pub create_makes : (old new : State) (r : Result ℕ Error) → IsBegun schema_4 old → ExecutesInside 0 token_text [] old new r → OnOk r (IsMade schema_4 schema_5 old new)
create_makes = creates schema_4 token token_text create_token_is create_token_plain refl

pub select_lists : (old new : State) (rows : List Row) → old.now.schema ≡ schema → Shown load_token_text [] old new rows → AreListed token_shown (old.now.trees 7) rows × IsUnchanged old new
select_lists = lists 7 (col 1 1) (col 1 2 ∷ col 1 3 ∷ col 1 4 ∷ col 1 5 ∷ col 1 0 ∷ []) load_token_text _ load_token_is load_token_plain (λ db. refl)

pub select_refused : (old new : State) (e : Error) → IsBegun schema old → fault_of e ≡ Failed → FailsToQuery load_token_text [] old new e ⊎ IsTooLate load_token_text [] old new e → IsRefused old new
select_refused old new e begun failed =
    refused 7 (col 1 1) (col 1 2 ∷ col 1 3 ∷ col 1 4 ∷ col 1 5 ∷ col 1 0 ∷ []) load_token_text _ load_token_is.0 load_token_plain load_token_whole load_token_accepts old new e begun.schema_is failed load_token_is.1 begun
