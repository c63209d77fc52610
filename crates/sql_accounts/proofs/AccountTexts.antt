-- What the texts on accounts mean.
use Rattle.std.proofs.Common.{◌≡◌, Ok, refl, List, [], ◌∷◌, Some, codes, true, false, ℕ}
use Rattle.sqlite.specs.declared.types.Value.TheVariants.{Null}
use Rattle.sqlite.specs.Collation.TheVariants.{Binary}
use Rattle.sqlite.specs.Table.{Table}
use Rattle.sqlite.specs.Term.{Term, lit, col, op2}
use Rattle.sqlite_sql.specs.declared.ops.BinaryOp.TheVariants.{Compare}
use Rattle.sqlite_sql.specs.declared.ops.CompareOp.TheVariants.{Eq}
use Rattle.sqlite.specs.Source.TheVariants.{Values}
use Rattle.sqlite.specs.Change.{created}
use Rattle.sqlite.specs.Compile.{table_defined_by}
use Rattle.sqlite.specs.Does.{lacks_sequence}
use Rattle.sqlite.specs.Listing.{understood, reads_listing}
use Rattle.sqlite.specs.Command.{Command}
use Rattle.sqlite.specs.Command.TheVariants.{InsertOr, Delete, Select, CreateTable}
use Rattle.sqlite_schema.specs.declared.command.Conflict.TheVariants.{Abort}
use Rattle.sqlite_tied.specs.Compute.{everything}
use Rattle.sqlite.proofs.Callers.{IsPlain, command_of, statement_of}
use Rattle.sql_base.specs.Schema.{account, account_text, schema_1, schema}
use Rattle.sqlite_typing.specs.Types.{accepts_program}
use Rattle.sql_base.proofs.QueryLemmas.{one_query, all_query}
use Rattle.sql_base.proofs.RefusalLemmas.{IsWhole}
use Rattle.sql_accounts.proofs.NumberLemmas.{rowid_test}

abbrev pub put_text : List ℕ
put_text =
    codes "INSERT INTO account (id, name, roles, enabled, count, last, until, permanent, actions) VALUES (?1, ?2, ?3, ?4, ?5, ?6, ?7, ?8, ?9) ON CONFLICT (id) DO UPDATE SET name = excluded.name, roles = excluded.roles, enabled = excluded.enabled, count = excluded.count, last = excluded.last, until = excluded.until, permanent = excluded.permanent, actions = excluded.actions"

abbrev pub drop_text : List ℕ
drop_text = codes "DELETE FROM account WHERE id = ?1"

abbrev pub load_text : List ℕ
load_text = codes "SELECT id, name, roles, enabled, count, last, until, permanent, actions FROM account ORDER BY id"

-- as the schema has it
abbrev pub account_table : Table
account_table = record account { tree = 1 }

abbrev pub put_terms : List Term
put_terms = col 0 0 ∷ lit Null ∷ col 0 1 ∷ col 0 2 ∷ col 0 3 ∷ col 0 4 ∷ col 0 5 ∷ col 0 6 ∷ col 0 7 ∷ col 0 8 ∷ []

abbrev pub put_test : List Term
put_test = op2 (Compare Eq Binary) (col 1 0) (col 0 9) ∷ []

abbrev pub put_wanted : List Term
put_wanted = col 1 0 ∷ col 1 0 ∷ lit Null ∷ col 0 12 ∷ col 0 13 ∷ col 0 14 ∷ col 0 15 ∷ col 0 16 ∷ col 0 17 ∷ col 0 18 ∷ col 0 19 ∷ []

abbrev pub put_command : Command
put_command =
    InsertOr 1 Abort (Values put_terms 10) (record { target = Some (0 ∷ []); update = Some (record { lets = []; body = one_query 1 put_test put_wanted }) } ∷ [])

abbrev pub drop_command : Command
drop_command = Delete 1 (record { lets = []; body = one_query 1 rowid_test (col 1 0 ∷ []) })

abbrev pub load_terms : List Term
load_terms = col 1 0 ∷ col 1 2 ∷ col 1 3 ∷ col 1 4 ∷ col 1 5 ∷ col 1 6 ∷ col 1 7 ∷ col 1 8 ∷ col 1 9 ∷ []

abbrev pub load_command : Command
load_command =
    Select (record { lets = []; body = all_query 1 (col 1 0) load_terms })
    (codes "id" ∷ codes "name" ∷ codes "roles" ∷ codes "enabled" ∷ codes "count" ∷ codes "last" ∷ codes "until" ∷ codes "permanent" ∷ codes "actions" ∷ [])

pub create_is : (command_of (understood schema_1 account_text) ≡ CreateTable) × (statement_of account_text (understood schema_1 account_text) ≡ account_text) × (table_defined_by account_text ≡ Ok account)
unfolding understood everything
create_is = (refl, refl, refl)

pub create_plain : IsPlain (understood schema_1 account_text)
unfolding understood everything
create_plain = (refl, refl)

pub create_lacks : lacks_sequence (created schema_1 account) ≡ false
create_lacks = refl

pub put_is : command_of (understood schema put_text) ≡ put_command
unfolding understood everything
put_is = refl

pub drop_is : command_of (understood schema drop_text) ≡ drop_command
unfolding understood everything
drop_is = refl

pub load_is : (command_of (understood schema load_text) ≡ load_command) × (reads_listing schema load_text ≡ false)
unfolding understood everything
load_is = (refl, refl)

pub put_plain : IsPlain (understood schema put_text)
unfolding understood everything
put_plain = (refl, refl)

pub drop_plain : IsPlain (understood schema drop_text)
unfolding understood everything
drop_plain = (refl, refl)

pub load_plain : IsPlain (understood schema load_text)
unfolding understood everything
load_plain = (refl, refl)

pub load_whole : IsWhole load_text (understood schema load_text)
unfolding understood everything
load_whole = (refl, refl)

pub load_accepts : accepts_program schema [] (all_query 1 (col 1 0) load_terms) [] ≡ true
load_accepts = refl
